-- The run as it is is told, or nothing is.
use Rattle.std.proofs.Common.{refl}
use Rattle.aom_fault_injection.specs.Expected.{exploration_of}
use Rattle.aom_commands.proofs.Tries.{base_counted, base_judged, base_told, unbased_counts, unbased_judged, untold_base}
use Rattle.aom_commands.proofs.exploring.begin.Goals as goal

pub returns-then-base-clause-says : goal.returns-then-base-clause-says
returns-then-base-clause-says g c = base_told (exploration_of c.args.options) c.args.plain _ c.tell_base.result c.if-base.true c.tell_base.ensures.says

pub returns-then-base-clause-counts : goal.returns-then-base-clause-counts
returns-then-base-clause-counts g c = base_counted (exploration_of c.args.options) c.args.plain c.tell_base.result c.if-base.true c.tell_base.ensures.counts

pub returns-then-base-clause-unexpected : goal.returns-then-base-clause-unexpected
returns-then-base-clause-unexpected g c = base_judged (exploration_of c.args.options) c.args.plain c.tell_base.result c.if-base.true c.tell_base.ensures.unexpected

pub returns-else-base-clause-says : goal.returns-else-base-clause-says
returns-else-base-clause-says g c = untold_base (exploration_of c.args.options) c.args.plain _ c.if-base.false refl

pub returns-else-base-clause-counts : goal.returns-else-base-clause-counts
returns-else-base-clause-counts g c = unbased_counts (exploration_of c.args.options) c.args.plain _ c.if-base.false c.new.ensures.counts

pub returns-else-base-clause-unexpected : goal.returns-else-base-clause-unexpected
returns-else-base-clause-unexpected g c = unbased_judged (exploration_of c.args.options) c.args.plain _ c.if-base.false c.new.ensures.unexpected
