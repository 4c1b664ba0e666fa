use Rattle.std.proofs.Common.{rules}
use Rattle.aom_natives.proofs.counter.Counter.new.Goals as goal

pub returns-clause-value : goal.returns-clause-value
returns-clause-value c = search rules
