-- They are told one after the other.
use Rattle.std.proofs.Common.{refl}
use Rattle.aom_diagnostic_commands.specs.EachMethod.{RefusalToldSo}
use Rattle.aom_diagnostic_commands.specs.EachMethod.EachTold.{none}
use Rattle.aom_diagnostic_commands.proofs.EachAnswer.{told_next}
use Rattle.aom_diagnostic_commands.proofs.each_method.tell_each.Goals as goal

pub loop-refusal-init : goal.loop-refusal-init
loop-refusal-init g c = none refl

pub loop-refusal-preserved : goal.loop-refusal-preserved
loop-refusal-preserved g c =
    told_next (RefusalToldSo c.args.telling c.args.program.now.image c.args.program.now.text) c.args.refusals.now c.loop-refusal.refusal-index _ _ _ _ _ _
    c.loop-refusal-test.true c.loop-refusal.invariant (rw c.refusal-item.is at c.tell_refusal.ensures)
