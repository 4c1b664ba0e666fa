use Rattle.aom_abstract_state.proofs.Starting.{none_placed, one_placed, all_placed}
use Rattle.aom_abstract_state.proofs.known.argument_kinds.Goals as goal

pub loop-index-init : goal.loop-index-init
loop-index-init c = none_placed _

pub loop-index-preserved : goal.loop-index-preserved
loop-index-preserved c = rw c.argument_kind.ensures (one_placed _ _ _ _ c.loop-index.invariant c.loop-index-test.true c.requires c.index-arguments-index.is)

pub returns : goal.returns
returns c = all_placed _ _ c.loop-index.index c.loop-index.invariant c.loop-index-test.false
