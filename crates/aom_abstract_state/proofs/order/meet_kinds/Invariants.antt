use Rattle.aom_abstract_state.specs.Meet.{Met}
use Rattle.aom_abstract_state.proofs.order.meet_kinds.Given as goal

abbrev pub invariant-loop-index : goal.invariant-loop-index
invariant-loop-index l = Met l.a l.b l.kinds l.index
