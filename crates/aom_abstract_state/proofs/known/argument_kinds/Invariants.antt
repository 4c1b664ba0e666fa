use Rattle.aom_abstract_state.proofs.Starting.{Placed}
use Rattle.aom_abstract_state.proofs.known.argument_kinds.Given as goal

abbrev pub invariant-loop-index : goal.invariant-loop-index
invariant-loop-index l = Placed l.arguments l.kinds l.index
