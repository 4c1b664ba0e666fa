use Rattle.std.proofs.Common.{◌≡◌, ◌+◌, drop}
use Rattle.aom_abstract_state.specs.Arguments.{arguments_moved}
use Rattle.aom_abstract_state.proofs.shape.AbstractState.without_arguments.Given as goal

abbrev pub invariant-loop-index : goal.invariant-loop-index
invariant-loop-index l = arguments_moved l.arguments l.first l.initial.left ≡ arguments_moved (drop l.index l.arguments) (l.first + l.index) l.left
