use Rattle.std.proofs.Common.{◌≡◌, drop}
use Rattle.aom_abstract_state.specs.Kinds.{none_owns}
use Rattle.aom_abstract_state.proofs.known.none_owns.Given as goal

abbrev pub invariant-loop-kind : goal.invariant-loop-kind
invariant-loop-kind l = none_owns l.kinds ≡ none_owns (drop l.kind-index l.kinds)
