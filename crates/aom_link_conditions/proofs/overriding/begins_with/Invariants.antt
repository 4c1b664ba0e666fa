use Rattle.std.proofs.Common.{◌≡◌, Some, slice_get}
use Rattle.aom_link_conditions.proofs.Each.{EachBelow}
use Rattle.aom_link_conditions.proofs.overriding.begins_with.Given as goal

abbrev pub invariant-loop-index : goal.invariant-loop-index
invariant-loop-index l = EachBelow (λ i t. slice_get l.arguments i ≡ Some t) l.first l.index
