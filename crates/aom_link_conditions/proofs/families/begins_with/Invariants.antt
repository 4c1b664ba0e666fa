use Rattle.std.proofs.Common.{◌≡◌, Some, slice_get}
use Rattle.aom_link_conditions.proofs.Each.{EachBelow}
use Rattle.aom_link_conditions.proofs.families.begins_with.Given as goal

abbrev pub invariant-loop-field : goal.invariant-loop-field
invariant-loop-field l = EachBelow (λ f t. slice_get l.fields f ≡ Some t) l.first l.field
