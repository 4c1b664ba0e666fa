use Rattle.std.proofs.Common.{subst, ◌∙◌}
use Rattle.std.specs.List.Sorted.{IsPermutation}
use Rattle.std.proofs.lemmas.List.Sorted.{IsNonDecreasingBy-from_sort}
use Rattle.aom_machine_state.proofs.refusals.Refusals.new.Goals as goal

pub invariant_of-result : goal.invariant_of-result
invariant_of-result c = (
  subst (λ xs. IsPermutation xs c.sort_unstable.new.self.items) (c.in_ok-ordered.ensures.items ∙ c.as_slice.ensures.value) c.sort_unstable.ensures.permutation,
  IsNonDecreasingBy-from_sort (λ x. x) _ c.sort_unstable.ensures.sorted,
)
