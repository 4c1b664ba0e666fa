use Rattle.std.proofs.Common.{◌∙◌, ◌==◌, ℕ, ap, subst, List, rules}
use Rattle.std.specs.List.{list_any}
use Rattle.std.specs.List.Sorted.{IsBinarySearchResult}
use Rattle.std.specs.Ordering.{nat_cmp}
use Rattle.std.proofs.lemmas.Fn.{always_returns_same}
use Rattle.aom_machine_state.proofs.Found.{found}
use Rattle.aom_machine_state.proofs.refusals.Refusals.contains.Goals as goal

pub returns : goal.returns
returns c =
    let place = c.binary_search_by_key-place.ensures.position (λ x. x) (always_returns_same _ _ _ (λ a r f called. search rules)) in
    let is = subst (λ (xs : List ℕ). IsBinarySearchResult (λ y. nat_cmp y c.args.number) xs c.binary_search_by_key-place.result) c.deref.ensures.value place in
    c.is_ok.ensures.value ∙ found c.self.inside.numbers.items c.self.inside.ordered.items c.args.number _ c.self.invariant.0 c.self.invariant.1 is
    ∙ ap (list_any (λ n. n == c.args.number)) c.self.view_is
