-- What stands in rows: for each method what a call of it runs on a class, and for each role the method of a class.
use Rattle.std.proofs.Common.{arith, ◌≡◌, ◌<◌, ◌≤◌, ◌∙◌, ◌∷◌, [], ℕ, zero, suc, true, List, Option, Some, None, IfSome, IsSome, length, slice_get, slice_index_or, ap, refl, subst, sym}
use Rattle.std.proofs.lemmas.Option.{slice_get-get_or}
use Rattle.aom_image.specs.Image.{Image}
use Rattle.aom_image.specs.Views.{method_at}
use Rattle.aom_image.specs.declared.method.Role.{Role}
use Rattle.aom_roles.specs.Families.{parent_of}
use Rattle.aom_link_conditions.specs.Chains.{AreOverriders, number_or_none}
use Rattle.aom_link_conditions.specs.Overriding.{body_by, body_of, overrider_of}
use Rattle.aom_link_conditions.specs.Roles.{is_inherited, own_role, role_of}
use Rattle.aom_linker.specs.Bodies.{IsRowOf, body_above}
use Rattle.aom_linker.specs.Table.{role_from}
use Rattle.aom_linker.proofs.LinkConditionsLemmas.{overrider_there, role_nowhere, role_up, within}
use Rattle.aom_linker.proofs.Nearest.{by_parent}

pub some_there : {X : Type 0} (xs : List X) (k : ℕ) → k < length xs → IsSome (slice_get xs k)
some_there [] k lt = absurd (omega (arith, lt))
some_there (x ∷ xs) zero lt = refl
some_there (x ∷ xs) (suc k) lt = some_there xs k (omega (arith, lt))

-- what a row answers for a method that is there
pub read_row : (p : Image) (c : ℕ) (row : Option (List ℕ)) (numbers : List ℕ) (m answer : ℕ) → row ≡ Some numbers →
    ((k : ℕ) → slice_get numbers m ≡ Some k → answer ≡ k) → IsRowOf p c row → IsSome (method_at p m) → answer ≡ body_of p m (Some c)
unfolding method_at
read_row p c row numbers m answer is says row_is there =
    let here : IsRowOf p c (Some numbers) = subst (IsRowOf p c) is row_is in
    let lt = within p.methods p.methods m m refl refl there in
    let at = slice_get-get_or numbers m 0 (let size = here.size in omega (arith, size, lt)) in
    let each : IfSome (Some (slice_index_or numbers m 0)) (λ k. k ≡ body_of p m (Some c)) = subst (λ o. IfSome o (λ k. k ≡ body_of p m (Some c))) at (here.each m) in
    says (slice_index_or numbers m 0) at ∙ each

-- a class's own, or what runs on its parent
pub row_more : (p : Image) (c i : ℕ) (table read : List ℕ) (m above body : ℕ) → AreOverriders p c table → read ≡ table → m ≡ i → above ≡ body_above p m c →
    i < length p.methods → length p.methods ≤ 1024 → ((o : Option ℕ) → slice_index_or read i 0 ≡ number_or_none o → IfSome o (λ k. k < 1024) → body ≡ body_by above o) →
    body ≡ body_of p i (Some c)
row_more p c i table read m above body own same is up lt few so =
    let a = subst (AreOverriders p c) (sym same) own in
    let at = a.each i (slice_index_or read i 0) (slice_get-get_or read i 0 (let size = a.size in omega (arith, size, lt, few))) in
    so (overrider_of p c i) at (below (overrider_of p c i) refl) ∙ ap (λ k. body_by k (overrider_of p c i)) (up ∙ ap (λ k. body_above p k c) is) ∙ sym (by_parent p i c)
  where
    below : (o : Option ℕ) → overrider_of p c i ≡ o → IfSome o (λ k. k < 1024)
    below None e = tt
    below (Some k) e = let there = overrider_there p c i k e in omega (arith, there, few)

-- ---- roles

pub role_above : (p : Image) (c : ℕ) (r : Role) → own_role p c r ≡ None → is_inherited r ≡ true → role_from p r (parent_of p c) ≡ role_of p c r
role_above p c r none so = go (parent_of p c) refl
  where
    go : (o : Option ℕ) → parent_of p c ≡ o → role_from p r o ≡ role_of p c r
    go None e = sym (role_nowhere p c r none so e)
    go (Some d) e = role_up p c r d none so e
