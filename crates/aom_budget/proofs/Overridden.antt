-- What goes from a method to what overrides it holds of all that override it, by an induction over the steps between them.
use Rattle.std.proofs.lemmas.Bool.Decides.{nat_tests}
use Rattle.std.proofs.Common.{arith, Bool, None, Option, Some, false, length, refl, subst, suc, sym, true, zero, ℕ, ◌<◌, ◌==◌, ◌||◌, ◌≡◌}
use Rattle.std.proofs.lemmas.Bool.{eqb-true}
use Rattle.std.proofs.lemmas.List.Elements.{All-get_or}
use Rattle.std.proofs.lemmas.Option.{get_or_from_slice_get, slice_get_within}
use Rattle.aom_budget.proofs.ImageLemmas.{some_given}
use Rattle.aom_image.specs.Image.{Image}
use Rattle.aom_image.specs.Views.{method_at}
use Rattle.aom_image.specs.WellFormed.{OverFits, WellFormed}
use Rattle.aom_image.specs.declared.method.Method.{Method}
use Rattle.aom_link_conditions.specs.Overriding.{leads_in, over_in, overridden_method, overrides}
use Rattle.aom_budget.proofs.LinkConditionsLemmas.{none_leads}

no_lead : (p : Image) (n m : ℕ) → leads_in p n None m ≡ true → ⊥
no_lead p n m h = let none = none_leads p n m in cc

module _ (p : Image) (P : ℕ → Type 0) (j : ℕ) (down : (k x : ℕ) → overridden_method p k ≡ Some x → P x → P k) (base : P j) where
  led : (n x : ℕ) → leads_in p n (Some x) j ≡ true → P x
  unfolding leads_in
  led zero x h = subst P (sym (eqb-true x j h)) base
  led (suc n) x h = go (x == j) refl h (λ y rest. led n y rest)
    where
      go : (b : Bool) → (x == j) ≡ b → (b || leads_in p n (overridden_method p x) j) ≡ true → ((y : ℕ) → leads_in p n (Some y) j ≡ true → P y) → P x
      go true same h later = subst P (sym (eqb-true x j same)) base
      go false other h later =
          some_given (λ o. leads_in p n o j ≡ true) (overridden_method p x) h (λ none. absurd (no_lead p n j none)) (λ y is rest. down x y is (later y rest))

  pub over_along : (k : ℕ) → overrides p k j ≡ true → P k
  over_along k over = some_given (λ o. leads_in p (length p.methods) o j ≡ true) (overridden_method p k) over (λ none. absurd (no_lead p (length p.methods) j none))
      (λ x is rest. down k x is (led (length p.methods) x rest))

-- a method that overrides is one of the image's
pub overrider_is : (p : Image) (k j : ℕ) → overrides p k j ≡ true → (d : Method) × (method_at p k ≡ Some d)
unfolding over_in
overrider_is p k j over = grind (arith, nat_tests, no_lead p)

-- and so is what is overridden
over_fits : (p : Image) (y : ℕ) (o : Option ℕ) → OverFits p.header.version (length p.methods) o → o ≡ Some y → y < length p.methods
over_fits p y x f is = grind arith

over_there : (p : Image) → WellFormed p → (x y : ℕ) (o : Option Method) → method_at p x ≡ o → over_in o ≡ Some y → y < length p.methods
unfolding over_in method_at
over_there p formed x y None is at = cc
over_there p formed x y (Some d) is at = grind (
  arith,
  nat_tests,
  get_or_from_slice_get p.methods x d d is,
  All-get_or,
  slice_get_within p.methods x d is,
  over_fits p y d.over,
)

method_within : (p : Image) (x : ℕ) (d : Method) → method_at p x ≡ Some d → x < length p.methods
unfolding method_at
method_within p x d is = slice_get_within p.methods x d is

pub overridden_there : (p : Image) → WellFormed p → (k j : ℕ) → overrides p k j ≡ true → j < length p.methods
overridden_there p formed k j over =
    let w = overrider_is p k j over in
    over_along p (λ x. x < length p.methods → j < length p.methods) j (λ x y is later here. later (over_there p formed x y (method_at p x) refl is))
    (λ h. h) k over (method_within p k w.0 w.1)
