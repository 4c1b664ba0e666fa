-- What a call runs is the method that it names or one that overrides it, by what is found for a class and for those above it.
use Rattle.std.proofs.Common.{Option, Some, None, ap, inl, inr, refl, suc, true, zero, ℕ, ◌∙◌, ◌≡◌, ◌⊎◌}
use Rattle.std.proofs.lemmas.Bool.{and_parts}
use Rattle.aom_inheritance.proofs.ImageLemmas.{some_given}
use Rattle.aom_image.specs.Image.{Image}
use Rattle.aom_image.specs.Views.{method_at}
use Rattle.aom_image.specs.declared.method.Method.{Method}
use Rattle.aom_inheritance.proofs.LinkConditionsLemmas.{found, none_leads}
use Rattle.aom_link_conditions.specs.Overriding.{body_by, body_of, found_in, leads_to, over_in, overrider_of, overrides, replaces}
use Rattle.aom_link_conditions.specs.Roles.{is_class, or_else}
use Rattle.aom_roles.specs.Families.{parent_of}
use Rattle.std.specs.Prelude.{length}

-- what overrides a method is there
pub overrides_there : (p : Image) (k m : ℕ) → overrides p k m ≡ true → (d : Method) × (method_at p k ≡ Some d) × (leads_to p d.over m ≡ true)
unfolding over_in
overrides_there p k m h = some_given (λ o. leads_to p (over_in o) m ≡ true) (method_at p k) h (λ none. let clash = none_leads p (length p.methods) m in cc)
    (λ d at leads. (d, at, leads))

module _ (p : Image) (m : ℕ) where
  class_overrides : (c k : ℕ) → overrider_of p c m ≡ Some k → overrides p k m ≡ true
  unfolding overrider_of replaces method_at over_in
  class_overrides c k h =
      let w = found (replaces p c m) p.methods k h in
      ap (λ o. leads_to p (over_in o) m) w.1 ∙ (and_parts (is_class c w.0.class) (leads_to p w.0.over m) w.2).1

  found_overrides : (n : ℕ) (c : Option ℕ) (k : ℕ) → found_in p n c m ≡ Some k → overrides p k m ≡ true
  unfolding found_in
  found_overrides n None k h = cc
  found_overrides zero (Some c) k h = class_overrides c k h
  found_overrides (suc n) (Some c) k h = go (overrider_of p c m) refl h (λ above. found_overrides n (parent_of p c) k above)
    where
      go : (o : Option ℕ) → overrider_of p c m ≡ o → or_else o (found_in p n (parent_of p c) m) ≡ Some k →
          (found_in p n (parent_of p c) m ≡ Some k → overrides p k m ≡ true) → overrides p k m ≡ true
      go (Some j) f h later = class_overrides c k (f ∙ h)
      go None f h later = later h

  pub body_runs : (view : Option ℕ) → (m ≡ body_of p m view) ⊎ (overrides p (body_of p m view) m ≡ true)
  unfolding body_of
  body_runs None = inl refl
  body_runs (Some c) = go (found_in p c (Some c) m) refl
    where
      go : (o : Option ℕ) → found_in p c (Some c) m ≡ o → (m ≡ body_by m o) ⊎ (overrides p (body_by m o) m ≡ true)
      go None f = inl refl
      go (Some k) f = inr (found_overrides c (Some c) k f)
