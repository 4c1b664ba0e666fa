-- An image without parents and overriders means what it meant.
use Rattle.std.proofs.Common.{Bool, Option, Some, None, ap, false, refl, subst, length, suc, sym, true, zero, ℕ, ◌&&◌, ◌==◌, ◌∙◌, ◌≡◌}
use Rattle.std.proofs.lemmas.Bool.{eq-eqb, eqb-true}
use Rattle.aom_image.specs.Image.{Image}
use Rattle.aom_inheritance.proofs.LinkConditionsLemmas.{all_there, found, role_alone}
use Rattle.aom_link_conditions.specs.Overriding.{OverridesNothing, body_by, body_of, found_in, leads_in, leads_to, overrider_of, replaces}
use Rattle.aom_link_conditions.specs.Roles.{is_class, or_else}
use Rattle.aom_inheritance.proofs.RolesLemmas.{itself, one_class}
use Rattle.aom_roles.specs.Families.{HasNoParents, descends, parent_of}
use Rattle.aom_inheritance.specs.Laws.{PlainImagesStay}

descending : (p : Image) → HasNoParents p → (c d : ℕ) → descends p c d ≡ (c == d)
descending p none c d = go (c == d) refl (descends p c d) refl
  where
    go : (b : Bool) → (c == d) ≡ b → (a : Bool) → descends p c d ≡ a → a ≡ b
    go true same true is = refl
    go true same false is = let family : descends p c d ≡ true = subst (λ x. descends p c x ≡ true) (eqb-true c d same) (itself p c) in sym is ∙ family
    go false other true is = let same = eq-eqb c d (one_class p none c d is) in sym same ∙ other
    go false other false is = refl

module _ (p : Image) (plain : OverridesNothing p) where
  -- no class has anything in the place of a method
  none_over : (c m : ℕ) → overrider_of p c m ≡ None
  unfolding overrider_of replaces leads_in
  none_over c m = go (overrider_of p c m) refl
    where
      no_lead : (n : ℕ) → leads_in p n None m ≡ false
      no_lead zero = refl
      no_lead (suc n) = refl

      never : (b : Bool) → (b && false) ≡ true → ⊥
      never true h = cc
      never false h = cc

      go : (o : Option ℕ) → overrider_of p c m ≡ o → o ≡ None
      go None e = refl
      go (Some k) e =
          let w = found (replaces p c m) p.methods k e in
          let none : w.0.over ≡ None = all_there (λ d. d.over ≡ None) p.methods k w.0 plain w.1 in
          let clash : (is_class c w.0.class && false) ≡ true =
          sym (ap (λ b. is_class c w.0.class && b) (ap (λ o. leads_to p o m) none ∙ no_lead (length p.methods))) ∙ w.2 in
          absurd (never (is_class c w.0.class) clash)

  none_above : (n m : ℕ) → found_in p n None m ≡ None
  unfolding found_in
  none_above zero m = refl
  none_above (suc n) m = refl

  none_found : (n c m : ℕ) → found_in p n (Some c) m ≡ None
  unfolding found_in
  none_found zero c m = none_over c m
  none_found (suc n) c m = ap (λ o. or_else o (found_in p n (parent_of p c) m)) (none_over c m) ∙ above (parent_of p c) (λ e. none_found n e m)
    where
      above : (o : Option ℕ) → ((e : ℕ) → found_in p n (Some e) m ≡ None) → found_in p n o m ≡ None
      above None later = none_above n m
      above (Some e) later = later e

  bodies : (m : ℕ) (c : Option ℕ) → body_of p m c ≡ m
  unfolding body_of
  bodies m None = refl
  bodies m (Some c) = ap (λ o. body_by m o) (none_found c c m)

pub plain_images_stay : PlainImagesStay
plain_images_stay = record { descending = descending; roles = λ p none c r. role_alone p r none c; bodies = bodies }
