-- A call on a class that is not there runs the method named.
use Rattle.std.proofs.Common.{All, None, Some, ap, false, length, refl, slice_get, suc, zero, ℕ, ◌&&◌, ◌≡◌, ◌≤◌, ◌∙◌}
use Rattle.std.proofs.lemmas.List.Elements.{All-get_or}
use Rattle.std.proofs.lemmas.Option.{get_or_from_slice_get, slice_get_past, slice_get_within}
use Rattle.aom_image.specs.Image.{Image}
use Rattle.aom_image.specs.Views.{class_at}
use Rattle.aom_image.specs.WellFormed.{MethodFits}
use Rattle.aom_image.specs.declared.method.Method.{Method}
use Rattle.aom_roles.specs.Families.{lower, parent_in, parent_of}
use Rattle.aom_link_conditions.specs.Roles.{is_class, or_else}
use Rattle.aom_link_conditions.specs.Overriding.{body_by, body_of, found_in, leads_to, overrider_of, replaces}
use Rattle.aom_linker.proofs.Rows.{other_class}
use Rattle.aom_linker.proofs.Unoverridden.{none_passes}

module _ (p : Image) (methods : ℕ) (fits : All (MethodFits p.header.version (length p.classes) methods) p.methods) (c : ℕ) (past : length p.classes ≤ c) where
  -- it has nothing itself
  class_of : (k : ℕ) (d : Method) → slice_get p.methods k ≡ Some d → is_class c d.class ≡ false
  class_of k d at =
      let fit = All-get_or (MethodFits p.header.version (length p.classes) methods) p.methods k d (slice_get_within p.methods k d at) fits in
      let same = get_or_from_slice_get p.methods k d d at in
      other_class (length p.classes) c d.class (rw (← same) fit.class) past

  own_none : (m : ℕ) → overrider_of p c m ≡ None
  unfolding overrider_of replaces
  own_none m = none_passes (replaces p c m) p.methods (λ k d at. ap (λ b. b && leads_to p d.over m) (class_of k d at))

  -- and no parent
  parentless : parent_of p c ≡ None
  unfolding class_at parent_in
  parentless = ap (λ o. lower c (parent_in o)) (slice_get_past p.classes c past)

  found_none : (n m : ℕ) → found_in p n (Some c) m ≡ None
  unfolding found_in
  found_none zero m = own_none m
  found_none (suc n) m = ap (λ o. or_else o (found_in p n (parent_of p c) m)) (own_none m) ∙ ap (λ o. found_in p n o m) parentless ∙ above n
    where
      above : (n : ℕ) → found_in p n None m ≡ None
      above zero = refl
      above (suc n) = refl

  pub runs_named : (m : ℕ) → body_of p m (Some c) ≡ m
  unfolding body_of
  runs_named m = ap (body_by m) (found_none c m)
