-- A construct that calls its parent's on its own object finds no field of the parent's filled, by what its state says of them.
use Rattle.std.proofs.lemmas.Bool.Decides.{nat_tests}
use Rattle.std.proofs.Common.{Bool, List, None, Option, Some, ap, arith, length, refl, subst, suc, sym, true, zero, ℕ, ◌∙◌, ◌∷◌, ◌≡◌, ◌≤◌}
use Rattle.std.proofs.lemmas.Bool.{and_from, and_parts, eqb-true}
use Rattle.std.proofs.lemmas.Option.{slice_get-get_or}
use Rattle.std.specs.Prelude.{get_or, is_none, is_some}
use Rattle.aom_image.specs.Image.{Image}
use Rattle.aom_image.specs.Views.{fields_of, method_class, method_role}
use Rattle.aom_image.specs.declared.method.Role.TheVariants.{Construct}
use Rattle.aom_image.specs.declared.method.Thing.{Thing}
use Rattle.aom_image.specs.declared.method.Thing.TheVariants.{Message}
use Rattle.aom_roles.specs.Tests.{AllTrue, only_if}
use Rattle.aom_roles.specs.Roles.{is_construct}
use Rattle.aom_link_conditions.specs.Roles.{role_of}
use Rattle.aom_safety.proofs.RolesLemmas.{child, itself}
use Rattle.aom_roles.specs.Families.{parent_of, fields_above, parent_above, parent_by}
use Rattle.aom_typing_rules.specs.Calls.{above_needs, constructs_class, empty_by, is_that}
use Rattle.aom_typing_rules.specs.Typing.{Typing}
use Rattle.aom_abstract_state.specs.Kinds.{all_empty, field, filled, is_empty}
use Rattle.aom_abstract_state.specs.AbstractState.{AbstractState}
use Rattle.aom_roles.specs.Things.{Member, field_thing, holder_by, holder_of}
use Rattle.aom_abstract_state.specs.declared.kind.FieldState.{FieldState}
use Rattle.aom_abstract_state.specs.declared.kind.FieldState.TheVariants.{Empty}
use Rattle.aom_abstract_state.specs.declared.kind.Kind.TheVariants.{Null}
use Rattle.aom_safety.proofs.Callees.{holder_member}
use Rattle.aom_safety.proofs.Destructors.{empty_at}
use Rattle.aom_safety.proofs.Straight.{At, claim_field, fits_unowning}
use Rattle.aom_semantics.specs.Calls.{none_filled}
use Rattle.aom_safety.specs.Claims.{Layer, Method, claim, declared}
use Rattle.aom_safety.specs.Laws.{IsWired}
use Rattle.aom_semantics.specs.Places.{Cell, Field, Object, Place, held, seen}
use Rattle.aom_semantics.specs.State.{Frame, Inside, State, field_place}
use Rattle.aom_safety.specs.WellTyped.{Fits}

is_just_empty : (x : FieldState) → is_empty x ≡ true → x ≡ Empty
is_just_empty x e = grind arith

is_that_one : (m : ℕ) (o : Option ℕ) → is_that m o ≡ true → o ≡ Some m
is_that_one m x e = grind (arith, nat_tests, eqb-true)

module _ (p : Image) (t : Typing) (wired : IsWired p) (s : State) (fr : Frame) (sh : AbstractState) (ls : List Layer) (has_task : At p t s fr sh ls) where
  -- what the parent of the method's class declares, the method's class declares
  inherited : (y e f : ℕ) (x : Thing) → method_class p fr.method ≡ Some y → parent_of p y ≡ Some e → field_thing p (Member e) f ≡ Some x →
      field_thing p (holder_of p fr.method) f ≡ Some x
  inherited y e f x class above there = let own : holder_of p fr.method ≡ Member y = ap (λ k. holder_by (method_role p fr.method) k) class
      ∙ holder_member (method_role p fr.method) y (λ r. let clash : Some y ≡ None = sym class ∙ wired.static_main fr.method r in cc) in
      ap (λ h. field_thing p h f) own ∙ wired.family.inherits y e f x (child p y e e above (itself p e)) there

  -- where the state says that such a field is empty, it is
  null_by : (cs : List Cell) (sh' : AbstractState) (f : ℕ) (x : Thing) → field_thing p (holder_of p fr.method) f ≡ Some x → is_empty (field sh' f) ≡ true →
      Fits p (seen cs) (held cs (field_place fr.receiver f)) (claim p (declared p cs) (Method fr sh' ∷ ls) (field_place fr.receiver f)) →
      held cs (field_place fr.receiver f) ≡ None
  null_by cs sh' f x own empty fits =
      let there = has_task.good.stack.1.holder.fields f x own in
      let claims = claim_field p (declared p cs) fr sh' ls fr.receiver f refl (there ∙ sym own) (ap is_some there) in
      let kind : claim p (declared p cs) (Method fr sh' ∷ ls) (field_place fr.receiver f) ≡ Null =
      claims ∙ ap (λ o. filled o (field sh' f)) there ∙ ap (λ y. filled (Some x) y) (is_just_empty (field sh' f) empty) in
      fits_unowning p (seen cs) (held cs (field_place fr.receiver f)) Null refl (subst (λ k. Fits p (seen cs) (held cs (field_place fr.receiver f)) k) kind fits)

  -- what the machine asks of the fields of the parent
  none_there : (y e : ℕ) → method_class p fr.method ≡ Some y →
      parent_of p y ≡ Some e → all_empty (fields_of p e) sh.fields ≡ true → (n : ℕ) → n ≤ length (fields_of p e) → none_filled s.cells fr.receiver n ≡ true
  none_there y e class above empty zero le = refl
  none_there y e class above empty (suc n) le =
      let x = get_or (fields_of p e) n Message in
      let there = slice_get-get_or (fields_of p e) n Message (omega arith) in
      let null = null_by s.cells sh n x (inherited y e n x class above there) (empty_at (fields_of p e) sh.fields n x empty there)
      (has_task.good.fits (field_place fr.receiver n)) in
      and_from (is_none (held s.cells (field_place fr.receiver n))) (none_filled s.cells fr.receiver n) (ap is_none null) (none_there y e class above empty n (omega arith))

  parents_null : empty_by p (parent_above p fr.method) sh.fields ≡ true → none_filled s.cells fr.receiver (fields_above p (parent_above p fr.method)) ≡ true
  parents_null empty = of (method_class p fr.method) refl empty
    where
      over : (y : ℕ) → method_class p fr.method ≡ Some y → (o : Option ℕ) → parent_of p y ≡ o → empty_by p o sh.fields ≡ true →
          none_filled s.cells fr.receiver (fields_above p o) ≡ true
      over y class None above empty = refl
      over y class (Some e) above empty = none_there y e class above empty (length (fields_of p e)) (omega arith)

      of : (k : Option ℕ) → method_class p fr.method ≡ k → empty_by p (parent_by p k) sh.fields ≡ true →
          none_filled s.cells fr.receiver (fields_above p (parent_by p k)) ≡ true
      of None class empty = refl
      of (Some y) class empty = over y class (parent_of p y) refl empty

  pub parents_met : (m : ℕ) (b : Bool) → AllTrue (above_needs p fr.method m b sh.fields) →
      only_if b (none_filled s.cells fr.receiver (fields_above p (parent_above p fr.method))) ≡ true
  parents_met m x n = grind (arith, nat_tests, parents_null)

  -- and what the called construct finds of the fields of its class, which are the parent's
  module _ (m : ℕ) (role : method_role p m ≡ Some Construct) (cs : List Cell) (sh' : AbstractState) (same : sh'.fields ≡ sh.fields)
      (fits : (f : ℕ) → Fits p (seen cs) (held cs (field_place fr.receiver f)) (claim p (declared p cs) (Method fr sh' ∷ ls) (field_place fr.receiver f))) where
    of_parent : (y e : ℕ) → method_class p fr.method ≡ Some y → parent_of p y ≡ Some e → role_of p e Construct ≡ Some m →
        all_empty (fields_of p e) sh.fields ≡ true → (f : ℕ) (x : Thing) → field_thing p (holder_of p m) f ≡ Some x → held cs (field_place fr.receiver f) ≡ None
    of_parent y e class above is empty f x own =
        let its = wired.constructs e m is in
        let member : holder_of p m ≡ Member its.class = ap (λ r. holder_by r (method_class p m)) role ∙ ap (λ c. holder_by (Some Construct) c) its.of in
        let there : field_thing p (Member e) f ≡ Some x = wired.family.inherits e its.class f x its.above (ap (λ h. field_thing p h f) (sym member) ∙ own) in
        null_by cs sh' f x (inherited y e f x class above there) (subst (λ xs. all_empty (fields_of p e) xs ≡ true → is_empty (field sh' f) ≡ true) same
        (λ e'. empty_at (fields_of p e) sh'.fields f x e' there) empty) (fits f)

    abbrev Null_there : Type 0
    Null_there = (f : ℕ) (x : Thing) → field_thing p (holder_of p m) f ≡ Some x → held cs (field_place fr.receiver f) ≡ None

    raised_null : constructs_class p m (parent_above p fr.method) ≡ true → empty_by p (parent_above p fr.method) sh.fields ≡ true → Null_there
    raised_null is empty = of (method_class p fr.method) refl is empty
      where
        over : (y : ℕ) → method_class p fr.method ≡ Some y → (o : Option ℕ) → parent_of p y ≡ o → constructs_class p m o ≡ true →
            empty_by p o sh.fields ≡ true → Null_there
        over y class None above is empty = cc
        over y class (Some e) above is empty = of_parent y e class above (is_that_one m (role_of p e Construct) is) empty

        of : (k : Option ℕ) → method_class p fr.method ≡ k → constructs_class p m (parent_by p k) ≡ true → empty_by p (parent_by p k) sh.fields ≡ true → Null_there
        of None class is empty = cc
        of (Some y) class is empty = over y class (parent_of p y) refl is empty

  pub raised : (m : ℕ) → method_role p m ≡ Some Construct → AllTrue (above_needs p fr.method m (is_construct (method_role p m)) sh.fields) →
      (cs : List Cell) (sh' : AbstractState) → sh'.fields ≡ sh.fields → (o : Object) (from : Place) →
      fr.receiver ≡ Inside o from → ((f : ℕ) → Fits p (seen cs) (held cs (Field o.name f)) (claim p (declared p cs) (Method fr sh' ∷ ls) (Field o.name f))) →
      (f : ℕ) (x : Thing) → field_thing p (holder_of p m) f ≡ Some x → held cs (Field o.name f) ≡ None
  raised m role n cs sh' same o from receiver fits f x own =
      let asked = subst (λ r. AllTrue (above_needs p fr.method m (is_construct r) sh.fields)) role n in
      let is = (and_parts (is_construct (method_role p fr.method)) (constructs_class p m (parent_above p fr.method)) asked.0).1 in
      let here = λ (g : ℕ). subst (λ h. Fits p (seen cs) (held cs (field_place h g)) (claim p (declared p cs) (Method fr sh' ∷ ls) (field_place h g)))
      (sym receiver) (fits g) in
      subst (λ h. held cs (field_place h f) ≡ None) receiver (raised_null m role cs sh' same here is asked.1.0 f x own)
