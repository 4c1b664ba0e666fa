-- A method that waits claims of its object no more than what is declared: of the fields that its class declares by itself, and by
-- the layers below it of the others that the object has as what it counts as.
use Rattle.std.proofs.lemmas.Bool.Decides.{nat_tests}
use Rattle.std.proofs.Common.{arith, List, None, Option, Some, ap, cond, is_some, refl, sym, true, ℕ, ◌∙◌, ◌∷◌, ◌≡◌, []}
use Rattle.std.proofs.lemmas.Bool.{eq-eqb}
use Rattle.aom_image.specs.Image.{Image}
use Rattle.aom_image.specs.declared.method.Thing.{Thing}
use Rattle.aom_abstract_state.specs.Kinds.{field, filled}
use Rattle.aom_abstract_state.specs.AbstractState.{AbstractState}
use Rattle.aom_roles.specs.Things.{field_thing, holder_of}
use Rattle.aom_abstract_state.specs.declared.kind.FieldState.TheVariants.{Perhaps}
use Rattle.aom_abstract_state.specs.declared.kind.Kind.{Kind}
use Rattle.aom_safety.specs.Claims.{Dying, Layer, Method, claim, receiver_claim, own_field}
use Rattle.aom_semantics.specs.Places.{Field, Object, Place}
use Rattle.aom_semantics.specs.State.{Frame, Inside, thing_holder}
use Rattle.aom_safety.specs.WellTyped.{ReceiverConforms, InView, IsApart, by_field, view_holder}

module _ (p : Image) (fr : Frame) (o : Object) (from : Place) (receiver : fr.receiver ≡ Inside o from) where
  abbrev Declares : ℕ → Kind
  Declares f = filled (field_thing p (thing_holder o.thing) f) Perhaps

  -- the layers below claim of another field what is declared of it: where the cell goes there is none
  others_in_view : (ls : List Layer) → IsApart p fr.view fr.method (Inside o from) ls → (f : ℕ) → is_some (field_thing p (view_holder fr.view) f) ≡ true →
      field_thing p (holder_of p fr.method) f ≡ None → claim p (by_field Declares) ls (Field o.name f) ≡ Declares f
  others_in_view (Dying x ∷ ls) apart f some none = grind (arith, nat_tests)
  others_in_view [] apart f some none = apart.2.0 f some
  others_in_view (_ ∷ ls) apart f some none = apart.2.0 f some

  pub waits_in_view : (sh : AbstractState) (ls : List Layer) → ReceiverConforms p (thing_holder o.thing) (holder_of p fr.method) →
      IsApart p fr.view fr.method (Inside o from) ls → ((f : ℕ) → field sh f ≡ Perhaps) → InView p fr.view Declares o.name (Method fr sh ∷ ls)
  waits_in_view sh ls receiver_conforms apart perhaps f some =
      let below = claim p (by_field Declares) ls (Field o.name f) in
      ap (λ h. receiver_claim p (holder_of p fr.method) h sh o.name f below) receiver
      ∙ ap (λ b. cond b (own_field (field_thing p (holder_of p fr.method) f) (field sh f) below) below) (eq-eqb o.name _ refl)
      ∙ ap (λ y. own_field (field_thing p (holder_of p fr.method) f) y below) (perhaps f) ∙ own (field_thing p (holder_of p fr.method) f) refl
    where
      own : (x : Option Thing) → field_thing p (holder_of p fr.method) f ≡ x → own_field x Perhaps (claim p (by_field Declares) ls (Field o.name f)) ≡ Declares f
      own None is = others_in_view ls apart f some is
      own (Some y) is = sym (ap (λ x. filled x Perhaps) (receiver_conforms.fields f y is))
