-- An `error` method enters over the dispatch that asks it.
use Rattle.std.proofs.lemmas.Bool.Decides.{nat_tests}
use Rattle.std.proofs.Common.{[], inr, false, inl, List, None, Option, Some, ap, length, refl, subst, suc, sym, true, zero, ℕ, ℤ, ◌∙◌, ◌∷◌, ◌≡◌, arith}
use Rattle.std.specs.Prelude.{bit_or, is_some, map}
use Rattle.aom_image.specs.Image.{Image}
use Rattle.aom_image.specs.declared.class.ClassKind.{ClassKind}
use Rattle.aom_image.specs.declared.method.Argument.TheVariants.{Word as Takes_word}
use Rattle.aom_image.specs.declared.method.Role.TheVariants.{Error}
use Rattle.aom_image.specs.declared.method.Thing.{Thing}
use Rattle.aom_image.specs.declared.method.Thing.TheVariants.{Message, Object as An_object_of}
use Rattle.aom_roles.specs.States.{active, idle, states_of}
use Rattle.aom_typing_rules.specs.Typing.{IsTyped, Typing}
use Rattle.aom_abstract_state.specs.Arguments.{argument_kind, entry_fields}
use Rattle.aom_roles.specs.Tables.{at}
use Rattle.aom_roles.specs.Things.{holder_by}
use Rattle.aom_abstract_state.specs.declared.kind.FieldState.TheVariants.{Perhaps}
use Rattle.aom_abstract_state.specs.declared.kind.Kind.{Kind}
use Rattle.aom_abstract_state.specs.declared.kind.Kind.TheVariants.{Unset}
use Rattle.aom_safety.proofs.Destroying.{at_alike}
use Rattle.aom_safety.proofs.Entering.{Entering, enters}
use Rattle.aom_safety.proofs.ReceiverHolding.{receiver_conforms_role}
use Rattle.aom_safety.specs.Claims.{Dispatching, Layer, claim, declared, forms}
use Rattle.aom_semantics.specs.Requests.{part_of}
use Rattle.aom_safety.specs.Laws.{IsAnswerer, IsWired}
use Rattle.aom_semantics.specs.Moves.{asking}
use Rattle.aom_semantics.specs.Places.{Elsewhere, Place, Request, Root, held, requested, seen}
use Rattle.aom_safety.specs.Requests.{ConformsTo, resting_in, thing_kind}
use Rattle.aom_semantics.specs.State.{Asks, Object_left, OwnedObject, State}
use Rattle.aom_safety.specs.WellTyped.{Fits, Good, WellTyped, WordFits}
use Rattle.aom_safety.proofs.Attending.{with_message}
use Rattle.std.proofs.lemmas.Bool.{true≢false}
use Rattle.aom_roles.specs.Roles.{is_service, is_cancel}

-- what rests and is enlisted is idle or active
pub rests_listed : (k : Option ClassKind) (r : Option Request) → is_some r ≡ true → ConformsTo k (resting_in (states_of k)) r →
    ConformsTo k (resting_in (bit_or idle active)) r
unfolding states_of
rests_listed k r some s = grind arith

-- the method of a thing in that role
pub found : (p : Image) → IsWired p → (x : Thing) (m : ℕ) → part_of p Error x ≡ Some m → (c : ℕ) × (x ≡ An_object_of c) × IsAnswerer p c m
found p wired (An_object_of c) m e = (c, refl, wired.answers c m e)
found p wired Message m e = cc

module _ (p : Image) (t : Typing) (wired : IsWired p) (typed : IsTyped p t) (s : State) (x : OwnedObject) (code : ℤ) where
  asks_it : (above : List OwnedObject) → s.items ≡ [] → Good p t s.cells (Dispatching (Object_left x code) (x ∷ above) ∷ []) →
      (m : ℕ) → part_of p Error x.object.thing ≡ Some m → WellTyped p t (asking p (Some m) x code s)
  asks_it above items good m e = enters p t typed s.cells x above over m
      (Some code ∷ []) entering (asking p (Some m) x code s) (length s.items) (ap length items) refl refl (ap forms items) (rw items tt)
    where
      over : List Layer
      over = Dispatching (Asks x) (x ∷ above) ∷ []

      it : (c : ℕ) × (x.object.thing ≡ An_object_of c) × IsAnswerer p c m
      it = found p wired x.object.thing m e

      empty : (i : ℕ) → Fits p (seen s.cells) None (at Unset (map argument_kind (Takes_word ∷ [])) i)
      empty zero = tt
      empty (suc i) = tt

      claims : (d : Place → Kind) (r : Place) → claim p d (Dispatching (Asks x) (x ∷ above) ∷ []) r ≡ with_message false d r
      claims d (Elsewhere Root) = refl
      claims d _ = refl

      fits : (r : Place) → Fits p (seen s.cells) (held s.cells r) (with_message false (declared p s.cells) r)
      fits (Elsewhere Root) = good.fits (Elsewhere Root)
      fits r = good.fits r

      entering : Entering p t s.cells x above over m (Some code ∷ [])
      entering = record {
        served = false;
        message = ap is_service it.2.role;
        right_over = (λ e. absurd (true≢false (sym e ∙ ap is_service it.2.role)), λ served. absurd served);
        claims = claims;
        states = λ y. refl;
        none_in = λ n h. (h, tt);
        some_in = λ n h. inl (inr h);
        joins = tt;
        past = refl;
        stack = ((it.2.leaves, it.2.gives, ap is_cancel it.2.role), refl, good.stack.2, (good.stack.3.0, above, refl), tt);
        fits = fits;
        own = subst (λ n. ConformsTo (thing_kind p x.object.thing) (resting_in n) (requested s.cells x.object.name)) (sym it.2.begins)
            (grind (arith, nat_tests, rests_listed));
        others = λ y lives other. good.conforms_to y lives;
        no_duplicates = good.no_duplicates;
        is_owned_chain = good.stack.2;
        there = it.2.there;
        holder = receiver_conforms_role p wired.family x.object.thing it.0 m it.1 it.2.family (ap (λ r. holder_by r (Some it.2.family.class)) it.2.role);
        plain = ap is_cancel it.2.role;
        words = λ i. subst (λ xs. WordFits (at None (Some code ∷ []) i) (at Unset (map argument_kind xs) i)) (sym it.2.arguments) (grind arith);
        free = λ i. subst (λ xs. Fits p (seen s.cells) None (at Unset (map argument_kind xs) i)) (sym it.2.arguments) (empty i);
        fields = λ f. ap (λ r. at Perhaps (entry_fields r) f) it.2.role ∙ at_alike 8 Perhaps f;
      }

  pub error_enters : (owned_chain : List OwnedObject) → s.items ≡ [] → Good p t s.cells (Dispatching (Object_left x code) owned_chain ∷ []) → (m : ℕ) →
      part_of p Error x.object.thing ≡ Some m → WellTyped p t (asking p (Some m) x code s)
  error_enters owned_chain items good m e = grind (arith, nat_tests, asks_it)
