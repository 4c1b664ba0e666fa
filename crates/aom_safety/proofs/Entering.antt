-- A method enters over its dispatch, on the object that is dispatched.
use Rattle.std.proofs.lemmas.Bool.Decides.{nat_tests}
use Rattle.std.proofs.Common.{inr, Bool, List, None, Option, Some, [], ap, cond, false, length, refl, subst, sym, true, ℕ, ℤ, ◌==◌, ◌∙◌, ◌∷◌, ◌≡◌, arith}
use Rattle.std.proofs.lemmas.Bool.{eqb-true, true≢false}
use Rattle.std.specs.Prelude.{IsSome}
use Rattle.aom_image.specs.Image.{Image}
use Rattle.aom_image.specs.Views.{method_at, method_role}
use Rattle.aom_typing_rules.specs.Typing.{IsTyped, Typing}
use Rattle.aom_abstract_state.specs.Arguments.{before_of, entry_shape}
use Rattle.aom_abstract_state.specs.Kinds.{field, filled, register}
use Rattle.aom_abstract_state.specs.Order.{IsImpliedBy, WeakerFilling}
use Rattle.aom_abstract_state.specs.AbstractState.{AbstractState}
use Rattle.aom_roles.specs.Tables.{at}
use Rattle.aom_roles.specs.Things.{field_thing, holder_of}
use Rattle.aom_abstract_state.specs.declared.kind.FieldState.TheVariants.{Perhaps}
use Rattle.aom_abstract_state.specs.declared.kind.Kind.{Kind}
use Rattle.aom_abstract_state.specs.declared.kind.Kind.TheVariants.{Null, Own}
use Rattle.aom_abstract_state.specs.declared.kind.InitState.TheVariants.{Ready}
use Rattle.aom_image.specs.declared.method.Thing.{Thing}
use Rattle.aom_image.specs.declared.method.Thing.TheVariants.{Message}
use Rattle.aom_roles.specs.Roles.{is_cancel}
use Rattle.aom_safety.proofs.Attending.{with_message, with_message_ready}
use Rattle.aom_safety.proofs.Claimed.{fits_weaker, word_fits_weaker}
use Rattle.aom_safety.proofs.Items.{begins_well}
use Rattle.aom_safety.proofs.Destroying.{perhaps_only}
use Rattle.aom_safety.proofs.Straight.{fits_unowning}
use Rattle.aom_safety.proofs.ConformingTo.{known_plain, same_object, conforms_to_less}
use Rattle.aom_safety.proofs.ReceiverHolding.{receiver_conforms_counts}
use Rattle.aom_safety.specs.Claims.{own_field, Layer, Method, claim, declared, forms, items_of, tasks_of, delivered, serves}
use Rattle.aom_semantics.specs.Places.{In_service, Cell, Elsewhere, Entry, Field, Going, Object, Place, Register, Root, NoDuplicates, held, named, requested, seen}
use Rattle.aom_safety.specs.Requests.{AllConformTo, Joins, Known, ConformsTo, known_at, resting_in, rests_in, states_claim, thing_kind}
use Rattle.aom_semantics.specs.State.{thing_view, Frame, Inside, Run, OwnedObject, State, frame_of, thing_holder}
use Rattle.aom_safety.specs.WellTyped.{IsServed, IsOwnedChain, AllUndo, Fits, Good, Holds, ReceiverConforms, IsApart, IsBelow, IsNoFieldOf}
use Rattle.aom_safety.specs.WellTyped.{NoOwnedObjectIn, NoneIn, Returns, OwnedWithin, SomeIn, SomeOwned, Stack, WellTyped, WordFits, past_going}

-- what it takes: over these layers nothing is claimed but the message that is served, and the method begins with its object as it is
pub record Entering (p : Image) (t : Typing) (cs : List Cell) (x : OwnedObject) (above : List OwnedObject) (over : List Layer) (m : ℕ) (ws : List (Option ℤ)) : Type 0 where
  -- a message is served
  pub served : Bool
  pub message : serves p m ≡ served
  pub right_over : (serves p m ≡ true → IsServed over) × (IsServed over → serves p m ≡ true)
  pub claims : (d : Place → Kind) (r : Place) → claim p d over r ≡ with_message served d r
  pub states : (y : Object) → states_claim p y over ≡ resting_in (rests_in p y)
  pub none_in : (n : ℕ) → NoOwnedObjectIn n (x ∷ above) → NoneIn n over
  pub some_in : (n : ℕ) → SomeOwned n above → SomeIn n over
  pub joins : Joins p x.object over
  pub past : past_going over ≡ over
  pub stack : Stack p t cs (Returns m (Inside x.object x.place)) over
  pub fits : (r : Place) → Fits p (seen cs) (held cs r) (with_message served (declared p cs) r)
  pub own : ConformsTo (thing_kind p x.object.thing) (resting_in (before_of p m)) (requested cs x.object.name)
  pub others : (y : Object) → named cs y.name ≡ Some y → (x.object.name == y.name) ≡ false →
      ConformsTo (thing_kind p y.thing) (resting_in (rests_in p y)) (requested cs y.name)
  pub no_duplicates : NoDuplicates cs
  pub is_owned_chain : IsOwnedChain cs (x ∷ above)
  pub there : IsSome (method_at p m)
  pub holder : ReceiverConforms p (thing_holder x.object.thing) (holder_of p m)
  pub plain : is_cancel (method_role p m) ≡ false
  pub words : (i : ℕ) → WordFits (at None ws i) (register (entry_shape p m) i)
  pub free : (i : ℕ) → Fits p (seen cs) None (register (entry_shape p m) i)
  pub fields : (f : ℕ) → field (entry_shape p m) f ≡ Perhaps

-- no field of an object that does not sit is a seat
no_field : (n : ℕ) (q : Place) (xs : List OwnedObject) → (SomeOwned n xs → ⊥) → OwnedWithin q xs → IsNoFieldOf n q
no_field n x xs none h = grind arith

pub no_fields : (cs : List Cell) (n : ℕ) (xs : List OwnedObject) → (SomeOwned n xs → ⊥) → IsOwnedChain cs xs → NoOwnedObjectIn n xs
no_fields cs n [] none s = tt
no_fields cs n (x ∷ xs) none s = (no_field n x.place xs (λ h. none (inr h)) s.0.2, no_fields cs n xs (λ h. none (inr h)) s.1)

-- what stands over no cell that goes
module _ (p : Image) (t : Typing) (typed : IsTyped p t) (cs : List Cell) (x : OwnedObject) (above : List OwnedObject) (over : List Layer) (m : ℕ) (ws : List (Option ℤ))
    (e : Entering p t cs x above over m ws) where
  abbrev o : Object
  o = x.object

  abbrev begun : ℕ → Frame
  begun height = record (frame_of m (Inside x.object x.place) height) { words = ws }

  receiver_held : Holds p cs over x.object x.place
  receiver_held = record { there = e.is_owned_chain.0.0; lives = e.is_owned_chain.0.1; below = below x.place e.is_owned_chain.0.2; ready = grind (arith, nat_tests, with_message_ready) }
    where
      below : (q : Place) → OwnedWithin q above → IsBelow q over
      below x h = grind arith

  apart : IsApart p (thing_view x.object.thing) m (Inside x.object x.place) over
  apart = (own_place, e.none_in x.object.name (own_place, no_fields cs x.object.name above e.is_owned_chain.0.3 e.is_owned_chain.1), grind (arith, nat_tests), e.joins)
    where
      own_place : IsNoFieldOf x.object.name x.place
      own_place = no_field x.object.name x.place above e.is_owned_chain.0.3 e.is_owned_chain.0.2

  -- a place below
  base : (r : Place) → Fits p (seen cs) (held cs r) (claim p (declared p cs) over r)
  base r = subst (λ k. Fits p (seen cs) (held cs r) k) (sym (e.claims (declared p cs) r)) (e.fits r)

  fits : (height : ℕ) (after : AbstractState) → IsImpliedBy after (entry_shape p m) → (r : Place) →
      Fits p (seen cs) (held cs r) (claim p (declared p cs) (Method (begun height) after ∷ over) r)
  fits height after w (Register f i) = go (length (tasks_of over) == f)
    where
      none : held cs (Register f i) ≡ None
      none = fits_unowning p (seen cs) _ Null refl (e.fits (Register f i))

      go : (b : Bool) → Fits p (seen cs) (held cs (Register f i)) (cond b (register after i) (claim p (declared p cs) over (Register f i)))
      go true = subst (λ v. Fits p (seen cs) v (register after i)) (sym none) (fits_weaker p (seen cs) None (w.registers i) (e.free i))
      go false = base (Register f i)
  fits height after w (Entry k) = grind (arith, nat_tests, base (Entry k))
  fits height after w (Field n f) = go (x.object.name == n) refl (field_thing p (holder_of p m) f) refl
    where
      unfilled : field after f ≡ Perhaps
      unfilled = perhaps_only (subst (λ y. WeakerFilling (field after f) y) (e.fields f) (w.fields f))

      go : (b : Bool) → (x.object.name == n) ≡ b → (own : Option Thing) → field_thing p (holder_of p m) f ≡ own → Fits p (seen cs)
          (held cs (Field n f)) (cond b (own_field own (field after f) (claim p (declared p cs) over (Field n f))) (claim p (declared p cs) over (Field n f)))
      go true same (Some z) is = subst (λ k. Fits p (seen cs) (held cs (Field k f)) (filled (Some z) (field after f))) (eqb-true x.object.name n same)
          (subst (λ y. Fits p (seen cs) (held cs (Field x.object.name f)) (filled y (field after f))) (e.holder.fields f z is)
          (subst (λ y. Fits p (seen cs) (held cs (Field x.object.name f)) (filled (field_thing p (thing_holder x.object.thing) f) y)) (sym unfilled) (grind arith)))
      go true same None is = base (Field n f)
      go false other own is = base (Field n f)
  fits height after w (Elsewhere Root) = base (Elsewhere Root)
  fits height after w (Elsewhere In_service) = go (serves p m) refl
    where
      go : (b : Bool) → serves p m ≡ b →
          Fits p (seen cs) (held cs (Elsewhere In_service)) (cond b (delivered after.message_state) (claim p (declared p cs) over (Elsewhere In_service)))
      go true serving = subst (λ x. Fits p (seen cs) (held cs (Elsewhere In_service)) (delivered x)) (sym w.message_state) (subst
          (λ b. Fits p (seen cs) (held cs (Elsewhere In_service)) (cond b (Own Message Ready) Null)) (sym e.message ∙ serving) (e.fits (Elsewhere In_service)))
      go false plain = base (Elsewhere In_service)
  fits height after w (Elsewhere o) = base (Elsewhere o)
  fits height after w (Going k) = base (Going k)

  conforms_to : (height : ℕ) (after : AbstractState) → IsImpliedBy after (entry_shape p m) → AllConformTo p cs (Method (begun height) after ∷ over)
  conforms_to height after w y lives = go (x.object.name == y.name) refl
    where
      below : Object → Known
      below z = states_claim p z over

      known : known_at p (begun height) after.states (below x.object) ≡ resting_in after.states
      known = known_plain p (begun height) after.states (below x.object) e.plain
          ∙ ap (λ (k : Known). record { states = after.states; cancelled = k.cancelled }) (e.states x.object)

      own_now : ConformsTo (thing_kind p x.object.thing) (known_at p (begun height) after.states (below x.object)) (requested cs x.object.name)
      own_now = rw known (conforms_to_less (thing_kind p x.object.thing) after.states (before_of p m) false (requested cs x.object.name) w.states e.own)

      go : (b : Bool) → (x.object.name == y.name) ≡ b →
          ConformsTo (thing_kind p y.thing) (cond b (known_at p (begun height) after.states (below y)) (below y)) (requested cs y.name)
      go true same = rw (same_object cs x.object y e.is_owned_chain.0.1 lives same) at own_now
      go false other = subst (λ k. ConformsTo (thing_kind p y.thing) k (requested cs y.name)) (sym (e.states y)) (e.others y lives other)

  pub enters : (s : State) (height : ℕ) → height ≡ length (items_of over) → s.cells ≡ cs → s.tasks ≡ Run (record
      (frame_of m (Inside x.object x.place) height) { words = ws }) ∷ tasks_of over → forms s.items ≡ items_of over → AllUndo p s.items → WellTyped p t s
  enters s height high cells tasks items undo_operations =
      let leads = typed.entry m e.there in
      let w = leads.2 in
      let good : Good p t cs (Method (begun height) leads.0 ∷ over) = record {
        stack = (
          leads.1,
          record {
            words = λ i. word_fits_weaker (at None ws i) (w.registers i) (e.words i);
            holder = e.holder;
            view = receiver_conforms_counts p (Inside x.object x.place) _ e.holder;
            height = high;
            alone = λ cancels. absurd (true≢false (sym cancels ∙ e.plain));
            message = e.right_over;
          },
          receiver_held,
          apart,
          e.stack,
        );
        fits = fits height leads.0 w;
        conforms_to = conforms_to height leads.0 w;
        no_duplicates = e.no_duplicates;
      } in
      begins_well p t cs (begun height) leads.0 over s w.entries good cells tasks items undo_operations
