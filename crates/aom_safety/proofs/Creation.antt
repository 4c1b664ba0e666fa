-- The law of a new cell.
use Rattle.std.proofs.lemmas.Bool.Decides.{nat_tests}
use Rattle.std.proofs.Common.{[], Bool, List, None, Option, Some, ap, arith, cond, eq-eqb, false, length}
use Rattle.std.proofs.Common.{refl, subst, sym, true, ℕ, ℤ, ◌==◌, ◌∙◌, ◌∷◌, ◌≡◌, ◌≤◌, suc}
use Rattle.std.proofs.lemmas.Bool.{eqb-true, ne_eqb}
use Rattle.std.specs.Prelude.{is_none}
use Rattle.aom_image.specs.Image.{Image}
use Rattle.aom_instructions.specs.declared.instr.Instr.{Instr}
use Rattle.aom_instructions.specs.declared.instr.Instr.TheVariants.{New}
use Rattle.aom_image.specs.declared.method.Thing.{Thing}
use Rattle.aom_image.specs.declared.method.Thing.TheVariants.{Object as An_object_of}
use Rattle.aom_abstract_state.specs.Kinds.{field, filled, set_register}
use Rattle.aom_typing_rules.specs.Objects.{new_age}
use Rattle.aom_abstract_state.specs.Order.{Weaker, alike, maybe_null}
use Rattle.aom_abstract_state.specs.AbstractState.{AbstractState}
use Rattle.aom_roles.specs.Things.{field_thing, holder_of}
use Rattle.aom_typing_rules.specs.Typing.{Typing, Leads}
use Rattle.aom_abstract_state.specs.declared.kind.InitState.{InitState}
use Rattle.aom_abstract_state.specs.declared.kind.FieldState.TheVariants.{Full, Perhaps}
use Rattle.aom_abstract_state.specs.declared.kind.Kind.{Kind}
use Rattle.aom_abstract_state.specs.declared.kind.Kind.TheVariants.{Maybe, Null}
use Rattle.aom_safety.proofs.Claimed.{Outside, claim-set_register, claim_frame, claim_rel, claim_unnamed, fits_age, fits_weaker, outside_differs}
use Rattle.aom_safety.proofs.Straight.{frames_reworded, At, Fitted, Law, fits_unowning, fitted, free_register, relabel, settle, top, well, words_set}
use Rattle.aom_safety.specs.Claims.{Ending, Dispatching, Dying, Layer, Mark, Method, Unwinding, claim}
use Rattle.aom_safety.specs.Claims.{declared, declared_field, receiver_claim, own_field, tasks_of}
use Rattle.aom_semantics.specs.Effects.{applied, makes_unless, sets, Made}
use Rattle.aom_semantics.specs.Objects.{no_words}
use Rattle.aom_semantics.specs.Places.{Elsewhere, Session, Queued, service_of, unserved, Service, Cell, Field, Object, Place}
use Rattle.aom_semantics.specs.Places.{Register, CellView, held, named, requested, same_place, seen, with_new}
use Rattle.aom_semantics.specs.State.{AtRoot, Choice, Frame, Receiver, Inside, State, Static, next, set_word, thing_holder, word}
use Rattle.aom_safety.specs.WellTyped.{Back, Fits, HasAge, ReceiverIsHeld, Returns, Stack, WellTyped, WordFits}
use Rattle.aom_safety.proofs.OwnedObjects.{NoFieldHere, first_kept, sits_kept}
use Rattle.aom_safety.specs.Requests.{AllConformTo, ConformsTo, Unworked, states_claim, thing_kind, works_at}
use Rattle.aom_safety.proofs.ConformingTo.{conforms_to_new, unworked_rests}
use Rattle.aom_semantics.specs.Servers.{has_session, has_message, session_thing, message_thing}
use Rattle.aom_safety.proofs.Services.{service_unnamed, attended_at, sits_lives}
use Rattle.aom_safety.proofs.RolesLemmas.{stands_itself}

-- what a service says with its server's class: of a new cell nothing is said, and of the others what was
serves_new :
    (cs : List Cell) (n : ℕ) (x : Thing) → named cs n ≡ None → (m : ℕ) (has : Service → Bool) (thing : Option Object → Option Thing) → has unserved ≡ false →
    Weaker (cond (has (cond (n == m) unserved (service_of cs m))) (filled (thing (cond (n == m) (Some (record { name = n; thing = x })) (named cs m))) Full)
    Null) (cond (has (service_of cs m)) (filled (thing (named cs m)) Full) Null)
serves_new cs n x e m has thing none = go (n == m) refl
  where
    go : (b : Bool) → (n == m) ≡ b → Weaker (cond (has (cond b unserved (service_of cs m))) (filled
        (thing (cond b (Some (record { name = n; thing = x })) (named cs m))) Full) Null) (cond (has (service_of cs m)) (filled (thing (named cs m)) Full) Null)
    go true h = subst (λ v. Weaker (cond (has unserved) (filled (thing (Some (record { name = n; thing = x }))) Full) Null)
        (cond (has v) (filled (thing (named cs m)) Full) Null)) (sym (service_unnamed cs m (ap (λ k. named cs k) (sym (eqb-true n m h)) ∙ e))) (subst (λ b.
        Weaker (cond b (filled (thing (Some (record { name = n; thing = x }))) Full) Null) (cond b (filled (thing (named cs m)) Full) Null)) (sym none) alike)
    go false h = alike

-- nothing but a new cell's fields is declared anew
declared_new : (p : Image) (cs : List Cell) (n : ℕ) (x : Thing) (ws : List ℤ) (owner : Place) → named cs n ≡ None → (r : Place) →
    Weaker (declared p (with_new n x ws owner cs) r) (declared p cs r)
declared_new p cs n x ws owner e (Field m f) = go (n == m) refl
  where
    null : (c : Option Thing) → Weaker (filled c Perhaps) Null
    null None = alike
    null (Some c) = maybe_null

    go : (b : Bool) → (n == m) ≡ b → Weaker (declared_field p (cond b (Some (record { name = n; thing = x })) (named cs m)) f) (declared_field p (named cs m) f)
    go true h = subst (λ o. Weaker (filled (field_thing p (thing_holder x) f) Perhaps) (declared_field p o f)) (sym e ∙ ap (λ k. named cs k) (eqb-true n m h))
        (null (field_thing p (thing_holder x) f))
    go false h = alike
declared_new p cs n x ws owner e (Elsewhere (Session m c)) = serves_new cs n x e m (λ v. has_session v c) (λ o. session_thing p o) refl
declared_new p cs n x ws owner e (Elsewhere (Queued m k)) = serves_new cs n x e m (λ v. has_message v k) (λ o. message_thing p o) refl
declared_new p cs n x ws owner e _ = alike

-- what clients have at what there was is as it was
service_new : (cs : List Cell) (n : ℕ) (x : Thing) (ws : List ℤ) (owner : Place) (o : Object) → named cs n ≡ None → named cs o.name ≡ Some o →
    service_of (with_new n x ws owner cs) o.name ≡ service_of cs o.name
service_new cs n x ws owner o e h = grind (arith, nat_tests, ne_eqb n o.name)

lives_new : (cs : List Cell) (n : ℕ) (x : Thing) (ws : List ℤ) (owner : Place) (o : Object) → named cs n ≡ None → named cs o.name ≡ Some o →
    named (with_new n x ws owner cs) o.name ≡ Some o
lives_new cs n x ws owner o e h = search (arith, nat_tests, ne_eqb n o.name)

holds_new : (p : Image) (cs : List Cell) (n : ℕ) (x : Thing) (ws : List ℤ) (owner : Place) (ls : List Layer) (receiver : Receiver) → named cs n ≡ None → Outside owner
    ls → ((o : Object) (from : Place) → receiver ≡ Inside o from → NoFieldHere owner from) → ReceiverIsHeld p cs ls receiver → ReceiverIsHeld p (with_new n x ws owner cs) ls receiver
holds_new p cs n x ws owner ls y e out nf h = grind (arith, nat_tests, outside_differs owner, lives_new cs n x ws owner)

stack_new : (p : Image) (t : Typing) (cs : List Cell) (n : ℕ) (x : Thing) (ws : List ℤ) (f i : ℕ) (ls : List Layer) (back : Back) →
    named cs n ≡ None → length (tasks_of ls) ≤ f → Stack p t cs back ls → Stack p t (with_new n x ws (Register f i) cs) back ls
stack_new p t cs n x ws f i [] back e out s = s
stack_new p t cs n x ws f i (Method fr sh ∷ ls) back e out s =
    (s.0, s.1, holds_new p cs n x ws (Register f i) ls fr.receiver e (omega arith) (λ o from e. tt) s.2, s.3, stack_new p t cs n x ws f i ls _ e (omega arith) s.4)
stack_new p t cs n x ws f i (Mark gv ∷ ls) back e out s = (s.0, stack_new p t cs n x ws f i ls _ e (omega arith) s.1)
stack_new p t cs n x ws f i (Dispatching d owned_chain ∷ ls) back e out s = (
  s.0,
  s.1,
  sits_kept cs cs' q q owned_chain (λ r o other other' there lives. (grind (arith, nat_tests), lives_new cs n x ws q o e lives)) tt tt s.2,
  grind (arith, nat_tests, first_kept, ne_eqb),
  grind (arith, nat_tests, attended_at, service_new, sits_lives),
)
  where
    q : Place
    q = Register f i

    cs' : List Cell
    cs' = with_new n x ws (Register f i) cs
stack_new p t cs n x ws f i (Ending o left ∷ ls) back e out s = search (
  arith,
  nat_tests,
  lives_new cs n x ws (Register f i) o e s.0.lives,
  service_new cs n x ws (Register f i) o e s.0.lives,
  stack_new p t cs n x ws f i ls,
)
stack_new p t cs n x ws f i (Unwinding code es ∷ ls) back e out s = (s.0, stack_new p t cs n x ws f i ls _ e (omega arith) s.1)
stack_new p t cs n x ws f i (Dying o ∷ ls) back e out s =
    ((lives_new cs n x ws (Register f i) o e s.0.0, s.0.1), s.1, stack_new p t cs n x ws f i ls _ e (omega arith) s.2)

-- no layer works on a cell that is not there
module _ (p : Image) (cs : List Cell) (o : Object) where
  unworked_receiver : (ls : List Layer) (receiver : Receiver) → ReceiverIsHeld p cs ls receiver → named cs o.name ≡ None → works_at o.name receiver ≡ false
  unworked_receiver ls x h e = grind (arith, nat_tests, ne_eqb)

  unworked_unnamed : (t : Typing) (ls : List Layer) (back : Back) → Stack p t cs back ls → named cs o.name ≡ None → Unworked o.name ls
  unworked_unnamed t [] back s e = tt
  unworked_unnamed t (Method fr sh ∷ ls) back s e = (unworked_receiver ls fr.receiver s.2 e, unworked_unnamed t ls _ s.4 e)
  unworked_unnamed t (Dying x ∷ ls) back s e = (grind (arith, nat_tests, ne_eqb x.name o.name), unworked_unnamed t ls _ s.2 e)
  unworked_unnamed t (Ending x left ∷ ls) back s e = unworked_unnamed t ls _ s.3 e
  unworked_unnamed t (Dispatching d owned_chain ∷ ls) back s e = subst (λ l. Unworked o.name l) (sym s.1) tt
  unworked_unnamed t (_ ∷ ls) back s e = unworked_unnamed t ls _ s.1 e

-- a new cell in a register of the top method
pub create : (p : Image) (t : Typing) (cs : List Cell) (fr : Frame) (sh : AbstractState) (ls : List Layer) (n : ℕ) (x : Thing) (ws : List ℤ) (a : ℕ) (k : Kind) →
    Fitted p t cs fr sh ls → named cs n ≡ None → held cs (top ls a) ≡ None →
    ((h : CellView) → ((f : ℕ) → h.holds (Field n f) ≡ None) → h.requests n ≡ None → Fits p h (Some (record { name = n; thing = x })) k) → WordFits None k →
    Fitted p t (with_new n x ws (top ls a) cs) (next (set_word fr a None)) (set_register sh a k) ls
create p t cs fr sh ls n x ws a k g e free new word = record {
  fits = fits;
  conforms_to = conforms_to;
  no_duplicates = (free, e, g.no_duplicates);
  frames = frames_reworded g.frames (words_set fr.words sh a None k g.frames.words word);
  receiver_held = holds_new p cs n x ws (top ls a) ls fr.receiver e (omega arith) (λ o from e. tt) g.receiver_held;
  apart = g.apart;
  stack = stack_new p t cs n x ws (length (tasks_of ls)) a ls _ e (omega arith) g.stack;
}
  where
    cs' : List Cell
    cs' = with_new n x ws (top ls a) cs

    back : Back
    back = Returns fr.method fr.receiver

    no_field : (f : ℕ) → held cs (Field n f) ≡ None
    no_field f = fits_unowning p (seen cs) _ Null refl (rw (unclaimed ∙ ap (λ o. declared_field p o f) e) at (g.fits (Field n f)))
      where
        own : (h : Receiver) → ReceiverIsHeld p cs ls h →
            receiver_claim p (holder_of p fr.method) h sh n f (claim p (declared p cs) ls (Field n f)) ≡ claim p (declared p cs) ls (Field n f)
        own Static h = refl
        own AtRoot h = refl
        own (Inside o from) h = ap (λ b. cond b (own_field (field_thing p (holder_of p fr.method) f) (field sh f) (claim p (declared p cs) ls (Field n f)))
            (claim p (declared p cs) ls (Field n f)))
            (ne_eqb o.name n (λ same. let l = h.lives in let e' : Some o ≡ None = sym l ∙ ap (λ x. named cs x) same ∙ e in cc))

        unclaimed : claim p (declared p cs) (Method fr sh ∷ ls) (Field n f) ≡ declared p cs (Field n f)
        unclaimed = own fr.receiver g.receiver_held ∙ claim_unnamed p t cs (declared p cs) ls back n f g.stack e

    no_request : requested cs' n ≡ None
    no_request = ap (λ b. cond b None (requested cs n)) (eq-eqb n n refl)

    fits : (r : Place) → Fits p (seen cs') (held cs' r) (claim p (declared p cs') (Method (next (set_word fr a None)) (set_register sh a k) ∷ ls) r)
    fits r = rw (claim_frame p (declared p cs') fr (next (set_word fr a None)) (set_register sh a k) ls r refl refl
        ∙ claim-set_register p (declared p cs') fr sh ls a k r) (go (same_place (top ls a) r))
      where
        go : (b : Bool) → Fits p (seen cs') (cond b (Some (record { name = n; thing = x })) (held cs r)) (cond b k (claim p (declared p cs') (Method fr sh ∷ ls) r))
        go true = new (seen cs') no_field no_request
        go false = fits_weaker p (seen cs') (held cs r)
            (claim_rel Weaker (λ k. alike) p (declared p cs') (declared p cs) (Method fr sh ∷ ls) r (declared_new p cs n x ws (top ls a) e r))
            (fits_age p (seen cs) (seen cs') (held cs r) _ (λ y e' fresh age. (age.0, grind arith)) (g.fits r))

    -- no layer works on what was not there
    conforms_to : AllConformTo p cs' (Method (next (set_word fr a None)) (set_register sh a k) ∷ ls)
    conforms_to o lives = go (n == o.name) refl lives
      where
        go : (b : Bool) → (n == o.name) ≡ b → cond b (Some (record { name = n; thing = x })) (named cs o.name) ≡ Some o →
            ConformsTo (thing_kind p o.thing) (states_claim p o (Method fr sh ∷ ls)) (cond b None (requested cs o.name))
        go true same here =
            let unnamed : named cs o.name ≡ None = ap (λ m. named cs m) (sym (eqb-true n o.name same)) ∙ e in
            rw (unworked_rests p o (Method fr sh ∷ ls) (unworked_receiver p cs o ls fr.receiver g.receiver_held unnamed, unworked_unnamed p cs o t ls back g.stack unnamed))
            (conforms_to_new (thing_kind p o.thing))
        go false other here = g.conforms_to o here

module _ (p : Image) (t : Typing) (c : Choice) (s : State) (fr : Frame) (sh : AbstractState) (ls : List Layer) (has_task : At p t s fr sh ls) where
  d : Place → Kind
  d = declared p s.cells

  -- the name that the choice gives a new cell is free
  abbrev pub IsUnused : Type 0
  IsUnused = named s.cells c.name ≡ None

  pub age_fits : (h : CellView) (a : InitState) (o : Object) → ((f : ℕ) → h.holds (Field o.name f) ≡ None) → h.requests o.name ≡ None → HasAge h o a
  age_fits h x o n u = grind arith

  -- a new cell comes to a register that owned nothing
  pub made_well : (a x : ℕ) (k : Kind) → held s.cells (top ls a) ≡ None → IsUnused → ((h : CellView) → HasAge h (record { name = c.name; thing = An_object_of x })
      (new_age p x) → Fits p h (Some (record { name = c.name; thing = An_object_of x })) k) → WordFits None k →
      Leads t fr.method (suc fr.place) (set_register sh a k) → WellTyped p t (applied p fr (tasks_of ls) s (sets fr a None (Made c.name x a)))
  made_well a x k free unused owns word leads =
      well p t c s fr sh ls has_task _ fr' (set_register sh a k) refl has_task.items has_task.undo_operations (settle p t _ fr' (set_register sh a k) ls makes leads)
    where
      fr' : Frame
      fr' = next (set_word fr a None)

      makes : Fitted p t (with_new c.name (An_object_of x) (no_words p x) (top ls a) s.cells) fr' (set_register sh a k) ls
      makes = create p t s.cells fr sh ls c.name (An_object_of x) (no_words p x) a k (fitted p t s.cells fr sh ls has_task.good) unused free
          (λ h nf u. owns h (age_fits h (new_age p x) (record { name = c.name; thing = An_object_of x }) nf u)) word

  pub law_new : (a x : ℕ) → IsUnused → Law p t c s fr sh ls has_task (New a x)
  law_new a x unused n leads = ((ap is_none free, tt), go c.refused)
    where
      k : Kind
      k = Maybe (An_object_of x) (new_age p x)

      fr' : Frame
      fr' = next (set_word fr a None)

      free : held s.cells (top ls a) ≡ None
      free = free_register p t c s fr sh ls has_task a n.0

      refuses : Fitted p t s.cells fr' (set_register sh a k) ls
      refuses = relabel p t s.cells fr fr' sh (set_register sh a k) ls (top ls a) k (fitted p t s.cells fr sh ls has_task.good) refl refl refl refl
          (rw free tt) (λ r. claim-set_register p (declared p s.cells) fr sh ls a k r) (words_set fr.words sh a None k has_task.good.stack.1.words refl)

      go : (b : Bool) → WellTyped p t (applied p fr (tasks_of ls) s (sets fr a None (makes_unless b c.name x a)))
      go true = well p t c s fr sh ls has_task _ fr' (set_register sh a k) refl has_task.items has_task.undo_operations
          (settle p t _ fr' (set_register sh a k) ls refuses leads.0)
      go false = made_well a x k free unused (λ h age. (stands_itself p (An_object_of x), age)) refl leads.0

  -- the instruction of this file by its law
  abbrev pub of_creation : IsUnused → (i : Instr) → Option (Law p t c s fr sh ls has_task i)
  of_creation unused (New a x) = Some (law_new a x unused)
  of_creation unused _ = None
