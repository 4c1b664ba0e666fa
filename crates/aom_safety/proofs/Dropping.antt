-- Where messages go that wait in a queue or are served, all else is as it was: by the cells one after another.
use Rattle.std.proofs.lemmas.Bool.Decides.{nat_tests}
use Rattle.std.proofs.Common.{[], Bool, List, None, Option, Some, ap, cond, false, inl, inr, refl, subst, sym, true, ⊎_elim, ℕ, ◌==◌, ◌∙◌, ◌∷◌, ◌≡◌, ◌⊎◌, arith}
use Rattle.std.proofs.lemmas.Bool.{cases_Bool, eqb-true, true≢false}
use Rattle.aom_image.specs.Image.{Image}
use Rattle.aom_image.specs.declared.method.Thing.{Thing}
use Rattle.aom_image.specs.declared.method.Thing.TheVariants.{Message}
use Rattle.aom_roles.specs.Classes.{sessions_in}
use Rattle.aom_typing_rules.specs.Typing.{Typing}
use Rattle.aom_abstract_state.specs.Kinds.{filled}
use Rattle.aom_abstract_state.specs.declared.kind.FieldState.TheVariants.{Full}
use Rattle.aom_abstract_state.specs.declared.kind.Kind.TheVariants.{Null}
pub use Rattle.aom_safety.proofs.SemanticsLemmas.{requested_unnamed}
use Rattle.aom_safety.proofs.SemanticsLemmas.{cond_same, held_lives, same_place-true, same_place_refl}
use Rattle.aom_safety.proofs.Services.{attended_at}
use Rattle.aom_safety.specs.Claims.{claim, Dispatching, Dying, Ending, Layer, Mark, Method, Unwinding, declared, declared_field}
use Rattle.aom_semantics.specs.Places.{CellView, seen, Cell, Elsewhere, Field, In_service, Object, Place, Queued, Session}
use Rattle.aom_semantics.specs.Places.{NoDuplicates, held, named, requested, same_place, service_of, without, Service}
use Rattle.aom_semantics.specs.Servers.{is_server, has_message, has_session, is_queue_of, message_thing, session_thing, without_queue}
use Rattle.aom_semantics.specs.State.{Receiver, Inside, OwnedObject}
use Rattle.aom_safety.specs.WellTyped.{EndsSessions, Fits, OwnedFirst, IsOwnedChain, Back, IsBelow, ReceiverIsHeld, OwnedWithin, Stack, owned_object_of}
use Rattle.std.specs.Prelude.{is_some}
use Rattle.std.proofs.lemmas.Option.{same_Some}
use Rattle.aom_abstract_state.specs.declared.kind.Kind.{Kind}
use Rattle.aom_safety.proofs.Claimed.{fits_age}
use Rattle.aom_safety.specs.Requests.{AllConformTo}
use Rattle.aom_roles.specs.Shapes.{kind_of}

-- a message that waits or is served
abbrev pub is_sent : Place → Bool
is_sent (Elsewhere In_service) = true
is_sent (Elsewhere (Queued s m)) = true
is_sent _ = false

-- what these places own goes
module _ (gone : Place → Bool) where
  abbrev pub dropped : List Cell → List Cell
  dropped [] = []
  dropped (c ∷ cs) = cond (gone c.owner) (dropped cs) (c ∷ dropped cs)

  pub held_dropped : (cs : List Cell) (r : Place) → held (dropped cs) r ≡ cond (gone r) None (held cs r)
  held_dropped [] r = sym (cond_same (gone r) None)
  held_dropped (c ∷ cs) r = grind (arith, nat_tests, held_dropped cs r, same_place-true c.owner r)

  -- of that name there is what there was
  pub record SameAtName (cs : List Cell) (n : ℕ) : Type 0 where
    pub name : named (dropped cs) n ≡ named cs n
    pub service : service_of (dropped cs) n ≡ service_of cs n
    pub request : requested (dropped cs) n ≡ requested cs n

  -- or it went
  pub record Went (cs : List Cell) (n : ℕ) : Type 0 where
    pub object : Object
    pub place : Place
    pub there : held cs place ≡ Some object
    pub goes : gone place ≡ true
    pub was : named cs n ≡ Some object
    pub none : named (dropped cs) n ≡ None

  pub each_name : (cs : List Cell) → NoDuplicates cs → (n : ℕ) → SameAtName cs n ⊎ Went cs n
  each_name [] t n = inl (record { name = refl; service = refl; request = refl })
  each_name (c ∷ cs) t n = go (gone c.owner) (c.object.name == n) refl refl (each_name cs t.2 n)
    where
      later : (w : Went cs n) → cond (same_place c.owner w.place) (Some c.object) (held cs w.place) ≡ Some w.object
      later w = at_place (same_place c.owner w.place) refl
        where
          at_place : (b : Bool) → same_place c.owner w.place ≡ b → cond b (Some c.object) (held cs w.place) ≡ Some w.object
          at_place true e = let clash : Some w.object ≡ None = sym w.there ∙ ap (λ q. held cs q) (sym (same_place-true c.owner w.place e)) ∙ t.0 in cc
          at_place false e = w.there

      none_left : (c.object.name == n) ≡ true → SameAtName cs n ⊎ Went cs n → named (dropped cs) n ≡ None
      none_left e (inl s) = s.name ∙ ap (λ m. named cs m) (sym (eqb-true c.object.name n e)) ∙ t.1
      none_left e (inr w) = w.none

      go : (x y : Bool) → gone c.owner ≡ x → (c.object.name == n) ≡ y → SameAtName cs n ⊎ Went cs n → SameAtName (c ∷ cs) n ⊎ Went (c ∷ cs) n
      go true true ex ey ih = inr (record {
        object = c.object;
        place = c.owner;
        there = ap (λ b. cond b (Some c.object) (held cs c.owner)) (same_place_refl c.owner);
        goes = ex;
        was = ap (λ b. cond b (Some c.object) (named cs n)) ey;
        none = ap (λ b. named (cond b (dropped cs) (c ∷ dropped cs)) n) ex ∙ none_left ey ih;
      })
      go true false ex ey (inl s) = inl (record {
        name = ap (λ b. named (cond b (dropped cs) (c ∷ dropped cs)) n) ex ∙ s.name ∙ sym (ap (λ b. cond b (Some c.object) (named cs n)) ey);
        service = ap (λ b. service_of (cond b (dropped cs) (c ∷ dropped cs)) n) ex ∙ s.service ∙ sym (ap (λ b. cond b c.service (service_of cs n)) ey);
        request = ap (λ b. requested (cond b (dropped cs) (c ∷ dropped cs)) n) ex ∙ s.request ∙ sym (ap (λ b. cond b c.request (requested cs n)) ey);
      })
      go true false ex ey (inr w) = inr (record {
        object = w.object;
        place = w.place;
        there = later w;
        goes = w.goes;
        was = ap (λ b. cond b (Some c.object) (named cs n)) ey ∙ w.was;
        none = ap (λ b. named (cond b (dropped cs) (c ∷ dropped cs)) n) ex ∙ w.none;
      })
      go false true ex ey ih = inl (record {
        name = ap (λ b. named (cond b (dropped cs) (c ∷ dropped cs)) n) ex ∙ ap (λ b. cond b (Some c.object) (named (dropped cs) n)) ey
            ∙ sym (ap (λ b. cond b (Some c.object) (named cs n)) ey);
        service = ap (λ b. service_of (cond b (dropped cs) (c ∷ dropped cs)) n) ex ∙ ap (λ b. cond b c.service (service_of (dropped cs) n)) ey
            ∙ sym (ap (λ b. cond b c.service (service_of cs n)) ey);
        request = ap (λ b. requested (cond b (dropped cs) (c ∷ dropped cs)) n) ex ∙ ap (λ b. cond b c.request (requested (dropped cs) n)) ey
            ∙ sym (ap (λ b. cond b c.request (requested cs n)) ey);
      })
      go false false ex ey (inl s) = inl (record {
        name = ap (λ b. named (cond b (dropped cs) (c ∷ dropped cs)) n) ex ∙ ap (λ x. cond (c.object.name == n) (Some c.object) x) s.name;
        service = ap (λ b. service_of (cond b (dropped cs) (c ∷ dropped cs)) n) ex ∙ ap (λ x. cond (c.object.name == n) c.service x) s.service;
        request = ap (λ b. requested (cond b (dropped cs) (c ∷ dropped cs)) n) ex ∙ ap (λ x. cond (c.object.name == n) c.request x) s.request;
      })
      go false false ex ey (inr w) = inr (record {
        object = w.object;
        place = w.place;
        there = later w;
        goes = w.goes;
        was = ap (λ b. cond b (Some c.object) (named cs n)) ey ∙ w.was;
        none = ap (λ b. named (cond b (dropped cs) (c ∷ dropped cs)) n) ex ∙ ap (λ b. cond b (Some c.object) (named (dropped cs) n)) ey ∙ w.none;
      })

  pub fewer_held : (cs : List Cell) (r : Place) → held cs r ≡ None → held (dropped cs) r ≡ None
  fewer_held cs r e = held_dropped cs r ∙ ap (λ x. cond (gone r) None x) e ∙ cond_same (gone r) None

  pub fewer_requested : (cs : List Cell) → NoDuplicates cs → (n : ℕ) → requested cs n ≡ None → requested (dropped cs) n ≡ None
  fewer_requested cs t n e = ⊎_elim (λ s. s.request ∙ e) (λ w. requested_unnamed (dropped cs) n w.none) (each_name cs t n)

  pub tidy_dropped : (cs : List Cell) → NoDuplicates cs → NoDuplicates (dropped cs)
  tidy_dropped [] t = tt
  tidy_dropped (c ∷ cs) t = grind (arith, nat_tests, tidy_dropped cs t.2, fewer_held cs c.owner t.0, each_name)

  -- where these are messages
  module _ (p : Image) (cs : List Cell) (no_duplicates : NoDuplicates cs) (messages : (r : Place) (x : Object) → gone r ≡ true → held cs r ≡ Some x → x.thing ≡ Message) where
    pub stays_at : (r : Place) (x : Object) → gone r ≡ false → held cs r ≡ Some x → held (dropped cs) r ≡ Some x
    stays_at r x e h = held_dropped cs r ∙ ap (λ b. cond b None (held cs r)) e ∙ h

    pub stays_named : (r : Place) (x : Object) → gone r ≡ false → held cs r ≡ Some x → named (dropped cs) x.name ≡ Some x
    stays_named r x e h = held_lives (dropped cs) r x (tidy_dropped cs no_duplicates) (stays_at r x e h)

    pub stays_same : (r : Place) (x : Object) → gone r ≡ false → held cs r ≡ Some x → SameAtName cs x.name
    stays_same r x e h = grind (arith, nat_tests, stays_named r x e h, each_name cs no_duplicates x.name)

    -- what a service says with its server's kind, where a message's is null
    serves_dropped :
        (n : ℕ) (has : Service → Bool) (kind : Option Object → Kind) → kind None ≡ Null → ((x : Object) → x.thing ≡ Message → kind (Some x) ≡ Null) →
        cond (has (service_of (dropped cs) n)) (kind (named (dropped cs) n)) Null ≡ cond (has (service_of cs n)) (kind (named cs n)) Null
    serves_dropped n has kind none of_message = grind (arith, nat_tests, none, each_name cs no_duplicates n, cond_same)

    pub declared_dropped : (r : Place) → declared p (dropped cs) r ≡ declared p cs r
    unfolding sessions_in kind_of
    declared_dropped (Field n f) =
        serves_dropped n (λ v. true) (λ o. declared_field p o f) refl (λ x e. ap (λ y. declared_field p (Some (record { name = x.name; thing = y })) f) e)
    declared_dropped (Elsewhere (Session n c)) = serves_dropped n (λ v. has_session v c)
        (λ o. filled (session_thing p o) Full) refl (λ x e. ap (λ y. filled (session_thing p (Some (record { name = x.name; thing = y }))) Full) e)
    declared_dropped (Elsewhere (Queued n m)) = serves_dropped n (λ v. has_message v m)
        (λ o. filled (message_thing p o) Full) refl (λ x e. ap (λ y. filled (message_thing p (Some (record { name = x.name; thing = y }))) Full) e)
    declared_dropped _ = refl

    pub conforms_to_dropped : (ls : List Layer) → AllConformTo p cs ls → AllConformTo p (dropped cs) ls
    conforms_to_dropped ls s o lives = grind (arith, nat_tests, each_name cs no_duplicates o.name)

    pub fits_dropped : (r : Place) (k : Kind) → gone r ≡ false → Fits p (seen cs) (held cs r) k → Fits p (seen (dropped cs)) (held (dropped cs) r) k
    fits_dropped r k e f = grind (arith, nat_tests, held_dropped, fits_age, fewer_held, fewer_requested)

    -- that were sent
    module _ (sent : (r : Place) → gone r ≡ true → is_sent r ≡ true) where
      -- what holds the objects of methods and seats stays
      spared : (r : Place) → is_sent r ≡ false → gone r ≡ false
      spared r e = ⊎_elim (λ g. absurd (true≢false (sym (sent r g) ∙ e))) (λ g. g) (cases_Bool (gone r))

      below_spared : (r : Place) (ls : List Layer) → IsBelow r ls → gone r ≡ false
      below_spared r ls b = grind arith

      sits_spared : (r : Place) (xs : List OwnedObject) → OwnedWithin r xs → gone r ≡ false
      sits_spared x xs b = grind arith

      receiver_held_dropped : (ls : List Layer) (receiver : Receiver) → ReceiverIsHeld p cs ls receiver → ReceiverIsHeld p (dropped cs) ls receiver
      receiver_held_dropped ls (Inside o from) h = let e = below_spared from ls h.below in
          record { there = stays_at from o e h.there; lives = stays_named from o e h.there; below = h.below; ready = h.ready }
      receiver_held_dropped ls _ h = h

      all_sit_dropped : (xs : List OwnedObject) → IsOwnedChain cs xs → IsOwnedChain (dropped cs) xs
      all_sit_dropped [] s = tt
      all_sit_dropped (x ∷ xs) s = let e = sits_spared x.place xs s.0.2 in
          ((stays_at x.place x.object e s.0.0, stays_named x.place x.object e s.0.0, s.0.2, s.0.3), all_sit_dropped xs s.1)

      -- the object that is dispatched stays
      first_same : (xs : List OwnedObject) (x : OwnedObject) → IsOwnedChain cs xs → OwnedFirst cs (Some x) xs → SameAtName cs x.object.name
      first_same (y ∷ ys) x s f = grind (arith, nat_tests, stays_same y.place y.object (sits_spared y.place ys s.0.2) s.0.0, sits_spared y.place ys s.0.2)
      first_same [] x s f = cc

      first_dropped : (d : Option OwnedObject) (xs : List OwnedObject) → IsOwnedChain cs xs → OwnedFirst cs d xs → OwnedFirst (dropped cs) d xs
      first_dropped None xs s f = f
      first_dropped (Some x) xs s f = (ap is_some (first_same xs x s f).request ∙ f.0, f.1, f.2)

      not_message : (x : Thing) → is_server p x ≡ true → x ≡ Message → ⊥
      unfolding sessions_in kind_of
      not_message x e m = true≢false (sym e ∙ ap (is_server p) m)

      sessions_dropped : (o : Object) (left : List ℕ) → EndsSessions p cs o left → EndsSessions p (dropped cs) o left
      sessions_dropped o left h = ⊎_elim
          (λ s. record { server = h.server; lives = s.name ∙ h.lives; listed = λ c e. ap (λ v. has_session v c) s.service ∙ h.listed c e })
          (λ w. let same : w.object ≡ o = same_Some w.object o (sym w.was ∙ h.lives) in absurd (grind (arith, nat_tests, not_message)))
          (each_name cs no_duplicates o.name)

      pub stack_dropped : (t : Typing) (ls : List Layer) (back : Back) → Stack p t cs back ls → Stack p t (dropped cs) back ls
      stack_dropped t [] back s = s
      stack_dropped t (Method fr sh ∷ ls) back s = (s.0, s.1, receiver_held_dropped ls fr.receiver s.2, s.3, stack_dropped t ls _ s.4)
      stack_dropped t (Mark gv ∷ ls) back s = (s.0, stack_dropped t ls _ s.1)
      stack_dropped t (Dying o ∷ ls) back s = search (arith, nat_tests, stays_named, spared, stays_at, stack_dropped t ls)
      stack_dropped t (Ending o left ∷ ls) back s = (sessions_dropped o left s.0, s.1, s.2, stack_dropped t ls _ s.3)
      stack_dropped t (Unwinding code es ∷ ls) back s = (s.0, stack_dropped t ls _ s.1)
      stack_dropped t (Dispatching d owned_chain ∷ ls) back s = (
        s.0,
        s.1,
        all_sit_dropped owned_chain s.2,
        first_dropped (owned_object_of d) owned_chain s.2 s.3,
        attended_at p cs (dropped cs) d (λ y there. (first_same owned_chain y s.2 (subst (λ o. OwnedFirst cs o owned_chain) there s.3)).service) s.4,
      )

-- two of these
pub queue_dropped : (n : ℕ) (cs : List Cell) → without_queue n cs ≡ dropped (is_queue_of n) cs
queue_dropped n [] = refl
queue_dropped n (c ∷ cs) = ap (λ l. cond (is_queue_of n c.owner) l (c ∷ l)) (queue_dropped n cs)

pub place_dropped : (q : Place) (cs : List Cell) → without q cs ≡ dropped (λ r. same_place r q) cs
place_dropped q [] = refl
place_dropped q (c ∷ cs) = ap (λ l. cond (same_place c.owner q) l (c ∷ l)) (place_dropped q cs)

-- what a layer claims of a queue is what is declared
pub queued_claim : (p : Image) (d : Place → Kind) (ls : List Layer) (n m : ℕ) → claim p d ls (Elsewhere (Queued n m)) ≡ d (Elsewhere (Queued n m))
queued_claim p d [] n m = refl
queued_claim p d (l ∷ ls) n m = queued_claim p d ls n m

-- what waits in a queue is a message
pub waits_message : (p : Image) (h : CellView) (x : Object) (b : Bool) (o : Option Object) →
    Fits p h (Some x) (cond b (filled (message_thing p o) Full) Null) → x.thing ≡ Message
waits_message p h x y z f = grind arith
