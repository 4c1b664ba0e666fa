-- A cell goes.
use Rattle.std.proofs.lemmas.Bool.Decides.{nat_tests}
use Rattle.aom_image.specs.declared.method.Thing.{Thing}
use Rattle.std.proofs.Common.{Bool, List, None, Option, Some, [], ap, arith, cond, false, length, refl, subst, sym, true, ℕ, ◌&&◌, ◌==◌, ◌∙◌, ◌∷◌, ◌≡◌}
use Rattle.std.proofs.lemmas.Bool.{and_from, eq-eqb, eqb-true, ne_eqb, true≢false}
use Rattle.std.specs.Prelude.{not}
use Rattle.aom_image.specs.Image.{Image}
use Rattle.aom_typing_rules.specs.Typing.{Typing}
use Rattle.aom_abstract_state.specs.declared.kind.Kind.TheVariants.{Null}
use Rattle.std.specs.Prelude.{is_some}
use Rattle.aom_safety.proofs.OwnedObjects.{NoFieldHere, first_kept, sits_kept}
use Rattle.aom_safety.proofs.Claimed.{no_owned_object_outside, Outside, claim_frame, claim_going_above, claim_rel, claim_unclaimed}
use Rattle.aom_safety.proofs.Claimed.{fits_age, going_differs, outside_differs, outside_less}
use Rattle.aom_safety.proofs.Destroying.{eqb_comm, Untouched, other_name, untouched}
use Rattle.aom_safety.proofs.Emptied.{emptied_by}
use Rattle.aom_safety.proofs.SemanticsLemmas.{cond_same, front_free, held_without, named_without, requested_without, same_place-true, same_place_refl}
use Rattle.aom_safety.proofs.SemanticsLemmas.{tidy_without, unnamed, unrequested}
use Rattle.aom_safety.proofs.Straight.{frames_reworded, Fitted, fits_unowning, settle}
use Rattle.aom_safety.specs.Claims.{Ending, Dispatching, Dying, Layer, Mark, Method, Unwinding, claim}
use Rattle.aom_safety.specs.Claims.{declared, declared_field, forms, items_of, objects, tasks_of}
use Rattle.aom_semantics.specs.Destruction.{needs_past, owns_none_past, is_past, gone, is_at_rest, is_field_of, owns_nothing}
use Rattle.aom_semantics.specs.Places.{Session, Queued, service_of, Cell, Elsewhere, Field, Going, Object, Place}
use Rattle.aom_semantics.specs.Places.{Request, NoDuplicates, held, named, requested, same_place, seen, without}
use Rattle.aom_semantics.specs.State.{Of_server, Disconnects, Receiver, Of_root, State, next, resumed}
use Rattle.aom_safety.specs.WellTyped.{IsOverDying, OwnedFirst, owned_object_of, AllUndo, Back, Caught, Fits, Gone}
use Rattle.aom_safety.specs.WellTyped.{Good, Holds, ReceiverIsHeld, PreservesTyping, Leaves, Now, Returns, Stack, WellTyped}
use Rattle.aom_safety.specs.Requests.{AllConformTo, ConformsTo, resting_in, states_claim, thing_kind}
use Rattle.aom_roles.specs.States.{last_of}
use Rattle.aom_image.specs.declared.class.ClassKind.{ClassKind}
use Rattle.aom_semantics.specs.Servers.{has_session, has_message, session_thing, message_thing, is_queue_of, without_queue}
use Rattle.aom_semantics.specs.Clients.{each_slot_released, queue_ended, sessions_ended}
use Rattle.aom_safety.proofs.Dropping.{dropped, held_dropped, queue_dropped, queued_claim, waits_message, is_sent, stack_dropped}
use Rattle.aom_safety.proofs.Dropping.{tidy_dropped, fits_dropped, declared_dropped, conforms_to_dropped, stays_same}
use Rattle.aom_safety.proofs.SlotRelease.{each_slot_released_alike, each_slot_released_requests}
use Rattle.aom_safety.proofs.Storing.{stack_alike, fits_alike}
use Rattle.aom_safety.proofs.Services.{attended_at, service_without, sits_there}
use Rattle.aom_abstract_state.specs.Kinds.{filled}
use Rattle.aom_abstract_state.specs.declared.kind.FieldState.TheVariants.{Full}
use Rattle.aom_image.specs.declared.method.Thing.TheVariants.{Message}
use Rattle.aom_roles.specs.Things.{is_object}
use Rattle.aom_roles.specs.Tests.{AllTrue}

-- no place of a cell owns, where none of them holds anything
pub nothing_in : (cs : List Cell) (n : ℕ) → ((r : Place) → is_field_of n r ≡ true → held cs r ≡ None) → owns_nothing cs n ≡ true
nothing_in [] n h = refl
nothing_in (c ∷ cs) n h = grind (arith, nat_tests, and_from, nothing_in cs n, front_free, same_place_refl c.owner)

-- and none past so many fields
none_past : (k : ℕ) (such : Thing → Bool) (cs : List Cell) (n : ℕ) → ((r : Place) → is_past k n r ≡ true → held cs r ≡ None) → owns_none_past k such cs n ≡ true
none_past k such [] n h = refl
none_past k such (c ∷ cs) n h = grind (arith, nat_tests, and_from, none_past k such cs n, front_free, same_place_refl c.owner)

pub past_by : (k : ℕ) (cs : List Cell) (n : ℕ) → ((r : Place) → is_past k n r ≡ true → held cs r ≡ None) → AllTrue (needs_past k cs n)
past_by k cs n h = (none_past k is_object cs n h, (none_past k (λ t. not (is_object t)) cs n h, tt))

module _ (p : Image) (t : Typing) (cs : List Cell) (g : Place) (o : Object) (no_duplicates : NoDuplicates cs) (there : held cs g ≡ Some o) where
  holds_without : (ls : List Layer) (x : Object) (from : Place) → same_place g from ≡ false → Holds p cs ls x from → Holds p (without g cs) ls x from
  holds_without ls x from e h = record {
    there = held_without cs g from ∙ ap (λ b. cond b None (held cs from)) e ∙ h.there;
    lives = named_without cs g o x.name no_duplicates there (grind (arith, nat_tests, ne_eqb, eq-eqb, other_name)) ∙ h.lives;
    below = h.below;
    ready = h.ready;
  }

  pub receiver_held_without : (ls : List Layer) (receiver : Receiver) → Outside g ls → ((from : Place) → NoFieldHere g from) → ReceiverIsHeld p cs ls receiver →
      ReceiverIsHeld p (without g cs) ls receiver
  receiver_held_without ls x out plain h = grind (arith, nat_tests, holds_without, outside_differs)

  -- the server that goes above a layer is another cell
  ending_other : (x : Object) (ls : List Layer) → Outside g ls → IsOverDying x ls → Stack p t cs Now ls → (o.name == x.name) ≡ false
  ending_other x y out same s = grind (arith, ne_eqb, eq-eqb, other_name, going_differs)

  pub stack_without : (ls : List Layer) (back : Back) → Outside g ls → ((from : Place) → NoFieldHere g from) → Stack p t cs back ls →
      Stack p t (without g cs) back ls
  stack_without [] back out plain s = s
  stack_without (Method fr sh ∷ ls) back out plain s =
      grind (arith, nat_tests, outside_less g (Method fr sh) ls out, receiver_held_without ls fr.receiver, stack_without ls (Returns fr.method fr.receiver))
  stack_without (Mark gv ∷ ls) back out plain s = (s.0, stack_without ls (Caught gv) (outside_less g (Mark gv) ls out) plain s.1)
  stack_without (Dispatching d owned_chain ∷ ls) back out plain s =
      let none = no_owned_object_outside g d owned_chain ls out in (
        s.0,
        s.1,
        sits_kept cs (without g cs) g g owned_chain (λ r x other other' there lives. (
          held_without cs g r ∙ ap (λ b. cond b None (held cs r)) other ∙ there,
          named_without cs g o x.name no_duplicates there_it (another r x other there) ∙ lives,
        )) none none s.2,
        first_kept cs (without g cs) g (owned_object_of d) owned_chain
            (λ r x other there lives some. ap is_some (requested_without cs g o x.name no_duplicates there_it (another r x other there)) ∙ some) none s.2 s.3,
        attended_at p cs (without g cs) d (λ y first.
            let f = subst (λ o. OwnedFirst cs o owned_chain) first s.3 in
            service_without cs g o y.object.name no_duplicates there_it (another y.place y.object (grind arith) (sits_there cs owned_chain y s.2 f).0)) s.4,
      )
    where
      there_it : held cs g ≡ Some o
      there_it = there

      another : (r : Place) (x : Object) → same_place g r ≡ false → held cs r ≡ Some x → (o.name == x.name) ≡ false
      another r x other h = ne_eqb o.name x.name (λ same. true≢false (sym (eq-eqb x.name o.name (sym same)) ∙ other_name p t cs g o no_duplicates there_it r x h other))
  stack_without (Ending x left ∷ ls) back out plain s =
      let other = ending_other x ls (outside_less g (Ending x left) ls out) s.2 s.3 in (
        record { server = s.0.server; lives = named_without cs g o x.name no_duplicates there other ∙ s.0.lives; listed = grind (arith, nat_tests, service_without) },
        s.1,
        s.2,
        stack_without ls Now (outside_less g (Ending x left) ls out) plain s.3,
      )
  stack_without (Unwinding code es ∷ ls) back out plain s = (s.0, stack_without ls Leaves (outside_less g (Unwinding code es) ls out) plain s.1)
  stack_without (Dying x ∷ ls) back out plain s =
      let q = Going (length (tasks_of ls)) in
      let e = going_differs g x ls out in (
        grind (
          arith,
          nat_tests,
          named_without cs g o x.name no_duplicates there,
          ne_eqb o.name x.name,
          eq-eqb x.name o.name,
          other_name p t cs g o no_duplicates there q x s.0.1 e,
          held_without cs g q,
        ),
        s.1,
        stack_without ls Gone (outside_less g (Dying x) ls out) plain s.2,
      )

-- a cell that goes has nothing in its fields, and no session
module _ (p : Image) (t : Typing) (cs : List Cell) (o : Object) (ls : List Layer) (good : Good p t cs (Dying o ∷ ls)) where
  no_sessions : (c : ℕ) → held cs (Elsewhere (Session o.name c)) ≡ None
  no_sessions c = grind (arith, nat_tests, fits_unowning, eq-eqb)

  pub nothing_left : owns_nothing (without_queue o.name cs) o.name ≡ true
  nothing_left = grind (arith, nat_tests, nothing_in, queue_dropped o.name cs, held_dropped)

-- once nothing waits in its queue
module _ (p : Image) (t : Typing) (cs : List Cell) (o : Object) (ls : List Layer)
    (stack : Stack p t cs Now (Dying o ∷ ls)) (no_duplicates : NoDuplicates cs) (conforms_to : AllConformTo p cs (Dying o ∷ ls)) (fits : (r : Place) → is_queue_of o.name r ≡ false →
    Fits p (seen cs) (held cs r) (claim p (declared p cs) (Dying o ∷ ls) r)) (unqueued : (m : ℕ) → held cs (Elsewhere (Queued o.name m)) ≡ None) where
  fits_after : (r : Place) → Fits p (seen (without (Going (length (tasks_of ls))) cs))
      (held (without (Going (length (tasks_of ls))) cs) r) (claim p (declared p (without (Going (length (tasks_of ls))) cs)) ls r)
  fits_after r = subst (λ x. Fits p (seen cs') x (claim p (declared p cs') ls r)) (sym (held_without cs g r)) (go (same_place g r) refl)
    where
      g : Place
      g = Going (length (tasks_of ls))

      cs' : List Cell
      cs' = without g cs

      fewer : (q : Place) → held cs q ≡ None → held (without (Going (length (tasks_of ls))) cs) q ≡ None
      fewer q e = held_without cs g q ∙ ap (λ x. cond (same_place g q) None x) e ∙ none (same_place g q)
        where
          none : (b : Bool) → ◌≡◌ {A = Option Object} (cond b None None) None
          none true = refl
          none false = refl

      u : Untouched p (λ f. Null) o.name ls
      u = untouched p t cs g o no_duplicates stack.0.1 (λ f. Null) ls Gone (omega arith) stack.2

      name_gone : named (without (Going (length (tasks_of ls))) cs) o.name ≡ None
      name_gone = unnamed cs g o no_duplicates stack.0.1

      keep : (r : Place) → is_queue_of o.name r ≡ false → claim p (declared p cs) (Dying o ∷ ls) r ≡ claim p (declared p cs) ls r →
          declared p cs r ≡ declared p (without (Going (length (tasks_of ls))) cs) r → Fits p (seen cs') (held cs r) (claim p (declared p cs') ls r)
      keep r plain e h = fits_age p
          (seen cs) (seen cs') (held cs r) _ (λ x e' fresh age. (λ f. fewer (Field x.name f) (age.0 f), unrequested cs g x.name no_duplicates age.1))
          (subst (λ k. Fits p (seen cs) (held cs r) k) (e ∙ claim_rel (λ x y. x ≡ y) (λ k. refl) p (declared p cs) (declared p cs') ls r h) (fits r plain))

      -- what is null and holds nothing goes on so
      nothing : (r : Place) → held cs r ≡ None → claim p (declared p cs') ls r ≡ Null → Fits p (seen cs') (held cs r) (claim p (declared p cs') ls r)
      nothing r gone null = subst (λ x. Fits p (seen cs') x (claim p (declared p cs') ls r)) (sym gone) (subst (λ k. Fits p (seen cs') None k) (sym null) tt)

      others : (r : Place) → same_place g r ≡ false → Fits p (seen cs') (held cs r) (claim p (declared p cs') ls r)
      others (Field n f) e = fields (o.name == n) refl
        where
          own_field : held cs (Field o.name f) ≡ None
          own_field = fits_unowning p (seen cs) _ Null refl (grind (arith, nat_tests, eq-eqb))

          fields : (b : Bool) → (o.name == n) ≡ b → Fits p (seen cs') (held cs (Field n f)) (claim p (declared p cs') ls (Field n f))
          fields true d =
              let same = eqb-true o.name n d in
              nothing (Field n f) (ap (λ m. held cs (Field m f)) (sym same) ∙ own_field) (ap (λ m. claim p (declared p cs') ls (Field m f)) (sym same)
              ∙ claim_unclaimed p (declared p cs') ls o.name f (λ f. Null) u.unclaimed (ap (λ x. declared_field p x f) name_gone))
          fields false d = keep (Field n f) refl (grind (arith, nat_tests)) (ap (λ x. declared_field p x f) (sym (named_without cs g o n no_duplicates stack.0.1 d)))
      others (Elsewhere (Session n c)) e = sessions (o.name == n) refl
        where
          own_session : held cs (Elsewhere (Session o.name c)) ≡ None
          own_session = fits_unowning p (seen cs) _ Null refl (grind (arith, nat_tests, eq-eqb))

          sessions : (b : Bool) → (o.name == n) ≡ b → Fits p (seen cs') (held cs (Elsewhere (Session n c))) (claim p (declared p cs') ls (Elsewhere (Session n c)))
          sessions true d =
              let same = eqb-true o.name n d in
              nothing (Elsewhere (Session n c)) (ap (λ m. held cs (Elsewhere (Session m c))) (sym same) ∙ own_session)
              (ap (λ m. claim p (declared p cs') ls (Elsewhere (Session m c))) (sym same) ∙ u.sessions (declared p cs') c ∙ ap (λ x. cond (has_session
              (service_of cs' o.name) c) (filled (session_thing p x) Full) Null) name_gone ∙ cond_same (has_session (service_of cs' o.name) c) Null)
          sessions false d = keep (Elsewhere (Session n c)) refl (ap (λ b. cond b Null (claim p (declared p cs) ls (Elsewhere (Session n c)))) d)
              (ap (λ v. cond (has_session v c) (filled (session_thing p (named cs n)) Full) Null) (sym (service_without cs g o n no_duplicates stack.0.1 d))
              ∙ ap (λ x. cond (has_session (service_of cs' n) c) (filled (session_thing p x) Full) Null) (sym (named_without cs g o n no_duplicates stack.0.1 d)))
      others (Elsewhere (Queued n m)) e = waits (o.name == n) refl
        where
          waits : (b : Bool) → (o.name == n) ≡ b → Fits p (seen cs') (held cs (Elsewhere (Queued n m))) (claim p (declared p cs') ls (Elsewhere (Queued n m)))
          waits true d =
              let same = eqb-true o.name n d in
              nothing (Elsewhere (Queued n m)) (ap (λ k. held cs (Elsewhere (Queued k m))) (sym same) ∙ unqueued m)
              (ap (λ k. claim p (declared p cs') ls (Elsewhere (Queued k m))) (sym same) ∙ queued_claim p (declared p cs') ls o.name m
              ∙ ap (λ x. cond (has_message (service_of cs' o.name) m) (filled (message_thing p x) Full) Null) name_gone
              ∙ cond_same (has_message (service_of cs' o.name) m) Null)
          waits false d = keep (Elsewhere (Queued n m)) (eqb_comm n o.name ∙ d) refl
              (ap (λ v. cond (has_message v m) (filled (message_thing p (named cs n)) Full) Null) (sym (service_without cs g o n no_duplicates stack.0.1 d))
              ∙ ap (λ x. cond (has_message (service_of cs' n) m) (filled (message_thing p x) Full) Null) (sym (named_without cs g o n no_duplicates stack.0.1 d)))
      others (Going k) e = keep (Going k) refl (grind (arith, nat_tests)) refl
        where
          tail : (b : Bool) → (b && true) ≡ false → b ≡ false
          tail true e = e
          tail false e = refl
      others r e = keep r refl refl refl

      go : (b : Bool) → same_place g r ≡ b → Fits p (seen cs') (cond b None (held cs r)) (claim p (declared p cs') ls r)
      go true e = subst (λ k. Fits p (seen cs') None k)
          (sym (ap (λ q. claim p (declared p cs') ls q) (sym (same_place-true g r e)) ∙ claim_going_above p cs' ls (length (tasks_of ls)) (omega arith))) tt
      go false e = others r e

  -- what is left is another object
  conforms_to_after : AllConformTo p (without (Going (length (tasks_of ls))) cs) ls
  conforms_to_after x lives = grind (arith, nat_tests, eqb-true o.name x.name, unnamed cs, named_without cs, requested_without cs)

-- the method below goes on, or the run is at its end
goes_on : (p : Image) (t : Typing) (s : State) (ls : List Layer) →
    Stack p t s.cells Gone ls → ((r : Place) → Fits p (seen s.cells) (held s.cells r) (claim p (declared p s.cells) ls r)) →
    AllConformTo p s.cells ls → NoDuplicates s.cells → s.tasks ≡ resumed (tasks_of ls) → forms s.items ≡ items_of ls → AllUndo p s.items → WellTyped p t s
goes_on p t s [] stack fits conforms_to no_duplicates tasks items undo_operations = let clash : Gone ≡ Now = stack in cc
goes_on p t s (Method fr sh ∷ ls) stack fits conforms_to no_duplicates tasks items undo_operations =
    let f : Fitted p t s.cells (next fr) sh ls = record {
      fits = λ r. subst (λ k. Fits p (seen s.cells) (held s.cells r) k) (sym (claim_frame p (declared p s.cells) fr (next fr) sh ls r refl refl)) (fits r);
      conforms_to = conforms_to;
      no_duplicates = no_duplicates;
      frames = frames_reworded stack.1 stack.1.words;
      receiver_held = stack.2;
      apart = stack.3;
      stack = stack.4;
    } in
    let g = settle p t s.cells (next fr) sh ls f stack.0 in
    record { layers = Method (next fr) g.0 ∷ ls; tasks = tasks; items = items ∙ ap (λ es. objects es (items_of ls)) (sym g.2); undo_operations = undo_operations; good = g.1 }
goes_on p t s (Unwinding code es ∷ ls) stack fits conforms_to no_duplicates tasks items undo_operations = record {
  layers = Unwinding code es ∷ ls;
  tasks = tasks;
  items = items;
  undo_operations = undo_operations;
  good = record { stack = (tt, stack.1); fits = fits; conforms_to = conforms_to; no_duplicates = no_duplicates };
}
goes_on p t s (Dispatching Of_root owned_chain ∷ ls) stack fits conforms_to no_duplicates tasks items undo_operations = record {
  layers = Dispatching Of_root owned_chain ∷ ls;
  tasks = tasks;
  items = items;
  undo_operations = undo_operations;
  good = record { stack = (tt, stack.1, stack.2, stack.3, stack.4); fits = fits; conforms_to = conforms_to; no_duplicates = no_duplicates };
}
goes_on p t s (Dispatching (Of_server x client Disconnects) owned_chain ∷ ls) stack fits conforms_to no_duplicates tasks items undo_operations = record {
  layers = Dispatching (Of_server x client Disconnects) owned_chain ∷ ls;
  tasks = tasks;
  items = items;
  undo_operations = undo_operations;
  good = record { stack = (tt, stack.1, stack.2, stack.3, stack.4); fits = fits; conforms_to = conforms_to; no_duplicates = no_duplicates };
}
goes_on p t s (Ending o left ∷ ls) stack fits conforms_to no_duplicates tasks items undo_operations = record {
  layers = Ending o left ∷ ls;
  tasks = tasks;
  items = items;
  undo_operations = undo_operations;
  good = record { stack = (stack.0, tt, stack.2, stack.3); fits = fits; conforms_to = conforms_to; no_duplicates = no_duplicates };
}
goes_on p t s (Dying o ∷ ls) stack fits conforms_to no_duplicates tasks items undo_operations = record {
  layers = Dying o ∷ ls;
  tasks = tasks;
  items = items;
  undo_operations = undo_operations;
  good = record { stack = (stack.0, tt, stack.2); fits = fits; conforms_to = conforms_to; no_duplicates = no_duplicates };
}
goes_on p t s _ stack fits conforms_to no_duplicates tasks items undo_operations = absurd stack.0

-- what is about to go is at rest
pub dying_rests : (k : Option ClassKind) (r : Option Request) → ConformsTo k (resting_in (last_of k)) r → is_at_rest r ≡ true
unfolding last_of
dying_rests k x s = grind arith

rests_as_it_goes : (p : Image) (t : Typing) (cs : List Cell) (o : Object) (ls : List Layer) → Good p t cs (Dying o ∷ ls) → is_at_rest (requested cs o.name) ≡ true
rests_as_it_goes p t cs o ls good = grind (arith, nat_tests, dying_rests, eq-eqb o.name o.name)

-- what waits in its queue is a message
module _ (p : Image) (t : Typing) (s : State) (o : Object) (ls : List Layer) (good : Good p t s.cells (Dying o ∷ ls)) where
  abbrev waits : Place → Bool
  waits = is_queue_of o.name

  waits_sent : (r : Place) → is_queue_of o.name r ≡ true → is_sent r ≡ true
  waits_sent x e = grind arith

  waits_messages : (r : Place) (x : Object) → is_queue_of o.name r ≡ true → held s.cells r ≡ Some x → x.thing ≡ Message
  waits_messages r x e there = grind (arith, waits_message, queued_claim)

  abbrev less : List Cell
  less = dropped waits s.cells

  abbrev g : Place
  g = Going (length (tasks_of ls))

  stack_less : Stack p t less Now (Dying o ∷ ls)
  stack_less = stack_dropped waits p s.cells good.no_duplicates waits_messages waits_sent t (Dying o ∷ ls) Now good.stack

  tidy_less : NoDuplicates less
  tidy_less = tidy_dropped waits s.cells good.no_duplicates

  fits_less : (r : Place) → is_queue_of o.name r ≡ false → Fits p (seen less) (held less r) (claim p (declared p less) (Dying o ∷ ls) r)
  fits_less r e = rw (claim_rel (λ x y. x ≡ y) (λ k. refl) p (declared p s.cells) (declared p less) (Dying o ∷ ls) r
      (sym (declared_dropped waits p s.cells good.no_duplicates waits_messages r))) at (fits_dropped waits p s.cells good.no_duplicates waits_messages r _ e (good.fits r))

  conforms_to_less : AllConformTo p less (Dying o ∷ ls)
  conforms_to_less = conforms_to_dropped waits p s.cells good.no_duplicates waits_messages (Dying o ∷ ls) good.conforms_to

  none_waits : (m : ℕ) → held less (Elsewhere (Queued o.name m)) ≡ None
  none_waits m = grind (arith, nat_tests, held_dropped, eq-eqb o.name)

  rests_less : is_at_rest (requested less o.name) ≡ true
  rests_less = ap is_at_rest (stays_same waits p s.cells good.no_duplicates waits_messages g o refl good.stack.0.1).request ∙ rests_as_it_goes p t s.cells o ls good

  -- the state once it is gone
  abbrev after : List Cell → State
  after cs = record s {
    cells = each_slot_released (service_of s.cells o.name).sessions (without g cs);
    tasks = resumed (tasks_of ls);
    clients = sessions_ended (service_of s.cells o.name).sessions (queue_ended (service_of s.cells o.name).queue s.clients);
  }

  gone_well : forms s.items ≡ items_of ls → AllUndo p s.items → WellTyped p t (after less)
  gone_well items undo_operations =
      let ss = (service_of s.cells o.name).sessions in
      let cs2 = without g less in
      let cs3 = each_slot_released ss cs2 in
      let alike = each_slot_released_alike ss cs2 in
      let requests = each_slot_released_requests ss cs2 in
      goes_on p t (after less) ls (stack_alike p t cs2 cs3 alike
      (λ n some. ap is_some (requests n) ∙ some) ls Gone (stack_without p t less g o tidy_less stack_less.0.1 ls Gone (omega arith) (λ from. tt) stack_less.2))
      (λ r. fits_alike p t cs2 cs3 alike ls r (λ x e fresh. requests x.name) (fits_after p t less o ls stack_less tidy_less conforms_to_less fits_less none_waits r))
      (λ x lives. subst (λ r. ConformsTo (thing_kind p x.thing) (states_claim p x ls) r) (sym (requests x.name)) (conforms_to_after p t less o ls stack_less tidy_less
      conforms_to_less fits_less none_waits x (sym (alike.named_so x.name) ∙ lives))) (alike.no_duplicates (tidy_without less g tidy_less)) refl items undo_operations

pub going_keeps : (p : Image) (t : Typing) (s : State) (o : Object) (ls : List Layer) → Good p t s.cells (Dying o ∷ ls) → forms s.items ≡ items_of ls →
    AllUndo p s.items → PreservesTyping p t (gone (held s.cells (Going (length (tasks_of ls)))) (tasks_of ls) s)
going_keeps p t s o ls good items undo_operations = grind (arith, nat_tests, emptied_by, nothing_left, queue_dropped, rests_less, gone_well)
