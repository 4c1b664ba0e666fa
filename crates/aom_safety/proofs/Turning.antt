-- A turn from a well-typed state goes on to one: a timer completes a request, an object is dispatched, or time passes.
use Rattle.std.proofs.lemmas.Bool.Decides.{nat_tests}
use Rattle.std.proofs.Common.{Bool, List, None, Option, Some, [], ap, arith, cond, false, inl, inr, length}
use Rattle.std.proofs.Common.{refl, subst, sym, true, ℕ, ℤ, ◌&&◌, ◌<◌, ◌==◌, ◌∙◌, ◌∷◌, ◌≡◌, pos}
use Rattle.std.proofs.lemmas.Bool.{eq-eqb, eqb-true, ne_eqb, true≢false}
use Rattle.std.specs.Prelude.{is_some, map, nat_le, ◌||◌}
use Rattle.std.specs.Ordering.{int_eq}
use Rattle.aom_image.specs.Image.{Image}
use Rattle.aom_image.specs.declared.class.ClassKind.{ClassKind}
use Rattle.aom_image.specs.declared.method.Gives.TheVariants.{Nothing}
use Rattle.aom_image.specs.declared.method.Role.TheVariants.{Run as Handles}
use Rattle.aom_image.specs.declared.method.Thing.{Thing}
use Rattle.aom_image.specs.declared.method.Thing.TheVariants.{Message, Object as An_object_of}
use Rattle.aom_roles.specs.Roles.{is_cancel, is_service}
use Rattle.aom_roles.specs.Kinds.{is_active_kind}
use Rattle.aom_roles.specs.Classes.{sessions_in, sessions_of}
use Rattle.aom_roles.specs.Shapes.{kind_of}
use Rattle.aom_roles.specs.States.{idle, states_of}
use Rattle.aom_typing_rules.specs.Typing.{IsTyped, Typing}
use Rattle.aom_abstract_state.specs.Arguments.{argument_kind, entry_fields}
use Rattle.aom_roles.specs.Tables.{at}
use Rattle.aom_roles.specs.Things.{holder_by}
use Rattle.aom_abstract_state.specs.declared.kind.FieldState.TheVariants.{Perhaps}
use Rattle.aom_abstract_state.specs.declared.kind.Kind.TheVariants.{Unset}
use Rattle.aom_safety.proofs.Chains.{chain}
use Rattle.aom_safety.proofs.Claimed.{declared_ready}
use Rattle.aom_safety.proofs.Destroying.{at_alike}
use Rattle.aom_safety.proofs.Entering.{Entering, enters}
use Rattle.aom_safety.proofs.ReceiverHolding.{receiver_conforms_role}
use Rattle.aom_safety.proofs.SemanticsLemmas.{same_place_refl}
use Rattle.aom_safety.proofs.Owners.{later}
use Rattle.aom_safety.proofs.Owners.{rank}
use Rattle.aom_safety.proofs.PickedClose.{parts_well}
use Rattle.aom_safety.proofs.Picking.{accepts_well, attends_well, plain_message}
use Rattle.aom_safety.proofs.Signals.{at_rest, signals_are_ready, items_at_rest}
use Rattle.aom_safety.proofs.Storing.{Alike, fits_alike, requested_here, requested_there, request_updated_alike, sits_alike, detached_alike, requested_detached}
use Rattle.aom_safety.proofs.Turned.{picked, recorded_so}
use Rattle.aom_safety.specs.Claims.{Dispatching, Layer, Mark, claim, declared, forms}
use Rattle.aom_semantics.specs.Requests.{on_request, part_of, pending, taken_up, completed_with}
use Rattle.aom_safety.specs.Kept.{ClientsFit}
use Rattle.aom_safety.specs.Laws.{IsHandler, IsWired, TurnGoesOn}
use Rattle.aom_semantics.specs.Places.{Asked, Cell, Close_of, Connect_of, Elsewhere, Message_of, Object, Place}
use Rattle.aom_semantics.specs.Places.{Request, Root, NoDuplicates, held, named, requested, seen, service_of}
use Rattle.aom_semantics.specs.Servers.{has_more, is_server}
use Rattle.aom_safety.specs.Requests.{AllConformTo, Known, ConformsTo, resting_in, rests_in, thing_kind}
use Rattle.aom_semantics.specs.State.{A_mark, Inside, Of_object, Counters, OwnedObject, State}
use Rattle.aom_safety.specs.WellTyped.{IsOwnedChain, Fits, Good, PreservesTyping, WellTyped, WordFits}
use Rattle.aom_semantics.specs.World.{AnswersWell, Candidate, Completes, Completion, Cuts, Environment, Timed, Turning, among_ready}
use Rattle.aom_semantics.specs.World.{before_others, by_timer, dispatched, first_due, first_ready, goes_before, goes_now, has_signal}
use Rattle.aom_semantics.specs.World.{is_ready, picks, turned, with_request, Polls, answered_by, by_event, delivers, lives, next_event}
use Rattle.aom_semantics.specs.World.{next_native, next_time, picked as any_picked, polled, polls, serves_first}
use Rattle.aom_semantics.specs.Natives.{all_detached, is_outstanding_at, is_served_by, terminated_request}
use Rattle.aom_transcript.specs.declared.event.Event.{Event}
use Rattle.aom_transcript.specs.declared.event.TimedEvent.{TimedEvent}
use Rattle.aom_safety.proofs.Executing.{commanded_well}

-- ---- the object that is picked

pub record Found (cs : List Cell) (y : Candidate) : Type 0 where
  pub there : held cs y.owned_object.place ≡ Some y.owned_object.object
  pub lives : named cs y.owned_object.object.name ≡ Some y.owned_object.object
  pub asked : requested cs y.owned_object.object.name ≡ Some y.request
  pub ready : (is_ready y.request || has_more (service_of cs y.owned_object.object.name).queue) ≡ true

found_later : (c : Cell) (cs : List Cell) (y : Candidate) → NoDuplicates (c ∷ cs) → Found cs y → Found (c ∷ cs) y
found_later c cs y no_duplicates f = record {
  there = later cs c y.owned_object.place y.owned_object.object no_duplicates f.there;
  lives = ap (λ b. cond b (Some c.object) (named cs y.owned_object.object.name)) other ∙ f.lives;
  asked = ap (λ b. cond b c.request (requested cs y.owned_object.object.name)) other ∙ f.asked;
  ready = ap (λ b. is_ready y.request || has_more (cond b c.service (service_of cs y.owned_object.object.name)).queue) other ∙ f.ready;
}
  where
    other : (c.object.name == y.owned_object.object.name) ≡ false
    other = grind (arith, nat_tests, ne_eqb c.object.name y.owned_object.object.name)

module _ (c : Cell) (cs : List Cell) (y : Candidate) (no_duplicates : NoDuplicates (c ∷ cs)) (rest : first_ready cs ≡ Some y → Found cs y) where
  among : (others : Option Candidate) → first_ready cs ≡ others → others ≡ Some y → Found (c ∷ cs) y
  among others same e = found_later c cs y no_duplicates (rest (same ∙ e))

  abbrev me : Request → Candidate
  me r = record { owned_object = record { object = c.object; place = c.owner }; request = r }

  found_here : (r : Request) → c.request ≡ Some r → goes_now c r ≡ true → Found (c ∷ cs) (me r)
  found_here r here ready = record {
    there = ap (λ b. cond b (Some c.object) (held cs c.owner)) (same_place_refl c.owner);
    lives = ap (λ b. cond b (Some c.object) (named cs c.object.name)) (eq-eqb c.object.name c.object.name refl);
    asked = ap (λ b. cond b c.request (requested cs c.object.name)) (eq-eqb c.object.name c.object.name refl) ∙ here;
    ready = ap (λ b. is_ready r || has_more (cond b c.service (service_of cs c.object.name)).queue) (eq-eqb c.object.name c.object.name refl) ∙ ready;
  }

  first : (r : Request) → c.request ≡ Some r → (others : Option Candidate) → first_ready cs ≡ others → goes_now c r ≡ true →
      Some (before_others (me r) others) ≡ Some y → Found (c ∷ cs) y
  first r here None same ready e = let equal : me r ≡ y = cc in subst (λ z. Found (c ∷ cs) z) equal (found_here r here ready)
  first r here (Some b) same ready e = go (goes_before b.request r) e
    where
      go : (x : Bool) → Some (cond x b (me r)) ≡ Some y → Found (c ∷ cs) y
      go true e = among (Some b) same e
      go false e = let equal : me r ≡ y = cc in subst (λ z. Found (c ∷ cs) z) equal (found_here r here ready)

  of_ready : (r : Request) → c.request ≡ Some r → (b : Bool) → goes_now c r ≡ b →
      cond b (Some (before_others (me r) (first_ready cs))) (first_ready cs) ≡ Some y → Found (c ∷ cs) y
  of_ready r here x ready e = grind (arith, nat_tests, first, ready, among)

  of_request : (r : Option Request) → c.request ≡ r → among_ready c r (first_ready cs) ≡ Some y → Found (c ∷ cs) y
  of_request x here e = grind (arith, nat_tests, among, of_ready)

pub found : (cs : List Cell) → NoDuplicates cs → (y : Candidate) → first_ready cs ≡ Some y → Found cs y
found [] no_duplicates y e = cc
found (c ∷ cs) no_duplicates y e = of_request c cs y no_duplicates (λ e. found cs no_duplicates.2 y e) c.request refl e

-- a server is idle
idles : (k : Option ClassKind) (r : Request) → is_some (sessions_in k) ≡ true → ConformsTo k (resting_in (states_of k)) (Some r) → is_ready r ≡ false
unfolding sessions_in sessions_of states_of
idles k r e s = grind arith

or_false : (b : Bool) → (b || false) ≡ b
or_false x = grind arith

-- a request is completed, with a code that tells it from one that is not
module _ (code : ℤ) (settled : int_eq code pending ≡ false) where
  answered : (b : Bool) → (b && int_eq code pending) ≡ false
  answered b = grind (arith, nat_tests)

  conforms_to_completed : (k : Option ClassKind) (n : Known) (r : Option Request) → ConformsTo k n r → ConformsTo k n (on_request (completed_with code) r)
  conforms_to_completed k n r s = grind arith

conforms_to_detached : (served : Bool) (k : Option ClassKind) (n : Known) (r : Option Request) → ConformsTo k n r → ConformsTo k n (cond served (terminated_request r) r)
conforms_to_detached x k n r s = grind (arith, nat_tests, conforms_to_completed)

module _ (p : Image) (t : Typing) (s : State) (w : WellTyped p t s) (idle_now : s.tasks ≡ []) where
  good : Good p t s.cells []
  good = subst (λ ls. Good p t s.cells ls) (at_rest p t s w idle_now) w.good

  items : s.items ≡ []
  items = items_at_rest p t s w idle_now

  -- nothing but what no place tells changes
  same_well : (r : Counters) → WellTyped p t (record s { rest = r })
  same_well r = record { layers = w.layers; tasks = w.tasks; items = w.items; undo_operations = w.undo_operations; good = w.good }

  -- other cells in the same places, whose requests suit
  module _ (cs : List Cell) (like : Alike s.cells cs) (r : Counters) (killed : List ℕ) where
    alike_well : AllConformTo p cs [] → WellTyped p t (record s { cells = cs; rest = r; killed = killed })
    alike_well conforms_to = record {
      layers = [];
      tasks = idle_now;
      items = ap forms items;
      undo_operations = w.undo_operations;
      good = record { stack = refl; fits = fits; conforms_to = conforms_to; no_duplicates = like.no_duplicates good.no_duplicates };
    }
      where
        fits : (q : Place) → Fits p (seen cs) (held cs q) (declared p cs q)
        fits q = fits_alike p t s.cells cs like [] q (λ y e fresh. absurd (true≢false (sym (declared_ready p s.cells q) ∙ fresh))) (good.fits q)

  module _ (f : Request → Request) (o : Object) where
    abbrev then : List Cell
    then = with_request f o s.cells

    alike : Alike s.cells then
    alike = request_updated_alike s.cells (Inside o (Elsewhere Root)) (on_request f (requested s.cells o.name))

    fits_then : (r : Place) → Fits p (seen then) (held then r) (declared p then r)
    fits_then r = fits_alike p t s.cells then alike [] r (λ y e fresh. absurd (true≢false (sym (declared_ready p s.cells r) ∙ fresh))) (good.fits r)

    others_then : (y : Object) → named then y.name ≡ Some y → (o.name == y.name) ≡ false →
        ConformsTo (thing_kind p y.thing) (resting_in (rests_in p y)) (requested then y.name)
    others_then y lives other =
        rw (requested_there s.cells o.name y.name (on_request f (requested s.cells o.name)) other) (good.conforms_to y (sym (alike.named_so y.name) ∙ lives))

  -- the request of an object is completed
  module _ (code : ℤ) (settled : int_eq code pending ≡ false) (o : Object) where
    conforms_to_then : AllConformTo p (with_request (completed_with code) o s.cells) []
    conforms_to_then y lives = go (o.name == y.name) refl
      where
        was : named s.cells y.name ≡ Some y
        was = sym ((alike (completed_with code) o).named_so y.name) ∙ lives

        go : (b : Bool) → (o.name == y.name) ≡ b →
            ConformsTo (thing_kind p y.thing) (resting_in (rests_in p y)) (requested (with_request (completed_with code) o s.cells) y.name)
        go false other = others_then (completed_with code) o y lives other
        go true same =
            let equal : o.name ≡ y.name = eqb-true o.name y.name same in
            subst (λ n. ConformsTo (thing_kind p y.thing) (resting_in (rests_in p y)) (requested (with_request (completed_with code) o s.cells) n)) equal
            (subst (λ r. ConformsTo (thing_kind p y.thing) (resting_in (rests_in p y)) r) (grind (arith, nat_tests, requested_here, was))
            (conforms_to_completed code settled (thing_kind p y.thing) (resting_in (rests_in p y)) (requested s.cells o.name)
            (subst (λ n. ConformsTo (thing_kind p y.thing) (resting_in (rests_in p y)) (requested s.cells n)) (sym equal) (good.conforms_to y was))))

    pub completed : (r : Counters) → WellTyped p t (record s { cells = with_request (completed_with code) o s.cells; rest = r })
    completed r = alike_well (with_request (completed_with code) o s.cells) (alike (completed_with code) o) r s.killed conforms_to_then

  -- a native is killed
  conforms_to_without : (n : ℕ) → AllConformTo p (all_detached p n s.cells) []
  conforms_to_without n y lives =
      let was : named s.cells y.name ≡ Some y = sym ((detached_alike p n s.cells).named_so y.name) ∙ lives in
      rw (requested_detached p n s.cells y was)
      (conforms_to_detached (is_served_by p n y.thing) (thing_kind p y.thing) (resting_in (rests_in p y)) (requested s.cells y.name) (good.conforms_to y was))

  pub detached_well : (n : ℕ) (r : Counters) (killed : List ℕ) → WellTyped p t (record s { cells = all_detached p n s.cells; rest = r; killed = killed })
  detached_well n r killed = alike_well (all_detached p n s.cells) (detached_alike p n s.cells) r killed (conforms_to_without n)

  -- a native is polled, and completes what is outstanding at it
  answered_well : (n : ℕ) (a : Completion) (c : Cell) → is_outstanding_at p n c ≡ true → PreservesTyping p t (answered_by p n (Some c) a.code s)
  answered_well n a c owed = grind (arith, nat_tests, completed, recorded_so a.code)

  polled_well : (n : ℕ) (answer : Option Completion) → AnswersWell p s (Polls n answer) → PreservesTyping p t (polled p n answer s)
  polled_well n None owed = same_well _
  polled_well n (Some a) owed = subst (λ c. PreservesTyping p t (answered_by p n c a.code s)) (sym owed.1) (answered_well n a owed.0 owed.2)

  module _ (wired : IsWired p) (typed : IsTyped p t) (fit : ClientsFit p s.clients s.cells) where
    -- the method of an object of a class of active objects
    handler_of : (x : Thing) → is_active_kind (thing_kind p x) ≡ true → (m : ℕ) × (part_of p Handles x ≡ Some m) × (c : ℕ) × (x ≡ An_object_of c) × IsHandler p c m
    unfolding kind_of
    handler_of (An_object_of c) e = let m = wired.handler c e in (m.0, m.1, c, refl, wired.handles c m.0 m.1)
    handler_of Message e = cc

    object_well : (y : Candidate) → Found s.cells y → is_ready y.request ≡ true → PreservesTyping p t (dispatched (part_of p Handles y.owned_object.object.thing) y.owned_object s)
    object_well y it_is ready = subst (λ h. PreservesTyping p t (dispatched h y.owned_object s)) (sym it.1) well
      where
        x : OwnedObject
        x = y.owned_object

        cs : List Cell
        cs = with_request taken_up y.owned_object.object s.cells

        rests : ConformsTo (thing_kind p y.owned_object.object.thing) (resting_in (states_of (thing_kind p y.owned_object.object.thing))) (Some y.request)
        rests = subst (λ r. ConformsTo (thing_kind p y.owned_object.object.thing) (resting_in (rests_in p y.owned_object.object)) r) it_is.asked (good.conforms_to y.owned_object.object it_is.lives)

        it : (m : ℕ) × (part_of p Handles y.owned_object.object.thing ≡ Some m) × (c : ℕ) × (y.owned_object.object.thing ≡ An_object_of c) × IsHandler p c m
        it = handler_of y.owned_object.object.thing (grind arith)

        is_owned_chain : (above : List OwnedObject) × IsOwnedChain s.cells (y.owned_object ∷ above)
        is_owned_chain = let c = chain p t wired s w idle_now y.owned_object.place y.owned_object.object it_is.there (subst (λ z. 0 < rank p wired z) (sym it.3) (omega arith)) in (c.0, c.1)

        now : requested cs y.owned_object.object.name ≡ Some (taken_up y.request)
        now = requested_here s.cells y.owned_object.object.name (on_request taken_up (requested s.cells y.owned_object.object.name)) y.owned_object.object it_is.lives
            ∙ ap (on_request taken_up) it_is.asked

        sits_now : IsOwnedChain cs (y.owned_object ∷ is_owned_chain.0)
        sits_now = sits_alike p t s.cells cs (alike taken_up y.owned_object.object) (y.owned_object ∷ is_owned_chain.0) is_owned_chain.1

        over : List Layer
        over = Mark Nothing ∷ Dispatching (Of_object y.owned_object) (y.owned_object ∷ is_owned_chain.0) ∷ []

        claims : (d : Place → _) (r : Place) → claim p d (Mark Nothing ∷ Dispatching (Of_object y.owned_object) (y.owned_object ∷ is_owned_chain.0) ∷ []) r ≡ d r
        claims d (Elsewhere Root) = refl
        claims d _ = refl

        entering : Entering p t cs y.owned_object is_owned_chain.0 over it.0 []
        entering = record {
          served = false;
          message = ap is_service it.4.role;
          right_over = (λ e. absurd (true≢false (sym e ∙ ap is_service it.4.role)), λ h. absurd h);
          claims = λ d q. claims d q ∙ sym (plain_message d q);
          states = λ z. refl;
          none_in = λ n h. (h, tt);
          some_in = λ n h. inl (inr h);
          joins = tt;
          past = refl;
          stack = ((it.4.gives, tt, ap is_cancel it.4.role), (refl, refl, sits_now, (ap is_some now, is_owned_chain.0, refl), tt));
          fits = λ q. subst (λ k. Fits p (seen cs) (held cs q) k) (sym (plain_message (declared p cs) q)) (fits_then taken_up y.owned_object.object q);
          own = subst (λ n. ConformsTo (thing_kind p y.owned_object.object.thing) (resting_in n) (requested cs y.owned_object.object.name)) (sym it.4.begins)
              (subst (λ r. ConformsTo (thing_kind p y.owned_object.object.thing) (resting_in idle) r) (sym now) (grind arith));
          others = λ z lives other. others_then taken_up y.owned_object.object z lives other;
          no_duplicates = (alike taken_up y.owned_object.object).no_duplicates good.no_duplicates;
          is_owned_chain = sits_now;
          there = it.4.there;
          holder = receiver_conforms_role p wired.family y.owned_object.object.thing it.2 it.0 it.3 it.4.family (ap (λ r. holder_by r (Some it.4.family.class)) it.4.role);
          plain = ap is_cancel it.4.role;
          words = λ i. subst (λ xs. WordFits None (at Unset (map argument_kind xs) i)) (sym it.4.arguments) tt;
          free = λ i. subst (λ xs. Fits p (seen cs) None (at Unset (map argument_kind xs) i)) (sym it.4.arguments) tt;
          fields = λ f. ap (λ r. at Perhaps (entry_fields r) f) it.4.role ∙ at_alike 8 Perhaps f;
        }

        well : WellTyped p t (picked it.0 y.owned_object s)
        well = enters p t typed cs y.owned_object is_owned_chain.0 over it.0 [] entering
            (picked it.0 y.owned_object s) (length (A_mark ∷ s.items)) (ap (λ is. length (A_mark ∷ is)) items) refl refl (ap (λ is. forms (A_mark ∷ is)) items) w.undo_operations

    -- what waits in the queue of a server is served
    server_well : (y : Candidate) → Found s.cells y → is_server p y.owned_object.object.thing ≡ true →
        (queue : List Asked) → (service_of s.cells y.owned_object.object.name).queue ≡ queue → PreservesTyping p t (serves_first p y.owned_object queue s)
    server_well y it_is server [] e = absurd (true≢false (sym it_is.ready ∙ ap (λ q. is_ready y.request || has_more q) e
        ∙ or_false (is_ready y.request) ∙ idles (thing_kind p y.owned_object.object.thing) y.request server (rw it_is.asked at (good.conforms_to y.owned_object.object it_is.lives))))
    server_well y it_is server (Connect_of client ∷ es) e =
        accepts_well p t wired typed s w idle_now fit y.owned_object y.request it_is.there it_is.lives it_is.asked server client es e
    server_well y it_is server (Message_of client m ∷ es) e =
        attends_well p t wired typed s w idle_now fit y.owned_object y.request it_is.there it_is.lives it_is.asked server client m es e
    server_well y it_is server (Close_of client ∷ es) e =
        parts_well p t wired typed s w idle_now fit y.owned_object y.request it_is.there it_is.lives it_is.asked server client es e

    pub picked_well : (y : Candidate) → first_ready s.cells ≡ Some y → PreservesTyping p t (any_picked p y.owned_object s)
    picked_well y e = go (is_server p y.owned_object.object.thing) refl
      where
        it_is : Found s.cells y
        it_is = found s.cells good.no_duplicates y e

        go : (b : Bool) → is_server p y.owned_object.object.thing ≡ b → PreservesTyping p t
            (cond b (serves_first p y.owned_object (service_of s.cells y.owned_object.object.name).queue s) (dispatched (part_of p Handles y.owned_object.object.thing) y.owned_object s))
        go true server = server_well y it_is server (service_of s.cells y.owned_object.object.name).queue refl
        go false plain = object_well y it_is (sym (or_false (is_ready y.request))
            ∙ ap (λ q. is_ready y.request || has_more q) (sym (fit.servers y.owned_object.object it_is.lives plain).0) ∙ it_is.ready)

    signal_well : (next : Option ℕ) → PreservesTyping p t (turned p s (picks (has_signal s.cells) (first_ready s.cells) next))
    signal_well next = grind (arith, nat_tests, signals_are_ready p t s w, picked_well, same_well)

    -- one test after another, as a turn makes them
    poll_well : (n : Option ℕ) (answer : Option Completion) (after : Turning) →
        AnswersWell p s (polls n answer after) → (AnswersWell p s after → PreservesTyping p t (turned p s after)) → PreservesTyping p t (turned p s (polls n answer after))
    poll_well x answer after owed then = grind (arith, nat_tests, polled_well)

    deliver_well : (outside : Environment) (name : ℕ) (event : Event) → named s.cells name ≡ None → PreservesTyping p t (turned p s (delivers outside name s event))
    deliver_well outside name x free = grind (arith, nat_tests, same_well, lives outside s, detached_well, commanded_well p t wired)

    event_well : (outside : Environment) (name : ℕ) (next : Option TimedEvent) (after : Turning) → named s.cells name ≡ None → AnswersWell p s (by_event
        outside name s next after) → (AnswersWell p s after → PreservesTyping p t (turned p s after)) → PreservesTyping p t (turned p s (by_event outside name s next after))
    event_well outside name x after free owed then = grind (arith, nat_tests, deliver_well outside name)

    timer_well : (next : Option Timed) (after : Turning) → AnswersWell p s (by_timer s next after) → (AnswersWell p s after → PreservesTyping p t (turned p s after)) →
        PreservesTyping p t (turned p s (by_timer s next after))
    timer_well None after owed then = then owed
    timer_well (Some x) after owed then = go (nat_le x.timer.due s.rest.clock) owed
      where
        go : (b : Bool) → AnswersWell p s (cond b (Completes x.object) after) → PreservesTyping p t (turned p s (cond b (Completes x.object) after))
        go true owed = completed (pos 0) refl x.object s.rest
        go false owed = then owed

pub turn_goes_on : TurnGoesOn
turn_goes_on p t outside wired typed observed s w between observes fit = go (nat_le outside.limit s.rest.dispatches) observes.completion
  where
    go : (b : Bool) → AnswersWell p s (cond b Cuts (by_timer s (first_due s.cells) (by_event outside observed.name s
        (next_event outside s) (polls (next_native outside s) observed.completion (picks (has_signal s.cells) (first_ready s.cells) (next_time outside s))))))
        → PreservesTyping p t (turned p s (cond b Cuts (by_timer s (first_due s.cells) (by_event outside observed.name s
        (next_event outside s) (polls (next_native outside s) observed.completion (picks (has_signal s.cells) (first_ready s.cells) (next_time outside s)))))))
    go true owed = same_well p t s w between.idle _
    go false owed = timer_well p t s w between.idle wired typed fit (first_due s.cells) _ owed (λ owed.
        event_well p t s w between.idle wired typed fit outside observed.name (next_event outside s) _ observes.name owed (λ owed.
        poll_well p t s w between.idle wired typed fit (next_native outside s) observed.completion _ owed (λ owed.
        signal_well p t s w between.idle wired typed fit (next_time outside s))))
