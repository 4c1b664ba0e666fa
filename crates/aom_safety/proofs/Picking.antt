-- A server is picked: its `accept` or the `service` of a session enters over the dispatch.
use Rattle.std.proofs.lemmas.Bool.Decides.{nat_tests}
use Rattle.std.proofs.Common.{Bool, List, None, Option, Some, [], ap, arith, cond, false, inl, inr}
use Rattle.std.proofs.Common.{length, refl, subst, sym, true, ℕ, ℤ, ◌&&◌, ◌<◌, ◌==◌, ◌∙◌, ◌∷◌, ◌≡◌}
use Rattle.std.proofs.lemmas.Bool.{eq-eqb, eqb-true, true≢false, and_parts}
use Rattle.std.specs.List.{list_any}
use Rattle.std.specs.Prelude.{is_some, map, ◌||◌}
use Rattle.aom_image.specs.Image.{Image}
use Rattle.aom_image.specs.Views.{method_class}
use Rattle.aom_image.specs.declared.class.ClassKind.{ClassKind}
use Rattle.aom_image.specs.declared.method.Gives.TheVariants.{Nothing, Own as An_own}
use Rattle.aom_image.specs.declared.method.Role.TheVariants.{Accept as Accepts_role, Service as Attends_role}
use Rattle.aom_image.specs.declared.method.Thing.{Thing}
use Rattle.aom_image.specs.declared.method.Thing.TheVariants.{Message, Object as An_object_of}
use Rattle.aom_roles.specs.Roles.{is_cancel, is_service}
use Rattle.aom_roles.specs.Classes.{is_session, is_session_in, is_session_kind, sessions_at, sessions_in, sessions_of}
use Rattle.aom_roles.specs.Shapes.{kind_of}
use Rattle.aom_roles.specs.States.{idle, states_of}
use Rattle.aom_typing_rules.specs.Typing.{IsTyped, Typing}
use Rattle.aom_abstract_state.specs.Arguments.{argument_kind, before_of, entry_fields}
use Rattle.aom_abstract_state.specs.Kinds.{filled, is_ready_kind}
use Rattle.aom_roles.specs.Tables.{at}
use Rattle.aom_roles.specs.Things.{holder_by, is_subtype}
use Rattle.aom_abstract_state.specs.declared.kind.InitState.TheVariants.{Ready}
use Rattle.aom_abstract_state.specs.declared.kind.FieldState.TheVariants.{Full, Perhaps}
use Rattle.aom_abstract_state.specs.declared.kind.Kind.{Kind}
use Rattle.aom_abstract_state.specs.declared.kind.Kind.TheVariants.{Null, Own, Unset}
use Rattle.aom_safety.proofs.Attending.{with_message}
use Rattle.aom_safety.proofs.Chains.{chain}
use Rattle.aom_safety.proofs.Claimed.{declared_moved, declared_ready}
use Rattle.aom_safety.proofs.ClientsFit.{by_server, connecting_only}
use Rattle.aom_safety.proofs.ClientsGone.{open_server}
use Rattle.aom_safety.proofs.Destroying.{at_alike}
use Rattle.aom_safety.proofs.Entering.{Entering, enters}
use Rattle.aom_safety.proofs.ReceiverHolding.{receiver_conforms_same}
use Rattle.aom_safety.proofs.SemanticsLemmas.{held_lives, held_moved, named_moved, requested_moved, tidy_moved, transfer}
use Rattle.aom_safety.proofs.ReceiverHolding.{stands_session}
use Rattle.aom_safety.proofs.Owners.{rank}
use Rattle.aom_safety.proofs.Services.{held_served, named_served, requested_served, service_here, service_moved, tidy_served}
use Rattle.aom_safety.proofs.Signals.{at_rest, items_at_rest}
use Rattle.aom_safety.proofs.Straight.{fits_unowning}
use Rattle.aom_safety.proofs.Things.{serving_class}
use Rattle.aom_safety.specs.Claims.{Dispatching, Layer, Mark, claim, declared, declared_field, forms, serves}
use Rattle.aom_semantics.specs.Clients.{client_at}
use Rattle.aom_semantics.specs.Requests.{part_of}
use Rattle.aom_safety.specs.Kept.{ClientsFit, QueueFits}
use Rattle.aom_safety.specs.Laws.{IsAcceptor, IsServiceMethod, IsWired}
use Rattle.aom_semantics.specs.Places.{Asked, Cell, Connect_of, Elsewhere, Field, In_service, Message_of, Object, Place, Queued}
use Rattle.aom_semantics.specs.Places.{Request, Session, CellView, NoDuplicates, held, moved, named, requested, seen, service_of}
use Rattle.aom_safety.specs.Requests.{Known, ConformsTo, resting_in, rests_in, thing_kind}
use Rattle.aom_semantics.specs.Servers.{has_message, has_session, is_message, is_server, of_class, session_class}
use Rattle.aom_semantics.specs.Servers.{message_thing, reserved, rest_of, session_thing, taken_first}
use Rattle.aom_semantics.specs.State.{A_mark, Accepts, Inside, Of_server, Serves, OwnedObject, State, frame_of, thing_holder}
use Rattle.aom_safety.specs.WellTyped.{IsOwnedChain, Fits, Good, PreservesTyping, OwnedWithin, SomeOwned, WellTyped}
use Rattle.aom_semantics.specs.World.{accepting, attended, message_words, serving, taken_from}

-- what is ready fits whatever is asked for
pub fits_ready : (p : Image) (h h' : CellView) (o : Option Object) (k : Kind) → is_ready_kind k ≡ true → Fits p h o k → Fits p h' o k
fits_ready p h h' o k ready f = grind arith

-- seats stay where places and names do
pub sits_same : (cs cs' : List Cell) → ((q : Place) → held cs' q ≡ held cs q) → ((n : ℕ) → named cs' n ≡ named cs n) → (xs : List OwnedObject) →
    IsOwnedChain cs xs → IsOwnedChain cs' xs
sits_same cs cs' places names [] s = tt
sits_same cs cs' places names (x ∷ xs) s = ((places x.place ∙ s.0.0, names x.object.name ∙ s.0.1, s.0.2, s.0.3), sits_same cs cs' places names xs s.1)

-- a server rests idle
pub conforms_to_serving : (k : Option ClassKind) (r : Request) → is_some (sessions_in k) ≡ true → ConformsTo k (resting_in (states_of k)) (Some r) →
    ConformsTo k (resting_in idle) (Some r)
unfolding sessions_in sessions_of states_of
conforms_to_serving k r e s = grind arith

-- a session is not enlisted
pub conforms_to_session : (p : Image) (c : ℕ) (n : ℕ) (known : Known) (r : Option Request) → is_session p c ≡ true → ConformsTo (thing_kind p (An_object_of c)) known r →
    ConformsTo (thing_kind p (An_object_of c)) (resting_in n) r
unfolding kind_of is_session_in is_session_kind
conforms_to_session p c n known r e s = grind (arith, nat_tests)

-- what a place owns is there
pub own_held : (p : Image) (h : CellView) (o : Option Object) (x : Thing) → Fits p h o (Own x Ready) → (y : Object) × (o ≡ Some y) × (is_subtype p y.thing x ≡ true)
own_held p h o x f = grind arith

pub plain_message : (d : Place → Kind) (r : Place) → with_message false d r ≡ d r
plain_message d x = grind arith

module _ (p : Image) (t : Typing) (wired : IsWired p) (typed : IsTyped p t) (s : State) (w : WellTyped p t s)
    (idle_now : s.tasks ≡ []) (fit : ClientsFit p s.clients s.cells) (x : OwnedObject) (r : Request) (there : held s.cells x.place ≡ Some x.object)
    (lives : named s.cells x.object.name ≡ Some x.object) (asked : requested s.cells x.object.name ≡ Some r) (server : is_server p x.object.thing ≡ true) where
  abbrev n : ℕ
  n = x.object.name

  abbrev cs : List Cell
  cs = reserved taken_first n s.cells

  good : Good p t s.cells []
  good = subst (λ ls. Good p t s.cells ls) (at_rest p t s w idle_now) w.good

  pub no_items : s.items ≡ []
  no_items = items_at_rest p t s w idle_now

  pub its_class : (c k : ℕ) × (x.object.thing ≡ An_object_of c) × (sessions_at p c ≡ Some k)
  its_class = serving_class p x.object.thing server

  -- ---- the cells with the first of its queue taken

  pub held_now : (q : Place) → held cs q ≡ held s.cells q
  held_now q = held_served s.cells n (taken_first (service_of s.cells n)) q

  pub named_now : (m : ℕ) → named cs m ≡ named s.cells m
  named_now m = named_served s.cells n (taken_first (service_of s.cells n)) m

  pub requested_now : (m : ℕ) → requested cs m ≡ requested s.cells m
  requested_now m = requested_served s.cells n (taken_first (service_of s.cells n)) m

  pub tidy_now : NoDuplicates cs
  tidy_now = tidy_served s.cells n (taken_first (service_of s.cells n)) good.no_duplicates

  pub sessions_now : (m c : ℕ) → has_session (service_of cs m) c ≡ has_session (service_of s.cells m) c
  sessions_now m c = by_server s.cells x.object lives taken_first (λ m v. has_session v c ≡ has_session (service_of s.cells m) c) refl (λ m other. refl) m

  pub is_owned_chain : (above : List OwnedObject) × IsOwnedChain s.cells (x ∷ above)
      × ((y : Object) → named s.cells y.name ≡ Some y → rank p wired y.thing < rank p wired x.object.thing → SomeOwned y.name (x ∷ above) → ⊥)
  is_owned_chain = chain p t wired s w idle_now x.place x.object there (subst (λ y. 0 < rank p wired y) (sym its_class.2) (omega arith))

  abbrev pub above : List OwnedObject
  above = is_owned_chain.0

  pub sits_now : IsOwnedChain cs (x ∷ above)
  sits_now = sits_same s.cells cs held_now named_now (x ∷ above) is_owned_chain.1

  pub conforms_to_now : (y : Object) → named cs y.name ≡ Some y → ConformsTo (thing_kind p y.thing) (resting_in (rests_in p y)) (requested cs y.name)
  conforms_to_now y there = rw (requested_now y.name) (good.conforms_to y (sym (named_now y.name) ∙ there))

  -- ---- where the first is no message, all is declared as before

  module _ (e : Asked) (es : List Asked) (queue : (service_of s.cells n).queue ≡ e ∷ es) (plain_first : (k : ℕ) → is_message k e ≡ false) where
    messages : (m k : ℕ) → has_message (service_of cs m) k ≡ has_message (service_of s.cells m) k
    messages m k = by_server s.cells x.object lives taken_first (λ m v. has_message v k ≡ has_message (service_of s.cells m) k)
        (ap (λ q. list_any (λ e. is_message k e) (rest_of q)) queue ∙ sym (grind (arith, nat_tests))) (λ m other. refl) m

    declared_now : (q : Place) → declared p cs q ≡ declared p s.cells q
    declared_now (Field m f) = ap (λ y. declared_field p y f) (named_now m)
    declared_now (Elsewhere (Session m c)) = grind (arith, nat_tests, sessions_now m c, named_now m)
    declared_now (Elsewhere (Queued m k)) = grind (arith, nat_tests, messages m k, named_now m)
    declared_now _ = refl

    pub fits_now : (q : Place) → Fits p (seen cs) (held cs q) (declared p cs q)
    fits_now q = rw (held_now q)
        (rw (declared_now q) (fits_ready p (seen s.cells) (seen cs) (held s.cells q) (declared p s.cells q) (declared_ready p s.cells q) (good.fits q)))

  -- ---- a connect

  module _ (client : ℕ) (es : List Asked) (queue : (service_of s.cells n).queue ≡ Connect_of client ∷ es) where
    its_method : (m : ℕ) × (part_of p Accepts_role x.object.thing ≡ Some m) × IsAcceptor p its_class.0 m its_class.1
    its_method =
        let m = wired.acceptor its_class.0 its_class.1 its_class.3 in
        (m.0, ap (λ y. part_of p Accepts_role y) its_class.2 ∙ m.1, wired.accepts its_class.0 its_class.1 m.0 its_class.3 m.1)

    it : IsAcceptor p its_class.0 its_method.0 its_class.1
    it = its_method.2

    abbrev over : List Layer
    over = Mark (An_own (An_object_of its_class.1)) ∷ Dispatching (Of_server x client Accepts) (x ∷ above) ∷ []

    claims : (d : Place → Kind) (q : Place) →
        claim p d (Mark (An_own (An_object_of its_class.1)) ∷ Dispatching (Of_server x client Accepts) (x ∷ above) ∷ []) q ≡ with_message false d q
    claims d y = grind arith

    session : session_thing p (Some x.object) ≡ Some (An_object_of its_class.1)
    unfolding kind_of
    session = ap (λ y. of_class (session_class p y)) its_class.2 ∙ ap of_class its_class.3

    plain : serves p its_method.0 ≡ false
    plain = ap is_service it.role

    entering : Entering p t cs x above over its_method.0 []
    entering = record {
      served = false;
      message = plain;
      right_over = (λ e. absurd (true≢false (sym e ∙ plain)), λ h. absurd h);
      claims = claims;
      states = λ z. refl;
      none_in = λ m h. (h, tt);
      some_in = λ m h. inl (inr h);
      joins = tt;
      past = refl;
      stack = ((it.gives, tt, ap is_cancel it.role), grind (arith, nat_tests, session, sits_now, requested_now, sessions_now, connecting_only));
      fits = λ q. rw (plain_message (declared p cs) q) (fits_now (Connect_of client) es queue (λ k. refl) q);
      own = rw it.begins (grind (arith, nat_tests, requested_now, conforms_to_serving));
      others = λ z there other. conforms_to_now z there;
      no_duplicates = tidy_now;
      is_owned_chain = sits_now;
      there = it.there;
      holder = receiver_conforms_same p _ _ (ap thing_holder its_class.2
          ∙ sym (ap (λ z. holder_by z (method_class p its_method.0)) it.role ∙ ap (λ k. holder_by (Some Accepts_role) k) it.class));
      plain = ap is_cancel it.role;
      words = λ i. rw it.arguments tt;
      free = λ i. rw it.arguments tt;
      fields = λ f. ap (λ z. at Perhaps (entry_fields z) f) it.role ∙ at_alike 8 Perhaps f;
    }

    abbrev then : State
    then = serving x client Accepts (frame_of its_method.0 (Inside x.object x.place) (length (A_mark ∷ s.items))) (taken_from n s)

    accept_well : WellTyped p t then
    accept_well = enters p t typed cs x above over its_method.0 [] entering then
        (length (A_mark ∷ s.items)) (ap (λ is. length (A_mark ∷ is)) no_items) refl refl (ap (λ is. forms (A_mark ∷ is)) no_items) w.undo_operations

    pub accepts_well : PreservesTyping p t (accepting (part_of p Accepts_role x.object.thing) x client (taken_from n s))
    accepts_well = subst (λ h. PreservesTyping p t (accepting h x client (taken_from n s))) (sym its_method.1) accept_well

  -- ---- the session of a client

  module _ (client : ℕ) (has_now : has_session (service_of s.cells n) client ≡ true) where
    session_now : session_thing p (Some x.object) ≡ Some (An_object_of its_class.1)
    unfolding kind_of
    session_now = ap (λ y. of_class (session_class p y)) its_class.2 ∙ ap of_class its_class.3

    pub its_session : (z : Object) × (held s.cells (Elsewhere (Session n client)) ≡ Some z) × (is_subtype p z.thing (An_object_of its_class.1) ≡ true)
    its_session = own_held p (seen s.cells) (held s.cells (Elsewhere (Session n client))) (An_object_of its_class.1)
        (rw (ap (λ b. cond b (filled (session_thing p (named s.cells n)) Full) Null) has_now
        ∙ ap (λ y. filled (session_thing p y) Full) lives ∙ ap (λ y. filled y Full) session_now) at (good.fits (Elsewhere (Session n client))))

    pub session_is : its_session.0.thing ≡ An_object_of its_class.1
    session_is = stands_session p wired.family its_class.0 its_class.1 its_class.3 its_session.0.thing its_session.2

    pub session_lives : named s.cells its_session.0.name ≡ Some its_session.0
    session_lives = held_lives s.cells (Elsewhere (Session n client)) its_session.0 good.no_duplicates its_session.1

    pub session_lower : rank p wired its_session.0.thing < rank p wired x.object.thing
    session_lower = grind (arith, nat_tests, rank p wired, rank p wired x.object.thing, session_is)

    -- it is there, and stands lower than its server
    pub session_held : (z : Object) × (held s.cells (Elsewhere (Session n client)) ≡ Some z) × (named s.cells z.name ≡ Some z)
        × (rank p wired z.thing < rank p wired x.object.thing)
    session_held = (its_session.0, its_session.1, session_lives, session_lower)

  -- ---- a message

  module _ (client m : ℕ) (es : List Asked) (queue : (service_of s.cells n).queue ≡ Message_of client m ∷ es) where
    at_queue : QueueFits s.clients n (Message_of client m ∷ es)
    at_queue = subst (λ q. QueueFits s.clients n q) queue (fit.queues n)

    has_now : has_session (service_of s.cells n) client ≡ true
    has_now = fit.listed n client (open_server n (client_at s.clients client) at_queue.0.0)

    message_now : message_thing p (Some x.object) ≡ Some Message
    message_now = ap (λ b. cond b (Some Message) None) server

    abbrev session_there : (z : Object) × (held s.cells (Elsewhere (Session n client)) ≡ Some z) × (is_subtype p z.thing (An_object_of its_class.1) ≡ true)
    session_there = its_session client has_now

    abbrev z : Object
    z = session_there.0

    z_thing : z.thing ≡ An_object_of its_class.1
    z_thing = session_is client has_now

    z_lives : named s.cells z.name ≡ Some z
    z_lives = session_lives client has_now

    -- and the message
    waits : has_message (service_of s.cells n) m ≡ true
    waits = ap (λ q. list_any (λ e. is_message m e) q) queue ∙ ap (λ b. b || list_any (λ e. is_message m e) es) (eq-eqb m m refl)

    its_message : (y : Object) × (held s.cells (Elsewhere (Queued n m)) ≡ Some y) × (is_subtype p y.thing Message ≡ true)
    its_message = own_held p (seen s.cells) (held s.cells (Elsewhere (Queued n m))) Message
        (rw (ap (λ b. cond b (filled (message_thing p (named s.cells n)) Full) Null) waits
        ∙ ap (λ y. filled (message_thing p y) Full) lives ∙ ap (λ y. filled y Full) message_now) at (good.fits (Elsewhere (Queued n m))))

    -- ---- the cells as it is served

    abbrev served : List Cell
    served = moved (Elsewhere (Queued n m)) (Elsewhere In_service) cs

    free : held cs (Elsewhere In_service) ≡ None
    free = held_now (Elsewhere In_service) ∙ fits_unowning p (seen s.cells) _ Null refl (good.fits (Elsewhere In_service))

    held_served_so : (q : Place) → held served q ≡ transfer (Elsewhere (Queued n m)) (Elsewhere In_service) (held cs) q
    held_served_so q = held_moved cs (Elsewhere (Queued n m)) (Elsewhere In_service) q free

    messages_other : (i j : ℕ) → ((n == i) && (m == j)) ≡ false → has_message (service_of cs i) j ≡ has_message (service_of s.cells i) j
    messages_other i j =
        by_server s.cells x.object lives taken_first (λ i v. ((n == i) && (m == j)) ≡ false → has_message v j ≡ has_message (service_of s.cells i) j)
        (λ other. ap (λ q. list_any (λ e. is_message j e) (rest_of q)) queue ∙ sym (grind (arith, nat_tests, eq-eqb))) (λ i other same. refl) i

    none_twice : has_message (service_of cs n) m ≡ false
    none_twice = grind (arith, nat_tests, service_here s.cells)

    base : (q : Place) → Fits p (seen served) (held cs q) (declared p s.cells q)
    base q = rw (held_now q) (fits_ready p (seen s.cells) (seen served) (held s.cells q) (declared p s.cells q) (declared_ready p s.cells q) (good.fits q))

    -- where it neither waited nor is served
    there_still : (q : Place) → held served q ≡ held cs q → declared p cs q ≡ declared p s.cells q → Fits p (seen served) (held served q) (declared p served q)
    there_still q places kinds = rw places (rw (ap (λ d. d q) (declared_moved p cs (Elsewhere (Queued n m)) (Elsewhere In_service)) ∙ kinds) (base q))

    fits_served : (q : Place) → Fits p (seen served) (held served q) (with_message true (declared p served) q)
    fits_served (Field i f) = there_still (Field i f) (held_served_so (Field i f)) (ap (λ y. declared_field p y f) (named_now i))
    fits_served (Elsewhere (Session i c)) = grind (arith, nat_tests, there_still, held_served_so, sessions_now, named_now)
    fits_served (Elsewhere In_service) = rw (held_served_so (Elsewhere In_service) ∙ held_now (Elsewhere (Queued n m)) ∙ its_message.1) (its_message.2, tt)
    fits_served (Elsewhere (Queued i j)) = go ((n == i) && (m == j)) refl
      where
        now : held served (Elsewhere (Queued i j)) ≡ cond ((n == i) && (m == j)) None (held cs (Elsewhere (Queued i j)))
        now = held_served_so (Elsewhere (Queued i j))

        kind : declared p served (Elsewhere (Queued i j)) ≡ cond (has_message (service_of cs i) j) (filled (message_thing p (named cs i)) Full) Null
        kind = ap (λ d. d (Elsewhere (Queued i j))) (declared_moved p cs (Elsewhere (Queued n m)) (Elsewhere In_service))

        go : (b : Bool) → ((n == i) && (m == j)) ≡ b → Fits p (seen served) (held served (Elsewhere (Queued i j))) (declared p served (Elsewhere (Queued i j)))
        go true e =
            let parts = and_parts (n == i) (m == j) e in
            let none : has_message (service_of cs i) j ≡ false = ap (λ k. has_message (service_of cs k) j) (sym (eqb-true n i parts.0))
            ∙ ap (λ k. has_message (service_of cs n) k) (sym (eqb-true m j parts.1)) ∙ none_twice in
            subst (λ y. Fits p (seen served) y (declared p served (Elsewhere (Queued i j)))) (sym (now ∙ ap (λ b. cond b None (held cs (Elsewhere (Queued i j)))) e))
            (subst (λ k. Fits p (seen served) None k) (sym (kind ∙ ap (λ b. cond b (filled (message_thing p (named cs i)) Full) Null) none)) tt)
        go false e = there_still (Elsewhere (Queued i j)) (now ∙ ap (λ b. cond b None (held cs (Elsewhere (Queued i j)))) e)
            (ap (λ b. cond b (filled (message_thing p (named cs i)) Full) Null) (messages_other i j e)
            ∙ ap (λ y. cond (has_message (service_of s.cells i) j) (filled (message_thing p y) Full) Null) (named_now i))
    fits_served r = there_still r (held_served_so r) refl

    named_served_so : (i : ℕ) → named served i ≡ named s.cells i
    named_served_so i = named_moved cs (Elsewhere (Queued n m)) (Elsewhere In_service) i ∙ named_now i

    requested_served_so : (i : ℕ) → requested served i ≡ requested s.cells i
    requested_served_so i = requested_moved cs (Elsewhere (Queued n m)) (Elsewhere In_service) i ∙ requested_now i

    -- who sits stays
    sits_served : (xs : List OwnedObject) → IsOwnedChain cs xs → IsOwnedChain served xs
    sits_served [] h = tt
    sits_served (y ∷ ys) h = ((place y.place h.0.2 ∙ h.0.0, grind (arith, nat_tests, named_moved), h.0.2, h.0.3), sits_served ys h.1)
      where
        unchanged : (q : Place) → OwnedWithin q ys → transfer (Elsewhere (Queued n m)) (Elsewhere In_service) (held cs) q ≡ held cs q
        unchanged q e = grind arith

        place : (q : Place) → OwnedWithin q ys → held served q ≡ held cs q
        place q e = held_served_so q ∙ unchanged q e

    conforms_to_served : (y : Object) → named served y.name ≡ Some y → ConformsTo (thing_kind p y.thing) (resting_in (rests_in p y)) (requested served y.name)
    conforms_to_served y there = rw (requested_served_so y.name) (good.conforms_to y (sym (named_served_so y.name) ∙ there))

    -- ---- its method enters

    its_service : (k : ℕ) × (part_of p Attends_role z.thing ≡ Some k) × IsServiceMethod p its_class.1 k
    its_service =
        let k = wired.attendant its_class.0 its_class.1 its_class.3 in
        (k.0, ap (λ y. part_of p Attends_role y) z_thing ∙ k.1, wired.attends its_class.1 k.0 k.1)

    service : IsServiceMethod p its_class.1 its_service.0
    service = its_service.2

    abbrev owned_object : OwnedObject
    owned_object = record { object = z; place = Elsewhere (Session n client) }

    sits_all : IsOwnedChain served (owned_object ∷ x ∷ above)
    sits_all = ((grind (arith, nat_tests, held_served_so, held_now), named_served_so z.name ∙ z_lives, inl refl, is_owned_chain.2 z z_lives (session_lower client has_now)), sits_served (x ∷ above) sits_now)

    abbrev words : List (Option ℤ)
    words = message_words cs m

    abbrev served_over : List Layer
    served_over = Mark Nothing ∷ Dispatching (Of_server x client (Serves z)) (x ∷ above) ∷ []

    serves_it : serves p its_service.0 ≡ true
    serves_it = ap is_service service.role

    entering_service : Entering p t served owned_object (x ∷ above) served_over its_service.0 words
    entering_service = record {
      served = true;
      message = serves_it;
      right_over = (λ e. tt, λ h. serves_it);
      claims = grind arith;
      states = λ y. refl;
      none_in = λ i h. (h.1, tt);
      some_in = λ i h. inl h;
      joins = tt;
      past = refl;
      stack = ((service.gives, tt, ap is_cancel service.role), (refl, refl, sits_served (x ∷ above) sits_now, (ap is_some (requested_served_so n ∙ asked), above, refl), (server, has_served)));
      fits = fits_served;
      own = subst (λ y. ConformsTo (thing_kind p y) (resting_in (before_of p its_service.0)) (requested served z.name)) (sym z_thing)
          (conforms_to_session p its_class.1 (before_of p its_service.0) (resting_in (rests_in p z))
          (requested served z.name) service.session (grind (arith, nat_tests, z_thing, conforms_to_served, named_served_so, z_lives)));
      others = λ y there other. conforms_to_served y there;
      no_duplicates = tidy_moved cs (Elsewhere (Queued n m)) (Elsewhere In_service) free tidy_now;
      is_owned_chain = sits_all;
      there = service.there;
      holder = receiver_conforms_same p _ _ (ap thing_holder z_thing ∙ sym (grind (arith, nat_tests)));
      plain = ap is_cancel service.role;
      words = grind (arith, nat_tests);
      free = λ i. subst (λ xs. Fits p (seen served) None (at Unset (map argument_kind xs) i)) (sym service.arguments) (grind arith);
      fields = λ f. ap (λ y. at Perhaps (entry_fields y) f) service.role ∙ at_alike 8 Perhaps f;
    }
      where
        has_served : has_session (service_of served n) client ≡ true
        has_served = grind (arith, nat_tests, service_moved, sessions_now, has_now)

    abbrev state_served : State
    state_served =
        serving x client (Serves z) (record (frame_of its_service.0 (Inside z (Elsewhere (Session n client))) (length (A_mark ∷ s.items))) { words = words })
        (record (taken_from n s) { cells = served })

    service_well : WellTyped p t state_served
    service_well = enters p t typed served owned_object (x ∷ above) served_over its_service.0 words entering_service state_served
        (length (A_mark ∷ s.items)) (ap (λ is. length (A_mark ∷ is)) no_items) refl refl (ap (λ is. forms (A_mark ∷ is)) no_items) w.undo_operations

    pub attends_well : PreservesTyping p t (attended p x client (held s.cells (Elsewhere (Session n client))) m (taken_from n s))
    attends_well = grind (arith, nat_tests, service_well)
