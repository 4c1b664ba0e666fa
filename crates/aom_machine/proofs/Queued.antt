-- What the machine needs to know of a server that it serves: by the state that it stands for, in which the dispatch goes on.
use Rattle.std.proofs.lemmas.Bool.Decides.{nat_tests}
use Rattle.std.proofs.Common.{List, None, Option, Some, [], ap, arith, false, length, map, refl, subst, sym, true, ℕ, ◌<◌, ◌∙◌, ◌∷◌, ◌≡◌}
use Rattle.std.specs.List.{list_any}
use Rattle.std.specs.Prelude.{IfSome, IsSome, is_some, ◌||◌}
use Rattle.std.proofs.lemmas.Bool.{cases_lt, eq-eqb, false≢true}
use Rattle.std.proofs.lemmas.List.{get_or_past, nil_from_length}
use Rattle.std.proofs.lemmas.Option.{none-some, same_Some}
use Rattle.aom_active_objects.specs.Agrees.{Active}
use Rattle.aom_cells.specs.Heap.{cell_at, class_of}
use Rattle.aom_cells.specs.declared.cell.Cell.{Cell as Machine_cell}
use Rattle.aom_link_conditions.specs.Roles.{role_of}
use Rattle.aom_clients.specs.Clients as kept
use Rattle.aom_clients.specs.Table.{sender}
use Rattle.aom_clients.specs.declared.entry.QueueEntry.{QueueEntry}
use Rattle.aom_clients.specs.declared.entry.QueueEntry.TheVariants.{Close, Connect, Message}
use Rattle.aom_clients.specs.declared.entry.TakenEntry.{TakenEntry}
use Rattle.aom_clients.specs.declared.place.MessagePlace.TheVariants.{Free}
use Rattle.aom_image.specs.Image.{Image}
use Rattle.aom_image.specs.declared.method.Role.TheVariants.{Accept as Accepts_role, Service as Attends_role}
use Rattle.aom_image.specs.declared.method.Thing.{Thing}
use Rattle.aom_image.specs.declared.method.Thing.TheVariants.{Object as An_object_of}
use Rattle.aom_roles.specs.Things.{is_object}
use Rattle.aom_cells.specs.Store.{IsStored}
use Rattle.aom_machine.proofs.SemanticsLemmas.{held_lives}
use Rattle.aom_machine.proofs.SafetyLemmas.{at_rest, session_object}
use Rattle.aom_safety.specs.Claims.{items_of}
use Rattle.aom_semantics.specs.Requests.{part_of}
use Rattle.aom_safety.specs.Kept.{EntryFits, QueueFits, asked_again}
use Rattle.aom_semantics.specs.Places.{Elsewhere, Object, Session, held, named, service_of}
use Rattle.aom_semantics.specs.Servers.{is_server}
use Rattle.aom_semantics.specs.State.{OwnedObject, State}
use Rattle.aom_safety.specs.WellTyped.{PreservesTyping}
use Rattle.aom_semantics.specs.World.{attended, parting_with, picked, serves_first, taken_from}
use Rattle.aom_machine_state.specs.declared.parts.Parts.{Parts as Machine_parts}
use Rattle.aom_machine_state.specs.Agrees.{number, thing_in}
use Rattle.aom_machine_state.specs.Serving.{SameClients, asked_by, message_name}
use Rattle.aom_machine_state.specs.Stands.{Refines}
use Rattle.aom_machine.proofs.MachineStateLemmas.{AllWait, among_places, is_at, leaving_below, messages_wait, none_alike, open_below, same_items_length}
use Rattle.aom_machine.proofs.MachineStateLemmas.{waiting_kept}
use Rattle.aom_machine.proofs.MachineInstructionsLemmas.{class_fits, none_formed, object_class, object_small}
use Rattle.aom_machine.specs.Servers.{HasCaller, CanTake, HasSession, IsOfClass, taken_from as machine_taken}
use Rattle.aom_machine.specs.Turns.{IsIdle}
use Rattle.aom_machine.proofs.Dispatching.{served_object, session_named}

-- the thing in a cell has its class
class_in : (c : Option Machine_cell) (t : Thing) → thing_in c ≡ Some t → (class : ℕ) × (class_of c ≡ Some class) × (t ≡ An_object_of class)
class_in None t e = absurd (none-some t e)
class_in (Some c) t e = (c.class, refl, sym (same_Some _ _ e))

module _ (p : Image) (m : Machine_parts) (s : State) (st : Refines (record { image = p; parts = m }) s) where
  same : SameClients m.clients s.cells s.clients
  same = st.agrees.services.clients

  -- an object that lives is of a class that has a number of its own
  pub its_class : (o : Object) → named s.cells o.name ≡ Some o → is_object o.thing ≡ true → (class : ℕ) × IsOfClass m o.name class × (o.thing ≡ An_object_of class)
  its_class o lives object =
      let x = class_in (cell_at m.cells o.name) o.thing (object_class p m s st.agrees o lives object) in
      (x.0, record { is = x.1; small = subst (λ y. IfSome y (λ class. class < 256)) x.1 (class_fits p m s st.agrees o.name) }, x.2)

  -- and so is the session of a client
  pub its_session : (n c : ℕ) (o : Object) → c < 64 → held s.cells (Elsewhere (Session n c)) ≡ Some o →
      (class : ℕ) × HasSession m c o.name class × (o.thing ≡ An_object_of class)
  its_session n c o client there =
      let lives = held_lives s.cells (Elsewhere (Session n c)) o st.typed.good.no_duplicates there in
      let object = session_object p n c st.typing s st.typed o there in
      let x = its_class o lives object in (
        x.0,
        record {
          one = client;
          named = session_named n (kept.client_at m.clients c) o.name (st.agrees.values (Elsewhere (Session n c)) ∙ ap number there)
              (object_small p m s st.sound.formed st.agrees o lives object);
          lives = x.1;
        },
        x.2,
      )

  module _ (idle : s.tasks ≡ []) (x : OwnedObject) (lives : named s.cells x.object.name ≡ Some x.object) (serves : is_server p x.object.thing ≡ true)
      (keeps : PreservesTyping p st.typing (picked p x s)) where
    abbrev n : ℕ
    n = x.object.name

    abbrev queue : List QueueEntry
    queue = kept.queue_at m.clients n

    pub server_class : (class : ℕ) × IsOfClass m n class × (x.object.thing ≡ An_object_of class)
    server_class = its_class x.object lives (served_object p x.object.thing serves)

    queue_so : (es : List QueueEntry) → queue ≡ es → (service_of s.cells n).queue ≡ map (asked_by m.clients.places) es
    queue_so es at = sym (same.queues n) ∙ ap (map (asked_by m.clients.places)) at

    -- so it goes on, whatever waits first
    pub first_keeps : (es : List QueueEntry) → queue ≡ es → PreservesTyping p st.typing (serves_first p x (map (asked_by m.clients.places) es) s)
    first_keeps es at = grind (arith, nat_tests, queue_so es at)

    -- what waits first fits its client
    pub first_fits : (e : QueueEntry) (es : List QueueEntry) → queue ≡ e ∷ es → EntryFits s.clients n (asked_by m.clients.places e)
    first_fits e es at = (subst (λ q. QueueFits s.clients n q) (queue_so (e ∷ es) at) (st.kept.fit.queues n)).0.0

    -- and nothing waits twice
    pub first_once : (e : QueueEntry) (es : List QueueEntry) → queue ≡ e ∷ es →
        list_any (asked_again (asked_by m.clients.places e)) (map (asked_by m.clients.places) es) ≡ false
    first_once e es at = (subst (λ q. QueueFits s.clients n q) (queue_so (e ∷ es) at) (st.kept.fit.queues n)).0.1

    -- a message that waits there is kept, at one of the places that there are
    module _ (j : ℕ) (es : List QueueEntry) (at : queue ≡ Message j ∷ es) where
      pub place_there : j < 1024
      place_there = grind (
        arith,
        nat_tests,
        cases_lt j 1024,
        AllWait m.clients.places,
        messages_wait p st.typing st.sound.wired s st.typed s.clients st.kept.fit m.clients same,
        same,
        get_or_past m.clients.places j Free,
      )

      pub message_there : IsStored m.messages j
      message_there = waiting_kept p st.typing st.sound.wired s st.typed st.kept.fit m.clients same n m.messages st.agrees.services.messages j
          (among_places queue j ∙ ap (list_any (is_at j)) at ∙ ap (λ b. b || list_any (is_at j) es) (eq-eqb j j refl))

      pub sender_there : sender (kept.place_at m.clients j) < 64
      sender_there = open_below s.cells s.clients m.clients same (sender (kept.place_at m.clients j)) n (first_fits (Message j) es at)

    pub closer_there : (c : ℕ) (es : List QueueEntry) → queue ≡ Close c ∷ es → c < 64
    closer_there c es at = leaving_below s.cells s.clients m.clients same c n (first_fits (Close c) es at)

    -- ---- what serves it is there

    pub accept_there : (c : ℕ) (es : List QueueEntry) → queue ≡ Connect c ∷ es → (class : ℕ) → x.object.thing ≡ An_object_of class →
        IsSome (role_of p class Accepts_role)
    accept_there c es at class thing = grind (arith, nat_tests, first_keeps (Connect c ∷ es) at)

    -- the session of the client, and its method
    pub attend_there : (j : ℕ) (es : List QueueEntry) → queue ≡ Message j ∷ es →
        (o : Object) × (held s.cells (Elsewhere (Session n (sender (kept.place_at m.clients j)))) ≡ Some o)
        × ((kind : ℕ) × HasSession m (sender (kept.place_at m.clients j)) o.name kind × (o.thing ≡ An_object_of kind) × IsSome (role_of p kind Attends_role))
    attend_there j es at =
        let o = served (held s.cells (Elsewhere (Session n c))) (first_keeps (Message j ∷ es) at) in
        let y = its_session n c o.0 (sender_there j es at) o.1 in
        (o.0, o.1, (y.0, y.1, y.2, subst (λ t. IsSome (part_of p Attends_role t)) y.2 o.2))
      where
        c : ℕ
        c = sender (kept.place_at m.clients j)

        served : (h : Option Object) → PreservesTyping p st.typing (attended p x c h (message_name j) (taken_from n s)) →
            (o : Object) × (h ≡ Some o) × IsSome (part_of p Attends_role o.thing)
        served h k = grind arith

    pub part_there : (c : ℕ) (es : List QueueEntry) → queue ≡ Close c ∷ es →
        (o : Object) × (held s.cells (Elsewhere (Session n c)) ≡ Some o) × ((kind : ℕ) × HasSession m c o.name kind)
    part_there c es at =
        let o = served (held s.cells (Elsewhere (Session n c))) (first_keeps (Close c ∷ es) at) in
        let y = its_session n c o.0 (closer_there c es at) o.1 in
        (o.0, o.1, (y.0, y.1))
      where
        served : (h : Option Object) → PreservesTyping p st.typing (parting_with p x c h (taken_from n s)) → (o : Object) × (h ≡ Some o)
        served h k = grind arith

    -- ---- so the machine can serve it

    can_take : (e : QueueEntry) (es : List QueueEntry) → queue ≡ e ∷ es →
        CanTake p server_class.0 (kept.taken_entry m.clients e).client (kept.taken_entry m.clients e).entry m
    can_take (Connect c) es at = accept_there c es at server_class.0 server_class.2
    can_take (Message j) es at = let y = attend_there j es at in (place_there j es at, message_there j es at, (y.0.name, y.2.0, y.2.1, y.2.3))
    can_take (Close c) es at = let y = part_there c es at in (y.0.name, y.2.0, y.2.1)

    -- nothing is at hand, and nothing is on the cleanup stack
    pub at_rest_here : IsIdle m
    at_rest_here = record {
      idle = none_alike m.stack.tasks s.tasks st.agrees.tasks idle;
      bare = nil_from_length m.entries.items (same_items_length m.entries.items s.items st.agrees.entries
          ∙ ap length (none_formed s.items (st.typed.items ∙ ap items_of (at_rest p st.typing s st.typed idle))));
      room = (let deep = st.agrees.room in omega (arith, deep));
    }

    within : n < length m.clients.queues
    within = subst (λ i. n < i) (sym st.agrees.services.sized.queues) (below (cell_at m.cells n) refl (ap is_some (sym server_class.1.is)))
      where
        below : (c : Option Machine_cell) → cell_at m.cells n ≡ c → true ≡ is_some (class_of (cell_at m.cells n)) → n < p.header.cells
        below None e h = absurd (false≢true (ap (λ c. is_some (class_of c)) (sym e) ∙ sym h))
        below (Some c) e h = subst (λ i. n < i) st.agrees.cells.limit (st.agrees.cells.below n c e)

    pub server_can : HasCaller p m n
    server_can = go queue refl
      where
        go : (es : List QueueEntry) → queue ≡ es → HasCaller p m n
        go [] at = absurd (first_keeps [] at)
        go (e ∷ es) at = record {
          within = within;
          class = server_class.0;
          lives = server_class.1;
          first = kept.taken_entry m.clients e;
          waits = ap (kept.first_entry m.clients) at;
          can = can_take e es at;
          idle = at_rest_here;
        }

-- ---- once it is taken

-- no client is at anything else
pub client_same : (m : Machine_parts) (n : ℕ) (e : QueueEntry) (es : List QueueEntry) → kept.queue_at m.clients n ≡ e ∷ es → (c : ℕ) →
    kept.client_at (kept.after_next n m.clients) c ≡ kept.client_at m.clients c
client_same m n e es at c = grind (arith, nat_tests)

-- and what serves it is there still
pub take_again : (p : Image) (m : Machine_parts) (n : ℕ) (active : Active) (can : HasCaller p m n) (t : TakenEntry) →
    kept.first_entry m.clients (kept.queue_at m.clients n) ≡ Some t → CanTake p can.class t.client t.entry (machine_taken n active m)
take_again p m n active can t waits = grind (arith, nat_tests, client_same m n, same, same_Some can.first)
