-- A server is dispatched: the first of its queue is taken and begins to be served, on both sides alike.
use Rattle.std.proofs.lemmas.Bool.Decides.{nat_tests}
use Rattle.std.proofs.Common.{Bool, List, None, Option, Some, [], ap, arith, cond, false, length, map, refl, subst, sym, true, ℕ, ℤ, ◌<◌, ◌==◌, ◌∙◌, ◌∷◌, ◌≡◌}
use Rattle.std.specs.List.{list_any}
use Rattle.std.specs.Prelude.{is_some, ◌||◌, option_map}
use Rattle.std.specs.Int.{w32, cast_signed, cast_unsigned}
use Rattle.std.proofs.lemmas.Bool.{eq-eqb, eqb-true, false≢true}
use Rattle.std.proofs.lemmas.List.{length-replicate}
use Rattle.aom_active_objects.specs.Agrees.{Active}
use Rattle.aom_cells.specs.Heap.{cell_at, class_at, class_of, null}
use Rattle.aom_cells.specs.declared.cell.Cell.{Cell as Machine_cell}
use Rattle.aom_link_conditions.specs.Roles.{role_of}
use Rattle.aom_clients.specs.Clients as kept
use Rattle.aom_clients.specs.Table.{sender, server_of, session_of}
use Rattle.aom_clients.specs.declared.client.Client.{Client}
use Rattle.aom_clients.specs.declared.entry.QueueEntry.{QueueEntry}
use Rattle.aom_clients.specs.declared.entry.QueueEntry.TheVariants.{Close, Connect, Message}
use Rattle.aom_frames.specs.Tasks.{fresh}
use Rattle.aom_frames.specs.declared.dispatch.Dispatch.TheVariants.{Server}
use Rattle.aom_frames.specs.declared.dispatch.Subject.{Subject}
use Rattle.aom_frames.specs.declared.dispatch.Stage.TheVariants as stages
use Rattle.aom_frames.specs.declared.task.Task.TheVariants.{Dispatched as Ends}
use Rattle.aom_image.specs.Image.{Image}
use Rattle.aom_image.specs.declared.method.Role.TheVariants.{Accept as Accepts_role, Run as Handles, Service as Attends_role}
use Rattle.aom_image.specs.declared.method.Thing.{Thing}
use Rattle.aom_image.specs.declared.method.Thing.TheVariants.{Message as A_message, Object as An_object_of}
use Rattle.aom_roles.specs.Things.{is_object}
use Rattle.aom_cells.specs.Store.{word_at as message_word}
use Rattle.aom_machine.proofs.SemanticsLemmas.{held_lives, held_moved, named_moved, requested_moved}
use Rattle.aom_machine.proofs.SafetyLemmas.{at_rest, fits_unowning, held_served, message_plain, service_moved, service_there, session_object}
use Rattle.aom_semantics.specs.Destruction as checked
use Rattle.aom_semantics.specs.Requests.{part_of}
use Rattle.aom_semantics.specs.Places.{Cell, Elsewhere, Entry as Entry_at, Field, Going, In_service, Object, Place, Queued, Register}
use Rattle.aom_semantics.specs.Places.{Service, Session, changed, held, moved, named, service_of, same_place, word_field}
use Rattle.aom_semantics.specs.Servers.{is_server, reserved, taken_first, has_more}
use Rattle.aom_semantics.specs.State.{A_mark, Accepts, Dispatched, Frame, Goes, Inside, Of_server, Disconnects, Counters, OwnedObject, Serves, State, Task, frame_of}
use Rattle.aom_semantics.specs.World.{message_words, parting_with, picked, serves_first, serving, taken_from as checked_taken, dispatched}
use Rattle.aom_machine_state.specs.declared.parts.Parts.{Parts as Machine_parts}
use Rattle.aom_machine_state.specs.Agrees.{Agrees, SameRequests, Represents, number, word_at}
use Rattle.aom_machine_state.specs.Places.{others, session_with, value_in, with_tasks, is_numbered}
use Rattle.aom_machine_state.specs.Services.{SameServices}
use Rattle.aom_machine_state.specs.Serving.{SameClients, asked_by, message_name, Once}
use Rattle.aom_machine_state.specs.Tokens.{SameTokens}
use Rattle.aom_semantics.specs.Tokens.{awaited}
use Rattle.aom_machine_state.specs.Stands.{Refines}
use Rattle.aom_machine.proofs.MachineStateLemmas.{among_places, beside_served, cells_beside, cells_moved, entry_taken, is_at, listed_alike, listed_beside}
use Rattle.aom_machine.proofs.MachineStateLemmas.{message_taken, messages_moved, messages_served, moves, names_same, natives_beside, natives_moved, places_in}
use Rattle.aom_machine.proofs.MachineStateLemmas.{requests_moved, same_attended, same_next, same_released, served_written, services_moved, session_released}
use Rattle.aom_machine.proofs.MachineStateLemmas.{sized_next, sized_released, tokens_beside, tokens_still, reported_served, waiting_once}
use Rattle.aom_machine.proofs.MachineInstructionsLemmas.{Aside, begins, begun_frame, begun_registers, destructor_same, dying_shows, nothing_held, object_class}
use Rattle.aom_machine.proofs.MachineInstructionsLemmas.{object_small, server_same, thing_is}
use Rattle.aom_machine_instructions.specs.Going.{dying}
use Rattle.aom_machine.specs.Servers.{Notes, accepting, attending, is_queued, parting, taken_from, loaded_message_words}
use Rattle.aom_machine.proofs.Beginning.{ShowsIdle, begins_agrees, reported_frame, words_shown}
use Rattle.aom_machine.proofs.Noting.{noted_requests, waits_alike}
use Rattle.aom_machine.proofs.Turning.{none_running}

-- what serves is an object
pub served_object : (p : Image) (y : Thing) → is_server p y ≡ true → is_object y ≡ true
served_object p x serves = grind (arith, nat_tests, message_plain p A_message)

-- the number of the session that its place has is what the client says
pub session_named : (n : ℕ) (k : Client) (name : ℕ) → session_with n k ≡ name → name < 4096 → session_of k ≡ Some name
session_named n k name e small = grind (arith, nat_tests)

module _ (p : Image) (m : Machine_parts) (s : State) (st : Refines (record { image = p; parts = m }) s) (idle : s.tasks ≡ []) (x : OwnedObject)
    (lives : named s.cells x.object.name ≡ Some x.object) (serves : is_server p x.object.thing ≡ true) (class : ℕ) (is : class_at m.cells x.object.name
    ≡ Some class) (active : Active) (noted : Notes x.object.name (kept.after_next x.object.name m.clients) m.active active) where
  abbrev n : ℕ
  n = x.object.name

  abbrev k' : kept.ClientsState
  k' = kept.after_next n m.clients

  abbrev cs : List Cell
  cs = reserved taken_first n s.cells

  abbrev taken : Machine_parts
  taken = taken_from n active m

  abbrev then : State
  then = checked_taken n s

  abbrev subject : Subject
  subject = record { number = n; class = class }

  same : SameClients m.clients s.cells s.clients
  same = st.agrees.services.clients

  -- ---- the server

  object : is_object x.object.thing ≡ true
  object = served_object p x.object.thing serves

  pub server_thing : x.object.thing ≡ An_object_of class
  server_thing = thing_is x.object.thing class (cell_at m.cells n) is (object_class p m s st.agrees x.object lives object)

  small : n < 4096
  small = object_small p m s st.sound.formed st.agrees x.object lives object

  below : n < p.header.cells
  below = go (cell_at m.cells n) refl (ap is_some (sym is))
    where
      go : (c : Option Machine_cell) → cell_at m.cells n ≡ c → true ≡ is_some (class_of (cell_at m.cells n)) → n < p.header.cells
      go None e h = absurd (false≢true (ap (λ c. is_some (class_of c)) (sym e) ∙ sym h))
      go (Some c) e h = subst (λ i. n < i) st.agrees.cells.limit (st.agrees.cells.below n c e)

  queue_room : n < length m.clients.queues
  queue_room = subst (λ i. n < i) (sym st.agrees.services.sized.queues) below

  -- what places show where nothing is at hand
  shows : ShowsIdle m s.cells
  shows q = grind (arith, nat_tests, none_running p m s st idle)

  nothing_at : (q : Place) → value_in [] m.cells m.entries.items (others m) q ≡ null →
      Represents (value_in [] m.cells m.entries.items (others m) q) None (held s.cells q) → held s.cells q ≡ None
  nothing_at q e h = nothing_held p m st.typing s st.typed st.agrees q (sym e ∙ h)

  unowned : (d i : ℕ) → held s.cells (Register d i) ≡ None
  unowned d i = nothing_at (Register d i) refl (shows (Register d i))

  -- ---- the first of its queue is taken

  requests_taken : is_queued k' n ≡ has_more (service_of cs n).queue → SameRequests p active cs
  requests_taken waits = noted_requests p m.active active s.cells cs (beside_served s.cells n (taken_first (service_of s.cells n))) st.agrees.requests n
      (λ i other. ap (λ (v : Service). v.queue) (service_there s.cells n i (taken_first (service_of s.cells n)) other)) (is_queued k' n) waits noted

  tokens_taken : SameTokens p m.tokens cs
  tokens_taken = grind (arith, nat_tests, tokens_beside p m.tokens s.cells, beside_served s.cells, reported_served s.cells)

  services_with : SameClients k' cs s.clients → SameServices p k' m.messages m.tokens m.listed cs s.clients
  services_with clients = record {
    clients = clients;
    sized = sized_next p.header.cells m.clients st.agrees.services.sized n;
    messages = messages_served p m.messages s.cells n (taken_first (service_of s.cells n)) st.agrees.services.messages;
    tokens = tokens_taken;
    listed = listed_beside p m.listed s.cells cs (beside_served s.cells n (taken_first (service_of s.cells n))) st.agrees.services.listed;
  }

  -- a connect or a close
  module _ (e : QueueEntry) (es : List QueueEntry) (at : kept.queue_at m.clients n ≡ e ∷ es) (other : (j : ℕ) → e ≡ Message j → ⊥) where
    clients_taken : SameClients k' cs s.clients
    clients_taken = same_next p st.typing st.sound.wired s st.typed st.kept.fit m.clients same p.header.cells st.agrees.services.sized x.object
        lives below e es at other

    pub aside_taken : Aside p taken then
    aside_taken = record {
      cells = cells_beside p m.cells s.cells cs (beside_served s.cells n (taken_first (service_of s.cells n))) st.agrees.cells;
      entries = st.agrees.entries;
      requests = requests_taken (waits_alike k' cs s.clients clients_taken n);
      natives = natives_beside p m.sessions s.killed s.cells cs st.sound.formed.header.cells
          (beside_served s.cells n (taken_first (service_of s.cells n))) st.agrees.natives;
      services = services_with clients_taken;
      rest = ap (λ (r : Counters). record r { steps = 0; polled = 0 }) st.agrees.rest;
      room = st.agrees.room;
      entry_room = st.agrees.entry_room;
    }

    no_number : (e : QueueEntry) → ((j : ℕ) → e ≡ Message j → ⊥) → (j : ℕ) → is_numbered j e ≡ false
    no_number y z w = grind arith

    pub shows_taken : ShowsIdle taken cs
    shows_taken q = subst (λ i. Represents i (word_at [] q) (held cs q))
        (sym (entry_taken (others m) n e es queue_room at (no_number e other) [] m.cells m.entries.items q)) (subst (λ o. Represents
        (value_in [] m.cells m.entries.items (others m) q) (word_at [] q) o) (sym (held_served s.cells n (taken_first (service_of s.cells n)) q)) (shows q))

  unowned_taken : (d i : ℕ) → held cs (Register d i) ≡ None
  unowned_taken d i = held_served s.cells n (taken_first (service_of s.cells n)) (Register d i) ∙ unowned d i

  first_asked_so : (e : QueueEntry) (es : List QueueEntry) → kept.queue_at m.clients n ≡ e ∷ es →
      (service_of s.cells n).queue ≡ asked_by m.clients.places e ∷ map (asked_by m.clients.places) es
  first_asked_so e es at = sym (same.queues n) ∙ ap (map (asked_by m.clients.places)) at

  picked_so : picked p x s ≡ serves_first p x (service_of s.cells n).queue s
  picked_so = ap (λ b. cond b (serves_first p x (service_of s.cells n).queue s) (dispatched (part_of p Handles x.object.thing) x s)) serves

  -- ---- a connect

  module _ (c : ℕ) (es : List QueueEntry) (at : kept.queue_at m.clients n ≡ Connect c ∷ es) (method : ℕ) (accepts : role_of p class Accepts_role ≡ Some method) where
    abbrev accept_frame : Frame
    accept_frame = frame_of method (Inside x.object x.place) (length (A_mark ∷ s.items))

    pub accept_goes : picked p x s ≡ Goes (serving x c Accepts accept_frame then)
    accept_goes = grind (arith, nat_tests, picked_so, first_asked_so (Connect c) es at, server_thing)

    pub accept_agrees : Agrees p (accepting method subject c taken) (serving x c Accepts accept_frame then)
    accept_agrees = begins_agrees p taken then (Server subject c stages.Accepts) (Of_server x c Accepts) (fresh method n) accept_frame (none_running p m s st
        idle) (aside_taken (Connect c) es at (λ j e. cc)) (begun_frame method n (Inside x.object x.place) (length (A_mark ∷ s.items)) refl (λ there. small)) (
          x.place,
          grind (arith, nat_tests, object, server_thing),
        ) (shows_taken (Connect c) es at (λ j e. cc)) unowned_taken (λ i. begun_registers method n i)

  -- ---- a message

  module _ (j : ℕ) (es : List QueueEntry) (at : kept.queue_at m.clients n ≡ Message j ∷ es) (place : j < 1024) (o : Object)
      (class' : ℕ) (is' : class_at m.cells o.name ≡ Some class') (there : held s.cells (Elsewhere (Session n (sender (kept.place_at m.clients j)))) ≡ Some o)
      (method : ℕ) (attends : role_of p class' Attends_role ≡ Some method)
      (reads : (w : ℕ) → w < 5 → cast_signed w32 (cast_unsigned w32 (message_word m.messages j w)) ≡ message_word m.messages j w) where
    abbrev c : ℕ
    c = sender (kept.place_at m.clients j)

    abbrev from : Place
    from = Elsewhere (Queued n (message_name j))

    abbrev served : Machine_parts
    served = record taken { served = message_name j }

    abbrev serving_cells : List Cell
    serving_cells = moved from (Elsewhere In_service) cs

    abbrev then_served : State
    then_served = record then { cells = serving_cells }

    clients_served : SameClients k' serving_cells s.clients
    clients_served = same_attended p st.typing st.sound.wired s st.typed st.kept.fit m.clients same p.header.cells st.agrees.services.sized x.object
        lives below j es at place

    aside_served : Aside p served then_served
    aside_served = record {
      cells = cells_moved p m.cells cs from (Elsewhere In_service)
          (cells_beside p m.cells s.cells cs (beside_served s.cells n (taken_first (service_of s.cells n))) st.agrees.cells);
      entries = st.agrees.entries;
      requests = requests_moved p active cs from (Elsewhere In_service) (requests_taken
          (waits_alike k' serving_cells s.clients clients_served n ∙ ap (λ (v : Service). has_more v.queue) (service_moved cs from (Elsewhere In_service) n)));
      natives = natives_moved p m.sessions s.killed cs from (Elsewhere In_service) (natives_beside p m.sessions s.killed s.cells cs st.sound.formed.header.cells
          (beside_served s.cells n (taken_first (service_of s.cells n))) st.agrees.natives);
      services = record {
        clients = clients_served;
        sized = sized_next p.header.cells m.clients st.agrees.services.sized n;
        messages = messages_moved p m.messages cs from (Elsewhere In_service)
            (messages_served p m.messages s.cells n (taken_first (service_of s.cells n)) st.agrees.services.messages);
        tokens = tokens_still p m.tokens cs serving_cells (λ i. ap awaited (requested_moved cs from (Elsewhere In_service) i))
            (λ i. ap (λ (v : Service). v.token) (service_moved cs from (Elsewhere In_service) (message_name i))) tokens_taken;
        listed = listed_alike p m.listed cs serving_cells
            (named_moved cs from (Elsewhere In_service)) (λ i. ap (option_map (λ r. r.order)) (requested_moved cs from (Elsewhere In_service) i))
            (listed_beside p m.listed s.cells cs (beside_served s.cells n (taken_first (service_of s.cells n))) st.agrees.services.listed);
      };
      rest = ap (λ (r : Counters). record r { steps = 0; polled = 0 }) st.agrees.rest;
      room = st.agrees.room;
      entry_room = st.agrees.entry_room;
    }

    -- nothing is served before
    none_served : held s.cells (Elsewhere In_service) ≡ None
    none_served = grind (arith, nat_tests, fits_unowning p, at_rest p st.typing s st.typed idle)

    once : list_any (is_numbered (message_name j)) es ≡ false
    once = numbered es ∙ sym (among_places es j)
        ∙ (subst (λ l. Once (places_in l)) at (waiting_once p st.typing st.sound.wired s st.typed st.kept.fit m.clients same n)).0
      where
        numbered : (es : List QueueEntry) → list_any (is_numbered (message_name j)) es ≡ list_any (is_at j) es
        numbered [] = refl
        numbered (Message i ∷ es) = ap (λ b. b || list_any (is_numbered (message_name j)) es) (names_same i j) ∙ ap (λ b. (i == j) || b) (numbered es)
        numbered (_ ∷ es) = numbered es

    -- the message was where it waited
    waited : value_in [] m.cells m.entries.items (others m) from ≡ message_name j
    waited = grind (arith, nat_tests, eq-eqb)

    shows_served : ShowsIdle served serving_cells
    shows_served = moves (value_in [] m.cells m.entries.items (others m)) _ (word_at []) _ (held cs) _ from (Elsewhere In_service) (λ q. subst (λ o. Represents
        (value_in [] m.cells m.entries.items (others m) q) (word_at [] q) o) (sym (held_served s.cells n (taken_first (service_of s.cells n)) q)) (shows q))
        refl (λ q. served_written [] m.cells m.entries.items (others taken) (message_name j) q
        ∙ ap (λ i. changed (λ z. i) (Elsewhere In_service) (message_name j) q) (message_taken (others m) n j es queue_room at once [] m.cells m.entries.items q)
        ∙ ap (λ i. changed (changed (value_in [] m.cells m.entries.items (others m)) from null) (Elsewhere In_service) i q) (sym waited)) no_word
        (λ q. held_moved cs from (Elsewhere In_service) q (held_served s.cells n (taken_first (service_of s.cells n)) (Elsewhere In_service) ∙ none_served))
      where
        no_word : (q : Place) → word_at [] q ≡ changed (word_at []) (Elsewhere In_service) None q
        no_word (Register d i) = refl
        no_word (Entry_at i) = refl
        no_word (Field d f) = refl
        no_word (Going i) = refl
        no_word (Elsewhere y) = never (same_place (Elsewhere In_service) (Elsewhere y))
          where
            never : (b : Bool) → ◌≡◌ {A = Option ℤ} None (cond b None None)
            never true = refl
            never false = refl

    unowned_served : (d i : ℕ) → held serving_cells (Register d i) ≡ None
    unowned_served d i = grind (arith, nat_tests, held_moved, held_served s.cells, none_served, unowned_taken d i)

    session_lives : named s.cells o.name ≡ Some o
    session_lives = held_lives s.cells (Elsewhere (Session n c)) o st.typed.good.no_duplicates there

    session_is_object : is_object o.thing ≡ true
    session_is_object = session_object p n c st.typing s st.typed o there

    pub session_thing_so : o.thing ≡ An_object_of class'
    session_thing_so = thing_is o.thing class' (cell_at m.cells o.name) is' (object_class p m s st.agrees o session_lives session_is_object)

    abbrev attend_frame : Frame
    attend_frame = record (frame_of method (Inside o (Elsewhere (Session n c))) (length (A_mark ∷ s.items))) { words = message_words cs (message_name j) }

    word_so : (w : ℕ) → message_word m.messages j w ≡ word_field cs (message_name j) w
    word_so w = (messages_served p m.messages s.cells n (taken_first (service_of s.cells n)) st.agrees.services.messages).words j w

    pub attend_goes : picked p x s ≡ Goes (serving x c (Serves o) attend_frame then_served)
    attend_goes = grind (arith, nat_tests, picked_so, first_asked_so (Message j) es at, session_thing_so)

    pub attend_agrees : Agrees p (attending method (record { number = o.name; class = class' }) subject c j taken) (serving x c (Serves o) attend_frame then_served)
    attend_agrees =
        let f = fresh method o.name in
        let begun = begun_frame method o.name (Inside o (Elsewhere (Session n c)))
        (length (A_mark ∷ s.items)) refl (λ there. object_small p m s st.sound.formed st.agrees o session_lives session_is_object) in
        begins_agrees p served then_served (Server subject c (stages.Serves (record { number = o.name; class = class' })))
        (Of_server x c (Serves o)) (loaded_message_words m.messages j f) attend_frame (none_running p m s st idle) aside_served
        (reported_frame m.messages j 5 f (frame_of method (Inside o (Elsewhere (Session n c))) (length (A_mark ∷ s.items)))
        (message_words cs (message_name j)) begun) (x.place, grind (arith, nat_tests, object, server_thing, session_thing_so)) shows_served unowned_served
        (words_shown m.messages j cs (message_name j) f (length-replicate 16 null) (begun_registers method o.name) (λ w small. reads w small ∙ word_so w))

  -- ---- a close

  module _ (c : ℕ) (es : List QueueEntry) (at : kept.queue_at m.clients n ≡ Close c ∷ es) (o : Object)
      (there : held s.cells (Elsewhere (Session n c)) ≡ Some o) (client : c < 64) where
    abbrev gone_from : Place
    gone_from = Elsewhere (Session n c)

    abbrev released : Machine_parts
    released = record taken { clients = kept.after_release c k' }

    abbrev below_tasks : List Task
    below_tasks = Dispatched (Of_server x c Disconnects) ∷ []

    abbrev parting_state : State
    parting_state = record then { cells = moved gone_from (Going (length below_tasks)) cs; tasks = checked.begun p o (length s.items) below_tasks }

    part_lives : named s.cells o.name ≡ Some o
    part_lives = held_lives s.cells gone_from o st.typed.good.no_duplicates there

    part_object : is_object o.thing ≡ true
    part_object = session_object p n c st.typing s st.typed o there

    part_small : o.name < 4096
    part_small = object_small p m s st.sound.formed st.agrees o part_lives part_object

    there_now : held cs gone_from ≡ Some o
    there_now = held_served s.cells n (taken_first (service_of s.cells n)) gone_from ∙ there

    pub part_goes : picked p x s ≡ Goes parting_state
    part_goes = picked_so ∙ ap (λ q. serves_first p x q s) (first_asked_so (Close c) es at) ∙ ap (λ y. parting_with p x c y then) there

    no_messages : (j : ℕ) → Close c ≡ Message j → ⊥
    no_messages j e = cc

    aside_released : Aside p released (record then { cells = moved gone_from (Going 1) cs })
    aside_released =
        let a = aside_taken (Close c) es at no_messages in
        record {
          cells = cells_moved p m.cells cs gone_from (Going 1) a.cells;
          entries = a.entries;
          requests = requests_moved p active cs gone_from (Going 1) a.requests;
          natives = natives_moved p m.sessions s.killed cs gone_from (Going 1) a.natives;
          services = services_moved p cs gone_from (Going 1) refl refl (record {
            clients = same_released k' cs s.clients a.services.clients c;
            sized = sized_released p.header.cells k' a.services.sized c;
            messages = a.services.messages;
            tokens = a.services.tokens;
            listed = a.services.listed;
          });
          rest = a.rest;
          room = a.room;
          entry_room = a.entry_room;
        }

    -- the client has its session there
    its_server : server_of (kept.client_at k' c) ≡ Some n
    its_server = grind (arith, nat_tests, shows_taken (Close c) es at no_messages, no_messages, there_now, eqb-true, part_small)

    numbered : c < length k'.clients
    numbered = subst (λ i. c < i) (sym (aside_taken (Close c) es at no_messages).services.clients.many) client

    end_shows : (d : _) (q : Place) → value_in (Ends d ∷ []) m.cells m.entries.items (others taken) q ≡ value_in [] m.cells m.entries.items (others taken) q
    end_shows d y = grind arith

    pub part_agrees : Agrees p (parting p o.name subject c taken) parting_state
    part_agrees =
        let us = Ends (Server subject c stages.Disconnects) ∷ [] in
        subst (λ ms. Agrees p (with_tasks (dying p m.cells o.name (Ends (Server subject c stages.Disconnects) ∷ ms)) released) parting_state) (sym (none_running p m
        s st idle)) (begins p released (record then { cells = moved gone_from (Going 1) cs }) us below_tasks o.name (class_at m.cells o.name) o
        (length s.items) refl part_small (server_same p m s st.agrees o part_lives part_object) (destructor_same p m s st.agrees o part_lives part_object)
        ((x.place, ap (λ t. Of_server (record { object = record { name = n; thing = t }; place = x.place }) c Disconnects) (sym server_thing)), tt) aside_released
        (dying_shows p released (record then { cells = moved gone_from (Going 1) cs }) us below_tasks o.name cs gone_from
        (value_in [] m.cells m.entries.items (others taken)) (word_at []) refl (shows_taken (Close c) es at no_messages) refl refl
        (shows_taken (Close c) es at no_messages gone_from ∙ ap number there_now) nothing_going (λ q. session_released (others taken) us m.cells m.entries.items
        c n numbered its_server q ∙ ap (λ i. changed (λ z. i) gone_from null q) (end_shows (Server subject c stages.Disconnects) q)) ended_word))
      where
        nothing_going : held cs (Going 1) ≡ None
        nothing_going = held_served s.cells n (taken_first (service_of s.cells n)) (Going 1) ∙ nothing_at (Going 1) refl (shows (Going 1))

        ended_word : (q : Place) → word_at below_tasks q ≡ word_at [] q
        ended_word y = grind arith
