-- A server is dispatched: with what begins to serve its queue the machine stands for the state in which the checked machine goes on, and its line is the same.
use Rattle.std.proofs.lemmas.Bool.Decides.{nat_tests}
use Rattle.std.proofs.Common.{Bool, List, None, Option, Some, [], ap, arith, cond, false, length, map}
use Rattle.std.proofs.Common.{refl, subst, suc, sym, true, zero, ℕ, ℤ, ◌<◌, ◌≤◌, ◌++◌, ◌∙◌, ◌∷◌, ◌≡◌}
use Rattle.std.specs.List.{list_any}
use Rattle.std.specs.Prelude.{is_some}
use Rattle.std.proofs.lemmas.Bool.{cases_lt, true≢false}
use Rattle.std.proofs.lemmas.Option.{none-some, same_Some}
use Rattle.aom_active_objects.specs.Agrees.{Active}
use Rattle.aom_static_bounds.specs.Heights.{HasHeights}
use Rattle.aom_cells.specs.Heap.{class_at}
use Rattle.aom_link_conditions.specs.Roles.{destructor_of, role_of}
use Rattle.aom_clients.specs.Clients as kept
use Rattle.aom_clients.specs.Table.{sender, session_of}
use Rattle.aom_clients.specs.declared.client.Client.{Client}
use Rattle.aom_clients.specs.declared.entry.QueueEntry.{QueueEntry}
use Rattle.aom_clients.specs.declared.entry.QueueEntry.TheVariants.{Close, Connect, Message}
use Rattle.aom_frames.specs.declared.dispatch.Subject.{Subject}
use Rattle.aom_image.specs.Image.{Image}
use Rattle.aom_image.specs.declared.method.Role.TheVariants.{Accept as Accepts_role, Service as Attends_role}
use Rattle.aom_image.specs.declared.method.Thing.TheVariants.{Object as An_object_of}
use Rattle.aom_machine_state.specs.LineBuffer.{LineBuffer}
use Rattle.aom_cells.specs.Store.{Store, word_at}
use Rattle.aom_roles.specs.Tables.{at}
use Rattle.aom_abstract_state.specs.declared.kind.Kind.TheVariants.{Null}
use Rattle.aom_machine.proofs.SafetyLemmas.{apart_still, at_rest, comes_moved, comes_served, destroys, first_sent, fit_moved, fit_taken, fits_unowning}
use Rattle.aom_machine.proofs.SafetyLemmas.{held_served, owned_objects_first, service_here, service_moved, tasks_begun}
use Rattle.aom_semantics.specs.Tokens.{TokensApart}
use Rattle.aom_safety.specs.Claims.{declared}
use Rattle.aom_semantics.specs.Clients.{most_of}
use Rattle.aom_semantics.specs.Destruction.{begun, begun_by}
use Rattle.aom_semantics.specs.Requests.{thing_kind}
use Rattle.aom_safety.specs.Kept.{ClientsFit, StateInvariant, is_close_of, is_connect_of}
use Rattle.aom_safety.specs.Laws.{IsWired}
use Rattle.aom_semantics.specs.Lines.{serve_of}
use Rattle.aom_semantics.specs.Places.{Cell, Elsewhere, Going, In_service, Object, Place, Queued, Session, held, moved, named, requested, service_of}
use Rattle.aom_safety.specs.Quiet.{OnlyQuietRun}
use Rattle.aom_semantics.specs.Servers.{is_server, reserved, sessions_in_use, taken_first}
use Rattle.aom_semantics.specs.State.{A_mark, Accepts, Closing, Destroy, Dispatch, Dispatched, Goes, Inside, Item, Receiver}
use Rattle.aom_semantics.specs.State.{Of_server, Disconnects, Counters, OwnedObject, Serves, Stage, State, Task, frame_of}
use Rattle.aom_safety.specs.Traps.{AllAtTraps}
use Rattle.aom_safety.specs.WellTyped.{PreservesTyping}
use Rattle.aom_semantics.specs.World.{IsBetween, Picks, message_words, pick_line, picked, serving, taken_from as checked_taken}
use Rattle.aom_machine.proofs.TerminationLemmas.{begun_budget_owner, picking}
use Rattle.aom_termination.specs.Left.{left}
use Rattle.aom_termination.specs.BudgetOwners.{class_of, declared_of, budget_owner, price_of}
use Rattle.aom_transcript.specs.declared.line.Line.TheVariants.{Serve}
use Rattle.aom_machine_state.specs.declared.parts.Parts.{Parts as Machine_parts}
use Rattle.aom_machine_state.specs.Agrees.{Agrees}
use Rattle.aom_machine_state.specs.Room.{AllFit, AllRunUnder, AllUnder, HasRoom}
use Rattle.aom_machine_state.specs.Serving.{asked_by, message_name}
use Rattle.aom_machine_state.specs.Stands.{Refines}
use Rattle.aom_machine_state.specs.Waits.{OthersWait}
use Rattle.aom_typing_rules.specs.Typing.{Typing}
use Rattle.aom_machine.proofs.MachineInstructionsLemmas.{dispatches_with_room}
use Rattle.aom_machine.specs.Servers.{AreRead, Begins, IsWord, Notes, ServesFirst, accepting, attending, parting, serve_asked, taken_from}
use Rattle.aom_machine.specs.Turns.{Takes}
use Rattle.aom_machine.proofs.Dispatching.{accept_agrees, accept_goes, attend_agrees, attend_goes, part_agrees, part_goes}
use Rattle.aom_machine.proofs.Queued.{attend_there, client_same, closer_there, first_fits, first_once, part_there, place_there, server_class}
use Rattle.aom_machine.proofs.Turning.{none_pushed}

-- ---- a cell is at hand to go, below it its dispatch alone

module _ (p : Image) (o : Object) (height : ℕ) (d : Dispatch) where
  abbrev ends : List Task
  ends = Dispatched d ∷ []

  -- what holds of it with its destructor and without, and with its sessions
  by_begun : (P : List Task → Type 0) → P (Closing ∷ Destroy ∷ ends) → ((m : Option ℕ) → destructor_of p o.thing ≡ m → P (begun_by p m o height ends)) →
      P (begun p o height ends)
  by_begun P closing other = go (is_server p o.thing)
    where
      go : (b : Bool) → P (cond b (Closing ∷ Destroy ∷ ends) (begun_by p (destructor_of p o.thing) o height ends))
      go x = grind arith

  begun_calm : IsWired p → OnlyQuietRun p (begun p o height ends)
  begun_calm wired = grind (arith, nat_tests, by_begun, destroys p wired o.thing)

  begun_traps : AllAtTraps p (begun p o height ends)
  begun_traps = grind (arith, nat_tests, by_begun)

  begun_waits : (t : Typing) (cs : List Cell) → OthersWait p t cs (begun p o height ends)
  begun_waits t cs = grind (arith, nat_tests, by_begun)

  begun_under : (depth : ℕ → ℕ) → AllUnder depth (begun p o height ends)
  begun_under depth = grind (arith, nat_tests, by_begun)

  begun_runs : (depth : ℕ → ℕ) (cs : List Cell) → AllRunUnder p depth cs [] (begun p o height ends)
  begun_runs depth cs = grind (arith, nat_tests, by_begun)

  begun_fit : (heights : HasHeights p) → AllFit p (at 0 heights.heights) [] (begun p o height ends)
  begun_fit heights = grind (arith, nat_tests, by_begun)

  begun_room : (depth : ℕ → ℕ) (heights : HasHeights p) (cs : List Cell) (items : List Item) (r : Counters) (dead : List ℕ) (clients : List Client) → items ≡ [] →
      HasRoom p depth (at 0 heights.heights) (record { cells = cs; tasks = begun p o height ends; items = items; rest = r; killed = dead; clients = clients })
  begun_room depth heights cs items r dead clients bare = subst (λ is. HasRoom p depth (at 0 heights.heights)
      (record { cells = cs; tasks = begun p o height ends; items = is; rest = r; killed = dead; clients = clients })) (sym bare)
      (record { under = begun_under depth; runs = begun_runs depth cs; fit = begun_fit heights; entries = omega arith })

-- ---- what begins

-- each of so many words is such as registers have
each_read : (s : Store) (place many : ℕ) → AreRead s place many → (w : ℕ) → w < many → IsWord (word_at s place w)
each_read s place zero read w small = absurd (omega (arith, small))
each_read s place (suc k) read w small = grind (arith, nat_tests, cases_lt w k, each_read s place k read.1 w)

module _ (p : Image) (m : Machine_parts) (s : State) (st : Refines (record { image = p; parts = m }) s)
    (idle : s.tasks ≡ []) (x : OwnedObject) (lives : named s.cells x.object.name ≡ Some x.object) (serves : is_server p x.object.thing ≡ true)
    (keeps : PreservesTyping p st.typing (picked p x s)) (asked : is_some (requested s.cells x.object.name) ≡ true)
    (active : Active) (noted : Notes x.object.name (kept.after_next x.object.name m.clients) m.active active) where
  abbrev n : ℕ
  n = x.object.name

  abbrev queue : List QueueEntry
  queue = kept.queue_at m.clients n

  abbrev cs : List Cell
  cs = reserved taken_first n s.cells

  abbrev taken : Machine_parts
  taken = taken_from n active m

  abbrev class : ℕ
  class = (server_class p m s st idle x lives serves keeps).0

  is : class_at m.cells n ≡ Some class
  is = (server_class p m s st idle x lives serves keeps).1.is

  thing : x.object.thing ≡ An_object_of class
  thing = (server_class p m s st idle x lives serves keeps).2

  abbrev subject : Subject
  subject = record { number = n; class = class }

  queue_so : (es : List QueueEntry) → queue ≡ es → (service_of s.cells n).queue ≡ map (asked_by m.clients.places) es
  queue_so es at = sym (st.agrees.services.clients.queues n) ∙ ap (map (asked_by m.clients.places)) at

  -- ---- what clients have is kept

  empty_now : (q : Place) → declared p s.cells q ≡ Null → held cs q ≡ None
  empty_now q e = grind (arith, nat_tests, held_served s.cells, fits_unowning p, at_rest p st.typing s st.typed idle)

  -- no token comes as the first is taken, nor as what it is moves
  taken_apart : TokensApart cs
  taken_apart = apart_still s.cells cs (comes_served s.cells n (taken_first (service_of s.cells n)) refl) st.kept.tokens

  moved_apart : (from to : Place) → TokensApart (moved from to cs)
  moved_apart from to = apart_still cs (moved from to cs) (comes_moved cs from to) taken_apart

  module _ (e : QueueEntry) (es : List QueueEntry) (at : queue ≡ e ∷ es) where
    fit_now : ClientsFit p s.clients cs
    fit_now = fit_taken p s.clients s.cells x.object lives asked (asked_by m.clients.places e) (map (asked_by m.clients.places) es)
        (queue_so (e ∷ es) at) st.kept.fit

    queue_now : (service_of cs n).queue ≡ map (asked_by m.clients.places) es
    queue_now = grind (arith, nat_tests, service_here s.cells, queue_so (e ∷ es) at)

  -- ---- what it costs

  affords : price_of p st.sound.prices (class_of x.object.thing) ≤ declared_of p (class_of x.object.thing)
  affords = subst (λ t. price_of p st.sound.prices (class_of t) ≤ declared_of p (class_of t)) (sym thing) (st.sound.objects.each class)

  pays : (u : State) → picked p x s ≡ Goes u → left p st.sound.prices u ≤ price_of p st.sound.prices (budget_owner u.tasks)
  pays u goes = picking p st.typing st.sound.prices st.sound.wired.family st.sound.linked st.sound.affordable.priced s st.typed idle (Picks x) lives refl u goes

  -- ---- a method begins, on these words

  module _ (c method : ℕ) (a : Stage) (receiver : Receiver) (words : List (Option ℤ)) (from : State) (new : Machine_parts) where
    abbrev begins : State
    begins = serving x c a (record (frame_of method receiver (length (A_mark ∷ from.items))) { words = words }) from

    method_stands : from.rest.steps ≡ 0 → picked p x s ≡ Goes begins → HasRoom p (at 0 st.sound.depths.depths) (at 0 st.sound.heights.heights) begins →
        StateInvariant p begins → Agrees p new begins → Refines (record { image = p; parts = new }) begins
    method_stands steps goes room kept agrees = record {
      typing = st.typing;
      sound = st.sound;
      typed = subst (λ o. PreservesTyping p st.typing o) goes keeps;
      only_quiet = (λ clearing. absurd (true≢false (sym clearing)), (refl, tt));
      traps = (tt, (tt, tt));
      room = room;
      waits = tt;
      kept = kept;
      within = record { within = omega (arith, steps, pays begins goes, affords) };
      agrees = agrees;
    }

  -- ---- a connect

  module _ (c : ℕ) (es : List QueueEntry) (at_first : queue ≡ Connect c ∷ es) (method : ℕ) (accepts : role_of p class Accepts_role ≡ Some method) where
    abbrev accepted : State
    accepted = serving x c Accepts (frame_of method (Inside x.object x.place) (length (A_mark ∷ s.items))) (checked_taken n s)

    accepted_goes : picked p x s ≡ Goes accepted
    accepted_goes = accept_goes p m s st idle x lives serves class is active noted c es at_first method accepts

    owned_object_left : sessions_in_use (service_of cs n) < most_of (thing_kind p x.object.thing)
    owned_object_left = grind (arith, nat_tests, owned_objects_first, queue_so (Connect c ∷ es) at_first, service_here s.cells)

    accept_stands : Refines (record { image = p; parts = accepting method subject c taken }) accepted
    accept_stands = method_stands c method Accepts (Inside x.object x.place) [] (checked_taken n s) (accepting method subject c taken) refl accepted_goes
        (dispatches_with_room p (at 0 st.sound.depths.depths) st.sound.heights cs method
        (Inside x.object x.place) (Of_server x c Accepts) s.items (checked_taken n s).rest s.killed s.clients (none_pushed p m s st idle))
        (record {
          fit = fit_now (Connect c) es at_first;
          stage = (first_fits p m s st idle x lives serves keeps (Connect c) es at_first, ap (λ q. list_any (is_connect_of c) q) (queue_now (Connect c) es at_first) ∙ not_again, owned_object_left);
          tokens = taken_apart;
        }) (accept_agrees p m s st idle x lives serves class is active noted c es at_first method accepts)
      where
        not_again : list_any (is_connect_of c) (map (asked_by m.clients.places) es) ≡ false
        not_again = first_once p m s st idle x lives serves keeps (Connect c) es at_first

  -- ---- a message

  module _ (j : ℕ) (es : List QueueEntry) (at_first : queue ≡ Message j ∷ es) (o : Object) (class' : ℕ) (is' : class_at m.cells o.name ≡ Some class')
      (there : held s.cells (Elsewhere (Session n (sender (kept.place_at m.clients j)))) ≡ Some o)
      (method : ℕ) (attends : role_of p class' Attends_role ≡ Some method) (read : AreRead m.messages j 5) where
    abbrev c : ℕ
    c = sender (kept.place_at m.clients j)

    abbrev receiver : Place
    receiver = Elsewhere (Session n c)

    abbrev attended : State
    attended = serving x c (Serves o) (record (frame_of method (Inside o receiver) (length (A_mark ∷ s.items))) { words = message_words cs (message_name j) })
        (record (checked_taken n s) { cells = moved (Elsewhere (Queued n (message_name j))) (Elsewhere In_service) cs })

    below : j < 1024
    below = place_there p m s st idle x lives serves keeps j es at_first

    words : (w : ℕ) → w < 5 → IsWord (word_at m.messages j w)
    words w small = each_read m.messages j 5 read w small

    attended_goes : picked p x s ≡ Goes attended
    attended_goes = attend_goes p m s st idle x lives serves class is active noted j es at_first below o class' is' there method attends words

    attend_stands : Refines (record { image = p; parts = attending method (record { number = o.name; class = class' }) subject c j taken }) attended
    attend_stands = let r = dispatches_with_room p (at 0 st.sound.depths.depths) st.sound.heights attended.cells method
        (Inside o receiver) (Of_server x c (Serves o)) s.items (checked_taken n s).rest s.killed s.clients (none_pushed p m s st idle) in
        method_stands c method (Serves o) (Inside o receiver) (message_words cs (message_name j)) (record (checked_taken n s) { cells = attended.cells })
        (attending method (record { number = o.name; class = class' }) subject c j taken) refl attended_goes
        (record { under = r.under; runs = r.runs; fit = r.fit; entries = r.entries }) (record {
          fit = fit_moved p s.clients cs (Elsewhere (Queued n (message_name j))) (Elsewhere In_service) (empty_now (Elsewhere In_service) refl)
              (λ i k. refl) (λ b. first_sent p s.clients s.cells x.object lives c (message_name j) (map (asked_by m.clients.places) es)
              (queue_so (Message j ∷ es) at_first) st.kept.fit) (fit_now (Message j) es at_first);
          stage = tt;
          tokens = moved_apart (Elsewhere (Queued n (message_name j))) (Elsewhere In_service);
        }) (attend_agrees p m s st idle x lives serves class is active noted j es at_first below o class' is' there method attends words)

  -- ---- a close

  module _ (c : ℕ) (es : List QueueEntry) (at_first : queue ≡ Close c ∷ es) (o : Object) (there : held s.cells (Elsewhere (Session n c)) ≡ Some o) where
    abbrev d : Dispatch
    d = Of_server x c Disconnects

    abbrev parted_cells : List Cell
    parted_cells = moved (Elsewhere (Session n c)) (Going 1) cs

    abbrev parted : State
    parted = record (checked_taken n s) { cells = parted_cells; tasks = begun p o (length s.items) (Dispatched d ∷ []) }

    client : c < 64
    client = closer_there p m s st idle x lives serves keeps c es at_first

    parted_goes : picked p x s ≡ Goes parted
    parted_goes = part_goes p m s st idle x lives serves class is active noted c es at_first o there client

    part_stands : Refines (record { image = p; parts = parting p o.name subject c taken }) parted
    part_stands = record {
      typing = st.typing;
      sound = st.sound;
      typed = subst (λ o. PreservesTyping p st.typing o) parted_goes keeps;
      only_quiet = begun_calm p o (length s.items) d st.sound.wired;
      traps = begun_traps p o (length s.items) d;
      room = begun_room p o (length s.items) d (at 0 st.sound.depths.depths) st.sound.heights parted_cells s.items (checked_taken n s).rest s.killed s.clients
          (none_pushed p m s st idle);
      waits = begun_waits p o (length s.items) d st.typing parted_cells;
      kept = record {
        fit = fit_moved p s.clients cs (Elsewhere (Session n c)) (Going 1) (empty_now (Going 1) refl) (λ i k. refl) (λ b. cc) (fit_now (Close c) es at_first);
        stage = grind (
          arith,
          nat_tests,
          tasks_begun p s.clients,
          first_fits p m s st idle x lives serves keeps (Close c) es at_first,
          service_moved,
          queue_now (Close c) es at_first,
        );
        tokens = moved_apart (Elsewhere (Session n c)) (Going 1);
      };
      within = record {
        within = omega (
          arith,
          pays parted parted_goes,
          affords,
          ap (λ y. price_of p st.sound.prices y) (begun_budget_owner p o (length s.items) (Dispatched d ∷ [])),
          ap (λ y. declared_of p y) (begun_budget_owner p o (length s.items) (Dispatched d ∷ [])),
        );
      };
      agrees = part_agrees p m s st idle x lives serves class is active noted c es at_first o there client;
    }
      where
        not_again : list_any (is_close_of c) (map (asked_by m.clients.places) es) ≡ false
        not_again = first_once p m s st idle x lives serves keeps (Close c) es at_first

  -- ---- each of them

  -- the checked machine goes on, and the machine stands for where it goes on
  abbrev pub Went : Machine_parts → Type 0
  Went new = (u : State) × (picked p x s ≡ Goes u) × Refines (record { image = p; parts = new }) u

  went : (e : QueueEntry) (es : List QueueEntry) → queue ≡ e ∷ es → (new : Machine_parts) →
      Begins p subject (kept.taken_entry m.clients e).client (kept.taken_entry m.clients e).entry taken new → Went new
  went (Connect c) es at new b = (accepted c es at b.0 b.1, accepted_goes c es at b.0 b.1, grind (arith, nat_tests, accept_stands c es at b.0 b.1))
  went (Message j) es at new b =
      let y = attend_there p m s st idle x lives serves keeps j es at in
      let c = sender (kept.place_at m.clients j) in
      let same : b.0 ≡ y.0.name = same_Some b.0 y.0.name (sym b.3 ∙ ap session_of (client_same m n (Message j) es at c) ∙ y.2.1.named) in
      let is' : class_at m.cells y.0.name ≡ Some b.1 = subst (λ i. class_at m.cells i ≡ Some b.1) same b.4 in
      let u = attended j es at y.0 b.1 is' y.1 b.2 b.5 b.6 in (
        u,
        attended_goes j es at y.0 b.1 is' y.1 b.2 b.5 b.6,
        grind (arith, nat_tests, attend_stands j es at y.0 b.1 is' y.1 b.2 b.5 b.6),
      )
  went (Close c) es at new b =
      let y = part_there p m s st idle x lives serves keeps c es at in
      let same : b.0 ≡ y.0.name = same_Some b.0 y.0.name (sym b.1 ∙ ap session_of (client_same m n (Close c) es at c) ∙ y.2.1.named) in
      let u = parted c es at y.0 y.1 in
      (u, parted_goes c es at y.0 y.1, grind (arith, nat_tests, part_stands c es at y.0 y.1))

  -- its line
  entry_line : (time : ℕ) (e : QueueEntry) → Serve time class (serve_asked (kept.taken_entry m.clients e).entry) (kept.taken_entry m.clients e).client
      ≡ serve_of time class (asked_by m.clients.places e)
  entry_line time (Connect c) = refl
  entry_line time (Message j) = refl
  entry_line time (Close c) = refl

  line_so : (e : QueueEntry) (es : List QueueEntry) → queue ≡ e ∷ es →
      Serve m.rest.clock class (serve_asked (kept.taken_entry m.clients e).entry) (kept.taken_entry m.clients e).client ∷ [] ≡ pick_line p s x.object
  line_so e es at = grind (arith, nat_tests, entry_line s.rest.clock e, queue_so (e ∷ es) at, thing)

-- a server is picked: what the machine does is what the checked machine does
pub server_served : (p : Image) (m : Machine_parts) (s : State) (st : Refines (record { image = p; parts = m }) s) (between : IsBetween s) (x : OwnedObject) →
    named s.cells x.object.name ≡ Some x.object → is_server p x.object.thing ≡ true →
    PreservesTyping p st.typing (picked p x s) → is_some (requested s.cells x.object.name) ≡ true → (reported now : LineBuffer) (new : Machine_parts) →
    ServesFirst p x.object.name m reported now new → Takes (record { image = p; parts = m }) s (Picks x) reported now (record { image = p; parts = new })
server_served p m s st between x lives serves keeps asked reported now new f = go (kept.queue_at m.clients n) refl
  where
    n : ℕ
    n = x.object.name

    class : ℕ
    class = (server_class p m s st between.idle x lives serves keeps).0

    same_class : f.class ≡ class
    same_class = same_Some f.class class (sym f.is ∙ (server_class p m s st between.idle x lives serves keeps).1.is)

    go : (es : List QueueEntry) → kept.queue_at m.clients n ≡ es → Takes (record { image = p; parts = m }) s (Picks x) reported now (record { image = p; parts = new })
    go [] at = absurd (none-some f.first (sym (ap (kept.first_entry m.clients) at) ∙ f.waits))
    go (e ∷ es) at =
        let first : kept.taken_entry m.clients e ≡ f.first = same_Some (kept.taken_entry m.clients e) f.first (sym (ap (kept.first_entry m.clients) at) ∙ f.waits) in
        let begins : Begins p (record { number = n; class = class })
        (kept.taken_entry m.clients e).client (kept.taken_entry m.clients e).entry (taken_from n f.active m) new = subst (λ k. Begins p
        (record { number = n; class = k }) (kept.taken_entry m.clients e).client (kept.taken_entry m.clients e).entry (taken_from n f.active m) new) same_class
        (subst (λ y. Begins p (record { number = n; class = f.class }) y.client y.entry (taken_from n f.active m) new) (sym first) f.begins) in
        let w = went p m s st between.idle x lives serves keeps asked f.active f.noted e es at new begins in
        let line : Serve m.rest.clock f.class (serve_asked f.first.entry) f.first.client ∷ [] ≡ pick_line p s x.object =
        ap (λ k. Serve m.rest.clock k (serve_asked f.first.entry) f.first.client ∷ []) same_class ∙ ap (λ y. Serve m.rest.clock class
        (serve_asked y.entry) y.client ∷ []) (sym first) ∙ line_so p m s st between.idle x lives serves keeps asked f.active f.noted e es at in
        record {
          between = between;
          state = w.0;
          goes = w.1;
          lines = f.lines ∙ ap (λ ls. record reported { lines = reported.lines ++ ls }) line;
          stands = w.2;
        }
