-- The sessions with a server that goes: the first that is there is at hand to go before it, and once none is left its destructor runs.
use Rattle.std.proofs.lemmas.Bool.Decides.{nat_tests}
use Rattle.std.proofs.Common.{Bool, List, None, Option, Some, [], ap, append-nil, arith, cond, false, length, refl, subst, suc, sym, true, ℕ, ◌+◌, ◌++◌, ◌<◌}
use Rattle.std.proofs.Common.{◌∙◌, ◌∷◌, ◌≡◌, ◌≤◌}
use Rattle.std.proofs.lemmas.Bool.{cases_lt, eq-eqb, eqb-true}
use Rattle.std.proofs.lemmas.List.{get_or_past}
use Rattle.aom_cells.specs.Heap.{Lives, class_at, null}
use Rattle.aom_clients.specs.Clients as kept
use Rattle.aom_clients.specs.Table.{has_cell, server_of, session_of}
use Rattle.aom_clients.specs.declared.client.Client.{Client}
use Rattle.aom_clients.specs.declared.client.Client.TheVariants.{Unconnected}
use Rattle.aom_frames.specs.declared.task.Task.{Task as Machine_task}
use Rattle.aom_frames.specs.declared.task.Task.TheVariants.{Closing as Closes, Destroy as Destroys}
use Rattle.aom_image.specs.Image.{Image}
use Rattle.aom_image.specs.WellFormed.{WellFormed}
use Rattle.aom_roles.specs.Things.{is_object}
use Rattle.aom_machine_state.specs.LineBuffer.{LineBuffer}
use Rattle.aom_typing_rules.specs.Typing.{Typing}
use Rattle.aom_machine_instructions.proofs.SemanticsLemmas.{held_lives}
use Rattle.aom_semantics.specs.Destruction as checked
use Rattle.aom_semantics.specs.Destruction.{first_session, parting}
use Rattle.aom_safety.specs.Kept.{StateInvariant}
use Rattle.aom_semantics.specs.Moves.{asked, is_counted, step, step_task, written_task}
use Rattle.aom_semantics.specs.Places.{Elsewhere, Going, Object, Place, Session, held, moved, named, service_of}
use Rattle.aom_semantics.specs.State.{Choice, Closing, Destroy, Goes, Counters, State, Task}
use Rattle.aom_link_conditions.specs.Roles.{destructor_of}
use Rattle.aom_safety.specs.WellTyped.{WellTyped}
use Rattle.aom_machine_instructions.proofs.MachineStateLemmas.{Alike, alike, both_close, both_go, going_past, same_length, same_released, session_released}
use Rattle.aom_machine_instructions.proofs.MachineStateLemmas.{sized_released}
use Rattle.aom_machine_state.specs.Agrees.{Agrees, SameTasks, Represents, number, word_at}
use Rattle.aom_machine_state.specs.Places.{IsClosing, IsDestroying, going_here, others, going_in, session_with, value_in, with_tasks}
use Rattle.aom_machine_state.specs.Stands.{Stands}
use Rattle.aom_machine_state.specs.declared.parts.Parts.{Parts}
use Rattle.aom_machine_instructions.proofs.Ends.{at_close}
use Rattle.aom_machine_instructions.proofs.Firsts.{IsOwnedObject, closing_found, its_session, no_session, session_lives}
use Rattle.aom_machine_instructions.proofs.SafetyLemmas.{session_object}
use Rattle.aom_machine_instructions.proofs.GoingActs.{begins, closes_value, closes_word, destructor_class, destructor_same, destructs, dying_shows, server_same}
use Rattle.aom_machine_instructions.proofs.ReturnActs.{lives_within}
use Rattle.aom_machine_instructions.proofs.Running.{Aside, an_open, aside_counted, aside_moved, aside_of, nothing_held, object_lives_at, object_small}
use Rattle.aom_machine_instructions.proofs.Running.{object_there}
use Rattle.aom_machine_instructions.proofs.Stepping.{counted_by, moved_so}
use Rattle.aom_machine_instructions.specs.Going.{destructed, destructor_at, destructor_in, dying, is_server_class}
use Rattle.aom_machine_instructions.specs.Moves.{Moves}
use Rattle.aom_machine_instructions.specs.Serving.{released_by, session_there}
use Rattle.aom_frames.specs.Tasks.{below_first}
use Rattle.aom_machine_instructions.proofs.Rooms.{has_much_room}

-- a server is at hand to go, and right over it what closes its sessions, on both sides
pub record Closed (m : Parts) (s : State) : Type 0 where
  pub number : ℕ
  pub held_below : List Machine_task
  pub below : List Task
  pub held_top : m.stack.tasks ≡ Closes ∷ Destroys number ∷ held_below
  pub top : s.tasks ≡ Closing ∷ Destroy ∷ below
  pub small : number < 4096
  pub same : SameTasks held_below below
  pub object : Object
  pub holds : held s.cells (Going (length below)) ≡ Some object

pub closed : (p : Image) (t : Typing) (m : Parts) (s : State) → WellTyped p t s → Agrees p m s → IsClosing m.stack.tasks → Closed m s
closed p t m s typed agrees closing = go refl refl (alike m.stack.tasks s.tasks agrees.tasks) closing
  where
    under : {ms : List Machine_task} {ts : List Task} → m.stack.tasks ≡ Closes ∷ ms →
        s.tasks ≡ Closing ∷ Destroy ∷ ts → (o : Object) → held s.cells (Going (length ts)) ≡ Some o → Alike ms (Destroy ∷ ts) → Closed m s
    under e f o holds (both_go x ms ts small same _) =
        record { number = x; held_below = ms; below = ts; held_top = e; top = f; small = small; same = same; object = o; holds = holds }

    go : {us : List Machine_task} {vs : List Task} → m.stack.tasks ≡ us → s.tasks ≡ vs → Alike us vs → IsClosing us → Closed m s
    go e f (both_close ms ts same more) is =
        let over = closing_found p t s typed ts f in
        under e (f ∙ ap (λ us. Closing ∷ us) over.tasks) over.object over.held (subst (λ us. Alike ms us) over.tasks more)
    go e f _ is = absurd is

-- a step of what closes the sessions
step_of_closing : (p : Image) (c : Choice) (s : State) (ts : List Task) → s.tasks ≡ Closing ∷ Destroy ∷ ts →
    step p c s ≡ checked.closing p (Destroy ∷ ts) (at_close s)
step_of_closing p c s ts top = ap (λ us. step_task p c (counted_by s (asked p us) (is_counted us)) us) top

module _ (p : Image) (formed : WellFormed p) (m : Parts)
    (announced : m.rest.announced ≡ true) (t : Typing) (s : State) (typed : WellTyped p t s) (fits : StateInvariant p s) (agrees : Agrees p m s) (e : Closed m s) where
  abbrev x : ℕ
  x = e.number

  abbrev ms : List Machine_task
  ms = e.held_below

  abbrev ts : List Task
  ts = e.below

  abbrev o : Object
  o = e.object

  abbrev us : List Machine_task
  us = Closes ∷ Destroys e.number ∷ e.held_below

  abbrev vs : List Task
  vs = Closing ∷ Destroy ∷ e.below

  old : (q : Place) → Represents (value_in us m.cells m.entries.items (others m) q) (word_at vs q) (held s.cells q)
  old q = grind (arith, nat_tests)

  under : (q : Place) → Represents (value_in (Destroys x ∷ ms) m.cells m.entries.items (others m) q) (word_at (Destroy ∷ ts) q) (held s.cells q)
  under q = grind (arith, nat_tests, closes_value, closes_word, old q)

  deep : length ms ≡ length ts
  deep = same_length ms ts e.same

  -- the number that goes is the server's
  number_is : x ≡ o.name
  number_is =
      let at : value_in (Destroys x ∷ ms) m.cells m.entries.items (others m) (Going (length ts)) ≡ x =
      ap (λ b. cond b x (going_in ms (length ts))) (eq-eqb (length ms) (length ts) deep) in
      sym at ∙ under (Going (length ts)) ∙ ap number e.holds

  lives : named s.cells o.name ≡ Some o
  lives = held_lives s.cells _ o typed.good.no_duplicates e.holds

  cell : is_object o.thing ≡ true
  cell = object_there p m s agrees o lives (subst (λ k. k < 4096) number_is e.small)

  pub server_lives : Lives m.cells x
  server_lives = subst (Lives m.cells) (sym number_is) (object_lives_at p m s agrees o lives cell)

  pub server_within : x < length m.clients.queues
  server_within = subst (λ k. x < k) (sym agrees.services.sized.queues) (subst (λ k. k < p.header.cells) (sym number_is) (lives_within p m s agrees o lives cell))

  counts : m.rest ≡ (at_close s).rest
  counts = agrees.rest ∙ ap (λ b. record s.rest { announced = b }) (sym (ap (λ (r : Counters). r.announced) agrees.rest) ∙ announced)

  aside : Aside p m (at_close s)
  aside = aside_counted p m s m.rest (at_close s).rest (aside_of p m s agrees) counts

  -- no session is there: its destructor runs
  pub none_left : kept.first_there m.clients (kept.sessions_at m.clients x) ≡ None → Agrees p (with_tasks (destructed p (destructor_at p m.cells x) x
      (Destroys x ∷ ms)) m) (parting p o (first_session s.cells o.name (service_of s.cells o.name).sessions) ts (at_close s))
  none_left none =
      let first = no_session p m t s typed agrees o.name fits.fit (ap (λ i. kept.first_there m.clients (kept.sessions_at m.clients i)) (sym number_is) ∙ none) in
      subst (λ f. Agrees p (with_tasks (destructed p (destructor_at p m.cells x) x (Destroys x ∷ ms)) m) (parting p o f ts (at_close s))) (sym first)
      (subst (λ d. Agrees p (with_tasks (destructed p d x (Destroys x ∷ ms)) m) (record (at_close s) { tasks = checked.destructed p o (length s.items) ts }))
      (sym (ap (destructor_at p m.cells) number_is ∙ destructor_same p m s agrees o lives cell))
      (destructs p m (at_close s) ms ts x (destructor_of p o.thing) o (length s.items) (destructor_class p o.thing) number_is e.small e.same aside under))

  -- the session of that client is the first that is there: it goes
  module _ (c r : ℕ) (first : kept.first_there m.clients (kept.sessions_at m.clients x) ≡ Some c) (its : session_of (kept.client_at m.clients c) ≡ Some r)
      (small : r < 65536) where
    abbrev k' : kept.ClientsState
    k' = kept.after_release c m.clients

    abbrev m' : Parts
    m' = record m { clients = kept.after_release c m.clients }

    owned_object : IsOwnedObject p m t s typed agrees o.name c r (first_session s.cells o.name (service_of s.cells o.name).sessions)
    owned_object = grind (arith, nat_tests, its_session p m t s typed agrees, number_is, small)

    abbrev from : Place
    from = Elsewhere (Session o.name c)

    abbrev y : Object
    y = owned_object.object

    y_lives : named s.cells y.name ≡ Some y
    y_lives = held_lives s.cells from y typed.good.no_duplicates owned_object.held

    y_cell : is_object y.thing ≡ true
    y_cell = session_object p o.name c t s typed y owned_object.held

    pub session_there_lives : Lives m.cells r
    session_there_lives = subst (Lives m.cells) (sym owned_object.number) (session_lives p m t s typed agrees o.name c y owned_object.held)

    shown : session_with o.name (kept.client_at m.clients c) ≡ r
    shown = agrees.values from ∙ ap number owned_object.held ∙ sym owned_object.number

    not_none : r ≡ null → ⊥
    not_none n = absurd (omega (arith, small, n))

    client : c < length m.clients.clients
    client = grind (arith, nat_tests, cases_lt c, not_none, shown, get_or_past m.clients.clients c Unconnected)

    with_it : server_of (kept.client_at m.clients c) ≡ Some o.name
    with_it = grind (arith, nat_tests, shown, eqb-true, not_none)

    abbrev to : Place
    to = Going (suc (suc (length e.below)))

    abbrev v : State
    v = record (at_close s) { cells = moved from to s.cells }

    aside_then : Aside p m' v
    aside_then =
        let a = aside_moved p m s from to agrees refl refl in
        record {
          cells = a.cells;
          entries = a.entries;
          requests = a.requests;
          natives = a.natives;
          services = record {
            clients = same_released m.clients (moved from to s.cells) s.clients a.services.clients c;
            sized = sized_released p.header.cells m.clients agrees.services.sized c;
            messages = a.services.messages;
            tokens = a.services.tokens;
            listed = a.services.listed;
          };
          rest = counts;
          room = a.room;
          entry_room = a.entry_room;
        }

    pub goes_first : Agrees p (with_tasks (dying p m.cells r us) m')
        (parting p o (first_session s.cells o.name (service_of s.cells o.name).sessions) ts (at_close s))
    goes_first =
        let name = owned_object.number in
        let deep_too = deep in
        let empty : held s.cells to ≡ None = grind (arith, nat_tests, nothing_held p m t s typed agrees, going_past) in
        subst (λ f. Agrees p (with_tasks (dying p m.cells r us) m') (parting p o f ts (at_close s))) (sym owned_object.owned_object) (begins p m' v us vs r (class_at m.cells r)
        y (length s.items) name (object_small_there name) (ap (λ i. is_server_class p (class_at m.cells i)) name ∙ server_same p m s agrees y y_lives y_cell)
        (ap (λ i. destructor_at p m.cells i) name ∙ destructor_same p m s agrees y y_lives y_cell)
        (tt, (e.small, e.same)) aside_then (dying_shows p m' v us vs r s.cells from (value_in us m.cells m.entries.items (others m)) (word_at vs) refl old
        (ap (λ i. suc (suc i)) deep) refl shown empty (session_released (others m) us m.cells m.entries.items c o.name client with_it) (λ q. refl)))
      where
        object_small_there : r ≡ y.name → r < 4096
        object_small_there name = subst (λ i. i < 4096) (sym name) (object_small p m s formed agrees y y_lives y_cell)

-- ---- the move

module _ (p : Image) (m : Parts) (announced : m.rest.announced ≡ true) where
  -- whatever it goes over to
  by_closing : (new : Parts) (reported : LineBuffer) →
      IsClosing m.stack.tasks → ((t : Typing) (s : State) → WellFormed p → WellTyped p t s → StateInvariant p s → Agrees p m s → (e : Closed m s) → Agrees p new
      (parting p e.object (first_session s.cells e.object.name (service_of s.cells e.object.name).sessions) e.below (at_close s))) → Moves p m reported reported new
  by_closing new reported closing goes t s sound typed fits agrees =
      let e = closed p t m s typed agrees closing in
      let c = an_open p reported.refused m s agrees in
      let after = parting p e.object (first_session s.cells e.object.name (service_of s.cells e.object.name).sessions) e.below (at_close s) in
      let is : step p c.0 s ≡ Goes after = step_of_closing p c.0 s e.below e.top ∙ ap (λ o. checked.parting_from p o e.below (at_close s)) e.holds in (
        moved_so p m new reported.refused t s after sound typed c is (goes t s sound.formed typed fits agrees e),
        ap (λ ls. record reported { lines = ls }) (sym (ap (λ us. reported.lines ++ written_task p s us) e.top ∙ append-nil reported.lines)),
      )

  pub destructor_moves : (reported : LineBuffer) (n : ℕ) (ms : List Machine_task) → m.stack.tasks ≡ Closes ∷ Destroys n ∷ ms → kept.first_there m.clients
      (kept.sessions_at m.clients n) ≡ None → Moves p m reported reported (with_tasks (destructed p (destructor_at p m.cells n) n (Destroys n ∷ ms)) m)
  destructor_moves reported n ms tasks none = by_closing _ reported (subst IsClosing (sym tasks) tt) (λ t s formed typed fits agrees e.
      let same : Closes ∷ Destroys n ∷ ms ≡ Closes ∷ Destroys e.number ∷ e.held_below = sym tasks ∙ e.held_top in
      let is : n ≡ e.number = cc in
      let below : ms ≡ e.held_below = cc in
      subst (λ k. Agrees p (with_tasks (destructed p (destructor_at p m.cells k) k (Destroys k ∷ ms)) m)
      (parting p e.object (first_session s.cells e.object.name (service_of s.cells e.object.name).sessions) e.below (at_close s))) (sym is)
      (subst (λ l. Agrees p (with_tasks (destructed p (destructor_at p m.cells e.number) e.number (Destroys e.number ∷ l)) m)
      (parting p e.object (first_session s.cells e.object.name (service_of s.cells e.object.name).sessions) e.below (at_close s))) (sym below)
      (none_left p formed m announced t s typed fits agrees e (ap (λ i. kept.first_there m.clients (kept.sessions_at m.clients i)) (sym is) ∙ none))))

  pub session_moves : (reported : LineBuffer) (n c r : ℕ) (ms : List Machine_task) → m.stack.tasks ≡ Closes ∷ Destroys n ∷ ms →
      kept.first_there m.clients (kept.sessions_at m.clients n) ≡ Some c → session_of (kept.client_at m.clients c) ≡ Some r → r < 65536
      → Moves p m reported reported (with_tasks (dying p m.cells r (Closes ∷ Destroys n ∷ ms)) (record m { clients = kept.after_release c m.clients }))
  session_moves reported n c r ms tasks first its small = by_closing _ reported (subst IsClosing (sym tasks) tt) (λ t s formed typed fits agrees e.
      let same : Closes ∷ Destroys n ∷ ms ≡ Closes ∷ Destroys e.number ∷ e.held_below = sym tasks ∙ e.held_top in
      let is : n ≡ e.number = cc in
      subst (λ l. Agrees p (with_tasks (dying p m.cells r l) (record m { clients = kept.after_release c m.clients }))
      (parting p e.object (first_session s.cells e.object.name (service_of s.cells e.object.name).sessions) e.below (at_close s))) (sym e.held_top ∙ tasks)
      (goes_first p formed m announced t s typed fits agrees e c r (ap (λ i. kept.first_there m.clients (kept.sessions_at m.clients i)) (sym is) ∙ first) its small))

-- what the code finds
pub record Finds_server (m : Parts) : Type 0 where
  pub number : ℕ
  pub below : List Machine_task
  pub tasks : m.stack.tasks ≡ Closes ∷ Destroys number ∷ below
  pub small : number < 4096
  pub within : number < length m.clients.queues
  pub lives : Lives m.cells number
  -- a session that is found lives
  pub session : (c r : ℕ) → kept.first_there m.clients (kept.sessions_at m.clients number) ≡ Some c → session_of (kept.client_at m.clients c) ≡ Some r →
      r < 65536 → Lives m.cells r

pub finds_server : (p : Image) (m : Parts) → Stands (record { image = p; parts = m }) → m.rest.announced ≡ true → IsClosing m.stack.tasks → Finds_server m
finds_server p m st announced closing =
    let t = st.1.typing in
    let formed = st.1.sound.formed in
    let e = closed p t m st.0 st.1.typed st.1.agrees closing in
    record {
      number = e.number;
      below = e.held_below;
      tasks = e.held_top;
      small = e.small;
      within = server_within p formed m announced t st.0 st.1.typed st.1.kept st.1.agrees e;
      lives = server_lives p formed m announced t st.0 st.1.typed st.1.kept st.1.agrees e;
      session = λ c r first its small. session_there_lives p formed m announced t st.0 st.1.typed st.1.kept st.1.agrees e c r first its small;
    }

-- ---- as the code finds it

-- what is first there has a cell
first_has : (k : kept.ClientsState) (cs : List ℕ) (c : ℕ) → kept.first_there k cs ≡ Some c → has_cell (kept.client_at k c) ≡ true
first_has k [] c e = cc
first_has k (d ∷ cs) c e = go (has_cell (kept.client_at k d)) refl e (first_has k cs c)
  where
    go : (b : Bool) → has_cell (kept.client_at k d) ≡ b → cond b (Some d) (kept.first_there k cs) ≡ Some c →
        (kept.first_there k cs ≡ Some c → has_cell (kept.client_at k c) ≡ true) → has_cell (kept.client_at k c) ≡ true
    go true has e rest = let same : d ≡ c = cc in subst (λ i. has_cell (kept.client_at k i) ≡ true) same has
    go false has e rest = rest e

has_session_of : (x : Client) → has_cell x ≡ true → session_of x ≡ None → ⊥
has_session_of x has none = grind arith

-- none was taken
none_taken : (k : kept.ClientsState) (cs : List ℕ) → session_there (kept.first_there k cs) k ≡ None → kept.first_there k cs ≡ None
none_taken k cs none = grind (arith, nat_tests, has_session_of, first_has k cs)

-- or that of a client
one_taken : (k : kept.ClientsState) (cs : List ℕ) (r : ℕ) → session_there (kept.first_there k cs) k ≡ Some r →
    (c : ℕ) × (kept.first_there k cs ≡ Some c) × (session_of (kept.client_at k c) ≡ Some r)
one_taken k cs r some = grind (arith, nat_tests)

below_shorter : (us : List Machine_task) → length (below_first us) ≤ length us
below_shorter [] = omega arith
below_shorter (u ∷ us) = omega arith

module _ (p : Image) (m : Parts) (st : Stands (record { image = p; parts = m })) (announced : m.rest.announced ≡ true) (closing : IsClosing m.stack.tasks) where
  abbrev going : ℕ
  going = going_here (below_first m.stack.tasks)

  found : Finds_server m
  found = finds_server p m st announced closing

  here : going ≡ found.number
  here = ap (λ us. going_here (below_first us)) found.tasks

  pub server_goes : IsDestroying (below_first m.stack.tasks)
  server_goes = subst (λ us. IsDestroying (below_first us)) (sym found.tasks) tt

  pub server_small : going < 65536
  server_small = let small = subst (λ k. k < 4096) (sym here) found.small in omega (arith, small)

  pub server_queued : going < length m.clients.queues
  server_queued = subst (λ k. k < length m.clients.queues) (sym here) found.within

  pub server_there : Lives m.cells going
  server_there = subst (Lives m.cells) (sym here) found.lives

  pub room_above : (length (below_first m.stack.tasks) + 3) < m.stack.depth
  room_above = let much = has_much_room p m st in let less = below_shorter m.stack.tasks in omega (arith, much, less)

  module _ (number : ℕ) (is : number ≡ going) where
    tasks_are : m.stack.tasks ≡ Closes ∷ Destroys number ∷ found.below
    tasks_are = found.tasks ∙ ap (λ k. Closes ∷ Destroys k ∷ found.below) (sym (is ∙ here))

    below_is : below_first m.stack.tasks ≡ Destroys number ∷ found.below
    below_is = ap below_first tasks_are

    -- once none is left
    module _ (mid taken : Parts) (result : Option ℕ) (drop : mid ≡ with_tasks (below_first m.stack.tasks) m)
        (takes : taken ≡ record mid { clients = released_by (kept.first_there mid.clients (kept.sessions_at mid.clients number)) mid.clients })
        (reported : result ≡ session_there (kept.first_there mid.clients (kept.sessions_at mid.clients number)) mid.clients) where
      reported_here : result ≡ session_there (kept.first_there m.clients (kept.sessions_at m.clients number)) m.clients
      reported_here = reported ∙ ap (λ (k : Parts). session_there (kept.first_there k.clients (kept.sessions_at k.clients number)) k.clients) drop

      takes_here : taken ≡ record (with_tasks (below_first m.stack.tasks) m)
          { clients = released_by (kept.first_there m.clients (kept.sessions_at m.clients number)) m.clients }
      takes_here = grind (arith, nat_tests, number)

      -- all but the clients
      pub cells_taken : taken.cells ≡ m.cells
      cells_taken = ap (λ (k : Parts). k.cells) takes_here

      pub stack_taken : taken.stack ≡ record m.stack { tasks = below_first m.stack.tasks }
      stack_taken = ap (λ (k : Parts). k.stack) takes_here

      first_none : result ≡ None → kept.first_there m.clients (kept.sessions_at m.clients number) ≡ None
      first_none none = none_taken m.clients (kept.sessions_at m.clients number) (sym reported_here ∙ none)

      pub taken_none : result ≡ None → taken ≡ with_tasks (below_first m.stack.tasks) m
      taken_none none = grind (arith, nat_tests, takes_here, first_none none)

      pub moves_none : (lines : LineBuffer) (class : ℕ) (new : Parts) → result ≡ None → class_at taken.cells number ≡ Some class →
          new ≡ with_tasks (destructed p (destructor_in p (Some class)) number taken.stack.tasks) taken → Moves p m lines lines new
      moves_none lines class new none its new_is =
          let same = taken_none none in
          let class_is : class_at m.cells number ≡ Some class = ap (λ h. class_at h number) (sym cells_taken) ∙ its in
          subst (λ k. Moves p m lines lines k) (sym (new_is ∙ ap (λ (k : Parts). with_tasks (destructed p (destructor_in p (Some class)) number k.stack.tasks)
          k) same ∙ ap (λ o. with_tasks (destructed p (destructor_in p o) number (below_first m.stack.tasks)) m) (sym class_is)
          ∙ ap (λ us. with_tasks (destructed p (destructor_at p m.cells number) number us) m) below_is))
          (destructor_moves p m announced lines number found.below tasks_are (first_none none))

      pub session_found : (r : ℕ) → result ≡ Some r → r < 65536 → Lives taken.cells r
      session_found r some small =
          let one = one_taken m.clients (kept.sessions_at m.clients number) r (sym reported_here ∙ some) in
          subst (λ h. Lives h r) (sym cells_taken)
          (found.session one.0 r (ap (λ i. kept.first_there m.clients (kept.sessions_at m.clients i)) (sym (is ∙ here)) ∙ one.1) one.2 small)

      pub moves_some : (lines : LineBuffer) (r : ℕ) (new : Parts) → result ≡ Some r → r < 65536 →
          new ≡ with_tasks (dying p taken.cells r (Closes ∷ taken.stack.tasks)) taken → Moves p m lines lines new
      moves_some lines r new some small new_is =
          let one = one_taken m.clients (kept.sessions_at m.clients number) r (sym reported_here ∙ some) in
          let then = record m { clients = kept.after_release one.0 m.clients } in
          subst (λ k. Moves p m lines lines k)
          (sym (new_is ∙ ap (λ (k : Parts). with_tasks (dying p k.cells r (Closes ∷ k.stack.tasks)) k)
          (takes_here ∙ ap (λ o. record (with_tasks (below_first m.stack.tasks) m) { clients = released_by o m.clients }) one.1)
          ∙ ap (λ us. with_tasks (dying p m.cells r (Closes ∷ us)) then) below_is))
          (session_moves p m announced lines number one.0 r found.below tasks_are one.1 one.2 small)
