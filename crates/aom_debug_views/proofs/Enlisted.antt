-- The entries of the roster are the enlisted objects of each state that the machine stands for, in the order of choice.
use Rattle.std.proofs.lemmas.Bool.Decides.{nat_tests}
use Rattle.std.proofs.Common.{◌≡◌, ◌∙◌, ℕ, ℤ, Bool, true, false, List, [], ◌∷◌, Option, Some, None, IsSome, length, slice_get, take, ap}
use Rattle.std.proofs.Common.{suc, arith}
use Rattle.std.specs.List.{Contains}
use Rattle.std.specs.Prelude.{AllPairs, map}
use Rattle.std.proofs.lemmas.List.{length-map}
use Rattle.std.proofs.lemmas.List.Elements.{All-map}
use Rattle.std.proofs.lemmas.List.Kept.{AllPairs-cons}
use Rattle.std.proofs.lemmas.Option.{get_or_from_slice_get, slice_get_within}
use Rattle.aom_image.specs.Image.{Image}
use Rattle.aom_cells.specs.Heap.{class_at}
use Rattle.aom_clients.specs.Clients.{queue_at}
use Rattle.aom_scheduler.specs.Requests.{IsEnlisted, is_server as is_served, request_at, state_at, state_of, status_at, status_of}
use Rattle.aom_scheduler.specs.declared.request.RequestState.{RequestState as Machine_state}
use Rattle.aom_scheduler.specs.declared.request.Request.{Request as Machine_request}
use Rattle.aom_scheduler.specs.declared.entry.ScheduleEntry.{ScheduleEntry}
use Rattle.aom_active_objects.specs.Agrees.{GoesBefore, HasPriority, RequestAgrees as Reports_request, phase_of, queue_in, queued}
use Rattle.aom_debug_views.proofs.SchedulerLemmas.{IsAt, at_head, in_tail, pairs-head, pairs-nil, pairs-tail, place-at, some_is}
use Rattle.aom_scheduler.specs.PriorityList.{place}
use Rattle.aom_semantics.specs.Places.{Object, Request, Service, named, requested, service_of}
use Rattle.aom_semantics.specs.State.{State}
use Rattle.aom_machine_state.specs.declared.parts.Parts.{Parts}
use Rattle.aom_machine_state.specs.Stands.{MachineModel, Refines}
use Rattle.aom_transcript.specs.Sinks.{after}
use Rattle.aom_debug_protocol.specs.declared.fault.DebugFault.{DebugFault}
use Rattle.aom_debug_protocol.specs.declared.answer.Answer.TheVariants.{Active, Server}
use Rattle.aom_debug_symbols.specs.NameLists.{NameLists}
use Rattle.aom_debug_views.specs.Actives.{InOrderOfChoice, ReportsActives, ReportsActivesPart, active_answer, active_of, active_placed, actives_placed, serves}
use Rattle.aom_debug_views.specs.Actives.{shown_phase}
use Rattle.aom_debug_views.specs.Reporting.{Reports, ReportsPart, gathered}
use Rattle.aom_debug_views.specs.Seeking.{Placed, placed_by}
use Rattle.aom_debug_views.proofs.Showing.{class_named}
use Rattle.aom_debug_views.proofs.Reporting.{gathered_items}

-- ---- one entry

none_asked : (q : Option Machine_request) (r : Option Request) (w : Option Bool) → Reports_request q r w → None ≡ state_of q → is_served q ≡ false → r ≡ None
none_asked q r w reports is plain = grind arith

-- what has a queue is a server, and nothing else is
serves_by : (p : Image) (o : Option Object) (v : Service) (b : Bool) → queue_in p o v ≡ Some b → serves p o ≡ true
serves_by p x v b is = grind arith

serves_not : (p : Image) (o : Option Object) (v : Service) → queue_in p o v ≡ None → serves p o ≡ false
serves_not p x v is = grind arith

module _ (server : Bool) (waiting : ℕ) where
  -- what is asked by a name, as it is told
  asked_shown : (q : Option Machine_request) (r : Option Request) (w : Option Bool) → (w ≡ None → server ≡ false) →
      (class : ℕ) (priority status : ℤ) (state : Machine_state) → Reports_request q r w → HasPriority priority r → Some state ≡ state_of q →
      status_of q ≡ Some status → Some (Active class priority (shown_phase (phase_of state)) status) ≡ active_of server (Some class) r waiting
  asked_shown q r w plain class priority status state reports has is at = grind arith

  -- and a server
  served_shown : (q : Option Machine_request) (r : Option Request) (w : Option Bool) → ((b : Bool) → w ≡ Some b → server ≡ true) → (class : ℕ) (priority : ℤ) →
      Reports_request q r w → HasPriority priority r → is_served q ≡ true → Some (Server class priority waiting) ≡ active_of server (Some class) r waiting
  served_shown q r w is class priority reports has served = grind arith

  no_class : (r : Option Request) → None ≡ active_of server None r waiting
  no_class x = grind arith

  no_request : (class : Option ℕ) (r : Option Request) → r ≡ None → None ≡ active_of server class r waiting
  no_request x r none = grind (arith, nat_tests, no_class r)

module _ (p : Image) (m : Parts) (s : State) (st : Refines (record { image = p; parts = m }) s) (n : ℕ) where
  reports_of : Reports_request (request_at m.active.table n) (requested s.cells n) (queued p s.cells n)
  reports_of = st.agrees.requests.stands.reports n

  abbrev server_there : Bool
  server_there = serves p (named s.cells n)

  abbrev waiting_there : ℕ
  waiting_there = length (service_of s.cells n).queue

  pub unasked_reported : None ≡ state_at m.active.table n → is_served (request_at m.active.table n) ≡ false → None ≡ active_answer p s.cells n
  unasked_reported none plain = grind (arith, nat_tests, no_request, none_asked, reports_of)

  pub classless_reported : None ≡ class_at m.cells n → None ≡ active_answer p s.cells n
  classless_reported none = grind (arith, nat_tests, no_class, class_named p m s st n)

  pub enlisted_reported : (class : ℕ) (priority status : ℤ) (state : Machine_state) →
      HasPriority priority (requested s.cells n) → Some state ≡ state_at m.active.table n → status_at m.active.table n ≡ Some status →
      Some class ≡ class_at m.cells n → Some (Active class priority (shown_phase (phase_of state)) status) ≡ active_answer p s.cells n
  enlisted_reported class priority status state has is at reported = asked_shown server_there waiting_there (request_at m.active.table n)
      (requested s.cells n) (queued p s.cells n) (serves_not p (named s.cells n) (service_of s.cells n)) class priority status state reports_of has is at
      ∙ ap (λ c. active_of server_there c (requested s.cells n) waiting_there) (reported ∙ class_named p m s st n)

  -- as much waits in the queue of the machine
  pub server_reported : (class many : ℕ) (priority : ℤ) → HasPriority priority (requested s.cells n) → is_served (request_at m.active.table n) ≡ true →
      many ≡ length (queue_at m.clients n) → Some class ≡ class_at m.cells n → Some (Server class priority many) ≡ active_answer p s.cells n
  server_reported class many priority has served is reported = grind (arith, length-map)

module _ (p : Image) (m : Parts) (s : State) (st : Refines (record { image = p; parts = m }) s) where
  -- an entry has the priority of the request of its object
  pub has_priority : (place : ℕ) (e : ScheduleEntry) → Some e ≡ slice_get m.active.priority_list.entries place → HasPriority e.priority (requested s.cells e.id)
  has_priority place e is = grind (arith, slice_get_within m.active.priority_list.entries place e, get_or_from_slice_get m.active.priority_list.entries place e e)

-- ---- all entries

abbrev pub names_of : Parts → List ℕ
names_of m = map (λ e. e.id) m.active.priority_list.entries

some_by : (priority : ℤ) (r : Option Request) → HasPriority priority r → IsSome r
some_by priority r has = grind arith

pub pairs_by : {A : Type 0} (R : ℕ → ℕ → Type 0) (f : A → ℕ) (xs : List A) → AllPairs (λ x y. R (f x) (f y)) xs → AllPairs R (map f xs)
pairs_by R f [] pairs = pairs-nil R
pairs_by R f (x ∷ xs) pairs = AllPairs-cons R (f x) (map f xs) (All-map (R (f x)) f xs (pairs-head (λ y z. R (f y) (f z)) x xs pairs))
    (pairs_by R f xs (pairs-tail (λ y z. R (f y) (f z)) x xs pairs))

-- who is asked in the state is enlisted, and has an entry
listed_by : (q : Option Machine_request) (r : Option Request) (w : Option Bool) → Reports_request q r w → IsSome r → IsSome q
listed_by q r w reports some = grind arith

at_contains : (n : ℕ) (xs : List ScheduleEntry) (i : ℕ) → IsAt (λ e. e.id) n xs i → Contains (map (λ e. e.id) xs) n
at_contains n _ _ (at_head x xs same) = (0, omega arith, same)
at_contains n _ _ (in_tail {i} x xs other rest) = let there = at_contains n xs i rest in let within = there.1 in (suc there.0, omega (arith, within), there.2)

-- each has a place on the list
abbrev pub IsListed : Parts → Type 0
IsListed m = (n : ℕ) → IsEnlisted m.active.table n → IsSome (place n m.active.priority_list)

module _ (m : MachineModel) (whole : IsListed m.parts) where
  -- they are the enlisted objects in the order of choice
  pub in_order : (s : State) → Refines m s → InOrderOfChoice s.cells (names_of m.parts)
  in_order s st = record {
    enlisted = All-map (λ n. IsSome (requested s.cells n)) (λ e. e.id) m.parts.active.priority_list.entries
        (λ k d within. some_by _ _ (st.agrees.requests.stands.priorities k d within));
    all = λ n some. let enlisted =
        listed_by (request_at m.parts.active.table n) (requested s.cells n) (queued m.image s.cells n) (st.agrees.requests.stands.reports n) some in
        let at = some_is (place n m.parts.active.priority_list) (whole n enlisted) in
        at_contains n m.parts.active.priority_list.entries at.0 (place-at (λ e. e.id) n m.parts.active.priority_list.entries at.0 at.1);
    order = pairs_by (λ n k. GoesBefore (requested s.cells n) (requested s.cells k)) (λ e. e.id) m.parts.active.priority_list.entries st.agrees.requests.stands.order;
  }

  -- what is told of the first so many
  abbrev pub reported_to : NameLists → State → ℕ → List Placed
  reported_to ns s n = gathered (λ k. active_placed ns m.image s (slice_get (names_of m.parts) k)) n

  all_reported : (ns : NameLists) (s : State) → reported_to ns s (length (names_of m.parts)) ≡ actives_placed ns m.image s (names_of m.parts)
  all_reported ns s = gathered_items (λ o. active_placed ns m.image s o) (names_of m.parts)

  pub actives_reported : (ns : NameLists) (before now : Option (List ℕ)) → Reports m (λ s. placed_by ns (reported_to ns s (length (names_of m.parts)))) before now →
      ReportsActives ns m before now
  actives_reported ns before now all = record { order = in_order; out = λ s st. all.out s st ∙ ap (λ xs. after before (placed_by ns xs)) (all_reported ns s) }

  pub actives_cut : (ns : NameLists) (fault : DebugFault) (failed : Bool) (before now : Option (List ℕ)) →
      ReportsPart m (λ s. placed_by ns (reported_to ns s (length (names_of m.parts)))) fault failed before now → ReportsActivesPart ns m fault failed before now
  actives_cut ns fault failed before now cut = record {
    reported = cut.reported;
    fails = cut.fails;
    order = in_order;
    out = λ s st. let sent = cut.out s st in (sent.0, sent.1 ∙ ap (λ xs. after before (take sent.0 (placed_by ns xs))) (all_reported ns s));
  }
