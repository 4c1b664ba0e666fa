-- What a turn does of events and natives: in which order they come, and what a kill or a completion leaves.
use Rattle.std.specs.Prelude.{ℕ, ℤ, pos, negsuc, Bool, true, false, ◌≡◌, List, [], ◌∷◌, map, Option, None, Some}
use Rattle.aom_semantics.specs.Requests.{pending}
use Rattle.aom_semantics.specs.Places.{Active, Cell, Elsewhere, Idle, Issued, Phase, Request, Root}
use Rattle.aom_semantics.specs.State.{CompletedTwice, Goes, IsStuck, NullOrDead, Outcome, State, Stuck}
use Rattle.aom_semantics.specs.World.{Completes, Observes, Kills, Environment, Passes, Picks, Polls, Turning, Waits, nothing_observed, refusing, turning, turned}
use Rattle.aom_semantics.specs.Cases.Building.{a_cell, served, waiter}
use Rattle.aom_semantics.specs.Cases.Moves.{an_image}
use Rattle.aom_semantics.specs.Cases.Turns.{between, listed, named_so, owned_object_of, timed}
use Rattle.aom_transcript.specs.declared.event.Event.{Event}
use Rattle.aom_transcript.specs.declared.event.Event.TheVariants.{Kill, Report}
use Rattle.aom_transcript.specs.declared.event.TimedEvent.{TimedEvent}

-- ---- in which order things come

-- between dispatches, with two natives, these events, the natives before that number polled, and these killed
pub record Event_case : Type 0 where
  pub events : List TimedEvent
  pub killed : List ℕ
  pub polled : ℕ
  pub cells : List Cell
  pub comes : Turning

abbrev pub at_time : ℕ → Event → TimedEvent
at_time time event = record { time = time; event = event }

abbrev pub comes_with : Turning → List TimedEvent → List Cell → Event_case
comes_with comes events cells = record { events = events; killed = []; polled = 0; cells = cells; comes = comes }

abbrev pub polled_to : ℕ → Event_case → Event_case
polled_to n c = record c { polled = n }

abbrev pub outside_of : Event_case → Environment
outside_of c = record (refusing [] 9) { natives = 2; events = c.events }

abbrev pub state_in : Event_case → State
state_in c = let s = between c.cells in record s { killed = c.killed; rest = record s.rest { polled = c.polled } }

abbrev pub AllComeSo : List Event_case → Type 0
AllComeSo [] = Unit {0}
AllComeSo (c ∷ cs) = (turning (outside_of c) nothing_observed (state_in c) ≡ c.comes) × AllComeSo cs

-- a completed request that is waited for, and a timer that is due at that time
abbrev pub ready : Cell
ready = listed 1 0 (pos 0) Active (pos 0)

abbrev pub due_at : ℕ → Cell
due_at due = timed 2 1 (record { due = due; order = 0 })

-- an event that is due comes after the timers that are, and before the natives; a kill counts for a native that is there and lives
abbrev pub event_cases : List Event_case
event_cases =
    comes_with Observes (at_time 0 (Report 0 (pos 5)) ∷ []) (ready ∷ [])
    ∷ comes_with (Completes (named_so 2)) (at_time 0 (Report 0 (pos 5)) ∷ []) (due_at 0 ∷ [])
    ∷ comes_with Observes (at_time 0 (Report 0 (pos 5)) ∷ []) (due_at 1 ∷ [])
    ∷ comes_with (Kills 1) (at_time 0 (Kill 1) ∷ []) []
    ∷ comes_with Observes (at_time 0 (Kill 2) ∷ []) []
    ∷ record (comes_with Observes (at_time 0 (Kill 1) ∷ []) []) { killed = 1 ∷ [] }
    ∷ record (comes_with (Kills 0) (at_time 0 (Kill 0) ∷ []) []) { killed = 1 ∷ [] }
    ∷ comes_with (Polls 0 None) (at_time 1 (Kill 1) ∷ []) []
    ∷ []

-- each living native is polled once in a turn, in the order of their numbers, before an object is picked
abbrev pub poll_cases : List Event_case
poll_cases =
    comes_with (Polls 0 None) [] (ready ∷ [])
    ∷ polled_to 1 (comes_with (Polls 1 None) [] (ready ∷ []))
    ∷ polled_to 2 (comes_with (Picks (owned_object_of 1)) [] (ready ∷ []))
    ∷ record (comes_with (Polls 1 None) [] []) { killed = 0 ∷ [] }
    ∷ record (polled_to 1 (comes_with (Picks (owned_object_of 1)) [] (ready ∷ []))) { killed = 1 ∷ [] }
    ∷ []

-- where nothing signals time passes to what comes next
abbrev pub time_cases : List Event_case
time_cases =
    polled_to 2 (comes_with Waits [] [])
    ∷ polled_to 2 (comes_with (Passes 3) (at_time 3 (Kill 0) ∷ []) [])
    ∷ polled_to 2 (comes_with (Passes 3) (at_time 3 (Kill 0) ∷ []) (due_at 5 ∷ []))
    ∷ polled_to 2 (comes_with (Passes 2) (at_time 3 (Kill 0) ∷ []) (due_at 2 ∷ []))
    ∷ []

-- ---- what is left

abbrev pub request_of : Phase → ℤ → Option Request
request_of phase status = Some (record { order = 0; priority = pos 0; phase = phase; status = status; timer = None; token = None })

-- an object with its request so far and a session, of a class that the native 0 serves, and of another
abbrev pub with_session : Cell → Phase → ℤ → Cell
with_session c phase status = record c { request = request_of phase status; session = true }

abbrev pub of_native : Phase → ℤ → Cell
of_native phase status = with_session (a_cell 9 served (Elsewhere Root)) phase status

abbrev pub of_none : Phase → ℤ → Cell
of_none phase status = with_session (a_cell 9 waiter (Elsewhere Root)) phase status

abbrev pub cells_left : Outcome → List Cell
cells_left (Goes s) = s.cells
cells_left (IsStuck kind) = []

abbrev pub stuck_so : Outcome → Option Stuck
stuck_so (Goes s) = None
stuck_so (IsStuck kind) = Some kind

-- the status of each cell's request, and whether it has a session
abbrev pub reported_of : Option Request → Option (Phase × ℤ)
reported_of None = None
reported_of (Some r) = Some (r.phase, r.status)

abbrev pub reported : Cell → Option (Phase × ℤ) × Bool
reported c = (reported_of c.request, c.session)

-- a turn, and what it leaves of the cells, or how it is stuck
pub record Turn_leaves : Type 0 where
  pub turning : Turning
  pub cells : List Cell
  pub left : List (Option (Phase × ℤ) × Bool)
  pub stuck : Option Stuck

abbrev pub leaves_so : Turning → Cell → Phase → ℤ → Bool → Turn_leaves
leaves_so k c phase status session = record { turning = k; cells = c ∷ []; left = (Some (phase, status), session) ∷ []; stuck = None }

abbrev pub sticks_so : Turning → List Cell → Stuck → Turn_leaves
sticks_so k cells kind = record { turning = k; cells = cells; left = []; stuck = Some kind }

abbrev pub completes : ℕ → ℤ → Turning
completes cell code = Polls 0 (Some (record { cell = cell; code = code }))

abbrev pub outcome_of : Turn_leaves → Outcome
outcome_of c = turned an_image (between c.cells) c.turning

abbrev pub AllLeave : List Turn_leaves → Type 0
AllLeave [] = Unit {0}
AllLeave (c ∷ cs) = (map reported (cells_left (outcome_of c)) ≡ c.left) × (stuck_so (outcome_of c) ≡ c.stuck) × AllLeave cs

-- a kill completes what is outstanding at that native, and ends its sessions
abbrev pub kill_cases : List Turn_leaves
kill_cases =
    leaves_so (Kills 0) (of_native Active pending) Active (negsuc 14) false
    ∷ leaves_so (Kills 0) (of_native Issued pending) Issued (negsuc 14) false
    ∷ leaves_so (Kills 0) (of_native Active (pos 3)) Active (pos 3) false
    ∷ leaves_so (Kills 0) (of_native Idle pending) Idle pending false
    ∷ leaves_so (Kills 1) (of_native Active pending) Active pending true
    ∷ leaves_so (Kills 0) (of_none Active pending) Active pending true
    ∷ []

-- a completion is recorded, a pending status as KErrGeneral, of what is outstanding there and of nothing else
abbrev pub completion_cases : List Turn_leaves
completion_cases =
    leaves_so (completes 0 (pos 7)) (of_native Active pending) Active (pos 7) true
    ∷ leaves_so (completes 0 pending) (of_native Active pending) Active (negsuc 1) true
    ∷ leaves_so (Polls 0 None) (of_native Active pending) Active pending true
    ∷ sticks_so (completes 0 (pos 7)) (of_native Active (pos 3) ∷ []) CompletedTwice
    ∷ sticks_so (completes 0 (pos 7)) (of_native Idle pending ∷ []) CompletedTwice
    ∷ sticks_so (completes 0 (pos 7)) (of_none Active pending ∷ []) CompletedTwice
    ∷ sticks_so (Polls 1 (Some (record { cell = 0; code = pos 7 }))) (of_native Active pending ∷ []) CompletedTwice
    ∷ sticks_so (completes 1 (pos 7)) (of_native Active pending ∷ []) NullOrDead
    ∷ []

-- events and natives come in their order, and leave what they should
pub record EventNeedsFail : Type 0 where
  pub events : AllComeSo event_cases
  pub polls : AllComeSo poll_cases
  pub times : AllComeSo time_cases
  pub kills : AllLeave kill_cases
  pub completions : AllLeave completion_cases
