-- The world round the dispatches: how a run begins, goes on from turn to turn, and ends.
use Rattle.std.specs.Prelude.{ℕ, zero, suc, ℤ, Bool, true, false, not, ◌&&◌, ◌||◌, ◌-◌, ◌==◌, cond, min, nat_le, nat_lt, int_lt, length, ◌≡◌, List, [], ◌∷◌, ◌++◌, Option, Some, None, map}
use Rattle.std.specs.Ordering.{int_eq}
use Rattle.aom_image.specs.Image.{Image}
use Rattle.aom_image.specs.declared.method.Role.TheVariants.{Run as Handles, Accept as Accepts_role, Service as Attends}
use Rattle.aom_image.specs.declared.method.Thing.{Thing}
use Rattle.aom_image.specs.declared.method.Thing.TheVariants.{Object as An_object_of, Message}
use Rattle.aom_link_conditions.specs.Roles.{main_of}
use Rattle.aom_semantics.specs.Clients.{client_count, commanded, refusal}
use Rattle.aom_semantics.specs.Lines.{refusal_line, serve_line}
use Rattle.aom_semantics.specs.Servers.{is_asked_for, is_server, reserved, taken_first}
use Rattle.aom_semantics.specs.Destruction.{begun}
use Rattle.aom_semantics.specs.Requests.{completed_with, is_active, is_idle, is_unsettled, on_request, part_of, pending, recorded, status_of, taken_up, timed_out}
use Rattle.aom_semantics.specs.Natives.{all_detached, is_dead, is_outstanding_at}
use Rattle.aom_semantics.specs.Places.{Cell, Object, Request, Timer, named, requested, set_request, Asked, Connect_of, Message_of, Close_of, Elsewhere, Session, In_service, Queued, Going, held, moved, service_of, word_field}
use Rattle.aom_semantics.specs.State.{AtRoot, Inside, frame_of, OwnedObject, Task, Run, Trapped, Dispatched, Of_main, Of_object, A_mark, State, Choice, Outcome, Goes, IsStuck, CompletedTwice, NullOrDead, Stray, WrongKind, guarded, Frame, Stage, Accepts, Serves, Disconnects, Of_server, FitsWord}
use Rattle.aom_semantics.specs.Moves.{step, written, IsOpen}
use Rattle.aom_transcript.specs.declared.event.Event.{Event}
use Rattle.aom_transcript.specs.declared.event.ClientCommand.{ClientCommand}
use Rattle.aom_transcript.specs.declared.event.Event.TheVariants.{Client, Kill, Report}
use Rattle.aom_transcript.specs.declared.event.TimedEvent.{TimedEvent}
use Rattle.aom_transcript.specs.declared.line.Line.{Line}
use Rattle.aom_transcript.specs.declared.line.Line.TheVariants.{Killed, Run as Run_line}
use Rattle.aom_transcript.specs.declared.line.Ending.{Ending}
use Rattle.aom_transcript.specs.declared.line.Ending.TheVariants.{Limit, Waiting}

-- what comes from outside of the image
pub record Environment : Type 0 where
  -- the numbers of the allocation requests that are refused
  pub refused : List ℕ
  -- after so many dispatches of objects the run ends
  pub limit : ℕ
  -- how many natives there are
  pub natives : ℕ
  -- what comes from outside during the run, in its order
  pub events : List TimedEvent

-- nothing but that
abbrev pub refusing : List ℕ → ℕ → Environment
refusing numbers limit = record { refused = numbers; limit = limit; natives = 0; events = [] }

-- main runs under the trap of its dispatch
abbrev pub main_tasks : Option ℕ → List Task
main_tasks None = []
main_tasks (Some m) = Run (frame_of m AtRoot 1) ∷ Trapped ∷ Dispatched Of_main ∷ []

-- time 0, main at hand, and no cell
abbrev pub boot_state : Image → State
boot_state p =
    record {
      cells = [];
      tasks = main_tasks (main_of p);
      items = A_mark ∷ [];
      rest = record { clock = 0; requests = 0; steps = 0; dispatches = 0; announced = false; stopped = false; delivered = 0; polled = 0; ended = None };
      killed = [];
      clients = [];
    }

-- some task is at hand
abbrev pub IsBusy : State → Type 0
IsBusy s = (task : Task) × (tasks : List Task) × (s.tasks ≡ task ∷ tasks)

-- nothing is at hand, and the run is not over
pub record IsBetween (s : State) : Type 0 where
  pub idle : s.tasks ≡ []
  pub going : s.rest.ended ≡ None

-- ---- timers

-- an object whose timer runs
pub record Timed : Type 0 where
  pub object : Object
  pub timer : Timer

-- due earlier, or at the same time and begun earlier
abbrev pub is_sooner : Timer → Timer → Bool
is_sooner a b = nat_lt a.due b.due || ((a.due == b.due) && nat_lt a.order b.order)

abbrev pub sooner : Timed → Option Timed → Timed
sooner a None = a
sooner a (Some b) = cond (is_sooner b.timer a.timer) b a

abbrev pub among_timers : Object → Option Request → Option Timed → Option Timed
among_timers o None others = others
among_timers o (Some r) others = with_timer r.timer
  where
    with_timer : Option Timer → Option Timed
    with_timer None = others
    with_timer (Some t) = Some (sooner (record { object = o; timer = t }) others)

-- the timer that is due first
abbrev pub first_due : List Cell → Option Timed
first_due [] = None
first_due (c ∷ cs) = among_timers c.object c.request (first_due cs)

-- ---- signals

-- a request is completed, and its signal is not taken
abbrev pub is_signalled : Request → Bool
is_signalled r = not (is_idle r.phase) && not (int_eq r.status pending)

-- so it is, or something waits in the queue of a server that is enlisted
abbrev pub signals : Cell → Option Request → Bool
signals c None = false
signals c (Some r) = is_signalled r || is_asked_for c

abbrev pub has_signal : List Cell → Bool
has_signal [] = false
has_signal (c ∷ cs) = signals c c.request || has_signal cs

-- how many signals there are
abbrev pub signal_count : List Cell → ℕ
signal_count [] = 0
signal_count (c ∷ cs) = cond (signals c c.request) (suc (signal_count cs)) (signal_count cs)

-- an object that waits is ready once its request is completed
abbrev pub is_ready : Request → Bool
is_ready r = is_active r.phase && not (int_eq r.status pending)

-- an object that is ready
pub record Candidate : Type 0 where
  pub owned_object : OwnedObject
  pub request : Request

-- of a higher priority, or of the same and enlisted earlier
abbrev pub goes_before : Request → Request → Bool
goes_before a b = int_lt b.priority a.priority || (int_eq a.priority b.priority && nat_lt a.order b.order)

abbrev pub before_others : Candidate → Option Candidate → Candidate
before_others a None = a
before_others a (Some b) = cond (goes_before b.request a.request) b a

-- and a server while something waits in its queue
abbrev pub goes_now : Cell → Request → Bool
goes_now c r = is_ready r || is_asked_for c

abbrev pub among_ready : Cell → Option Request → Option Candidate → Option Candidate
among_ready c None others = others
among_ready c (Some r) others = cond (goes_now c r) (Some (before_others (record { owned_object = record { object = c.object; place = c.owner }; request = r }) others)) others

-- the ready object that goes before all others
abbrev pub first_ready : List Cell → Option Candidate
first_ready [] = None
first_ready (c ∷ cs) = among_ready c c.request (first_ready cs)

-- how many enlisted objects and servers are ready
abbrev pub stands_ready : Cell → Option Request → Bool
stands_ready c None = false
stands_ready c (Some r) = goes_now c r

abbrev pub ready_count : List Cell → ℕ
ready_count [] = 0
ready_count (c ∷ cs) = cond (stands_ready c c.request) (suc (ready_count cs)) (ready_count cs)

-- no request is made that is not waited for, and none is being cancelled
abbrev pub is_settled : Option Request → Bool
is_settled None = true
is_settled (Some r) = not (is_unsettled r.phase)

abbrev pub AllSettled : List Cell → Type 0
AllSettled [] = Unit {0}
AllSettled (c ∷ cs) = (is_settled c.request ≡ true) × AllSettled cs

-- ---- events and natives

-- the event that comes next
abbrev pub event_at : List TimedEvent → ℕ → Option TimedEvent
event_at [] k = None
event_at (e ∷ es) zero = Some e
event_at (e ∷ es) (suc k) = event_at es k

abbrev pub next_event : Environment → State → Option TimedEvent
next_event outside s = event_at outside.events s.rest.delivered

-- there is a native of that number, and it is not killed
abbrev pub lives : Environment → State → ℕ → Bool
lives outside s n = nat_lt n outside.natives && not (is_dead s.killed n)

-- the first that is not killed, of so many from that number on
abbrev pub first_living : List ℕ → (many n : ℕ) → Option ℕ
first_living killed zero n = None
first_living killed (suc many) n = cond (is_dead killed n) (first_living killed many (suc n)) (Some n)

-- the native that is polled next in the turn at hand
abbrev pub next_native : Environment → State → Option ℕ
next_native outside s = first_living s.killed (outside.natives - s.rest.polled) s.rest.polled

-- what a native that is polled completes: the request of a cell, counted from the newest, with a code
pub record Completion : Type 0 where
  pub cell : ℕ
  pub code : ℤ

abbrev pub cell_at : List Cell → ℕ → Option Cell
cell_at [] k = None
cell_at (c ∷ cs) zero = Some c
cell_at (c ∷ cs) (suc k) = cell_at cs k

-- ---- turns

-- what a turn hears: what the native that is polled completes, and a name for what the turn makes
pub record Observed : Type 0 where
  pub completion : Option Completion
  pub name : ℕ

-- nothing is completed
abbrev pub nothing_observed : Observed
nothing_observed = record { completion = None; name = 0 }

-- what a turn does
pub data Turning : Type 0 where
  -- the limit is reached
  Cuts : Turning
  -- the timer of an object completes its request
  Completes : Object → Turning
  -- an event changes nothing here: it is for a native, kills none, or is of no client
  Observes : Turning
  -- an event kills a native
  Kills : (native : ℕ) → Turning
  -- a native is polled, and completes that, or nothing
  Polls : (native : ℕ) → Option Completion → Turning
  -- a client's command, with a name for what it sends
  Executes : (client : ℕ) → ClientCommand → (name : ℕ) → Turning
  -- an object or a server is dispatched
  Picks : OwnedObject → Turning
  -- a signal, and no object is ready
  Strays : Turning
  -- time passes until a timer is due or an event comes
  Passes : (time : ℕ) → Turning
  -- for nothing
  Waits : Turning

-- the nearer of two times, where there are any
abbrev pub nearer : Option ℕ → Option ℕ → Option ℕ
nearer None b = b
nearer (Some a) None = Some a
nearer (Some a) (Some b) = Some (min a b)

abbrev pub due_of : Option Timed → Option ℕ
due_of None = None
due_of (Some x) = Some x.timer.due

abbrev pub time_of : Option TimedEvent → Option ℕ
time_of None = None
time_of (Some e) = Some e.time

-- when something comes next
abbrev pub next_time : Environment → State → Option ℕ
next_time outside s = nearer (due_of (first_due s.cells)) (time_of (next_event outside s))

-- nothing signals
abbrev pub passes : Option ℕ → Turning
passes None = Waits
passes (Some time) = Passes time

-- all natives are polled
abbrev pub picks : Bool → Option Candidate → Option ℕ → Turning
picks true None next = Strays
picks true (Some x) next = Picks x.owned_object
picks false ready next = passes next

-- all events that are due are delivered
abbrev pub polls : Option ℕ → Option Completion → Turning → Turning
polls None answer after = after
polls (Some n) answer after = Polls n answer

-- with a name for a message that is sent
abbrev pub delivers : Environment → ℕ → State → Event → Turning
delivers outside name s (Report n word) = Observes
delivers outside name s (Kill n) = cond (lives outside s n) (Kills n) Observes
-- a number that is no client's is heard alone
delivers outside name s (Client c command) = cond (nat_lt c client_count) (Executes c command name) Observes

-- all timers that are due have completed their requests
abbrev pub by_event : Environment → ℕ → State → Option TimedEvent → Turning → Turning
by_event outside name s None after = after
by_event outside name s (Some e) after = cond (nat_le e.time s.rest.clock) (delivers outside name s e.event) after

abbrev pub by_timer : State → Option Timed → Turning → Turning
by_timer s None after = after
by_timer s (Some x) after = cond (nat_le x.timer.due s.rest.clock) (Completes x.object) after

-- timers that are due come first, then events, then each native once, then signals, then time
abbrev pub turning : Environment → Observed → State → Turning
turning outside observed s =
    cond (nat_le outside.limit s.rest.dispatches) Cuts
    (by_timer s (first_due s.cells)
    (by_event outside observed.name s (next_event outside s)
    (polls (next_native outside s) observed.completion
    (picks (has_signal s.cells) (first_ready s.cells) (next_time outside s)))))

-- a native that is polled completes what is outstanding at it, with a word
abbrev pub AnswersWell : Image → State → Turning → Type 0
AnswersWell p s (Polls n (Some a)) = (c : Cell) × (cell_at s.cells a.cell ≡ Some c) × (is_outstanding_at p n c ≡ true) × FitsWord a.code
AnswersWell p s _ = Unit {0}

-- a native that is polled completes what is outstanding at it, and the name is free
pub record ObservesWell (p : Image) (outside : Environment) (observed : Observed) (s : State) : Type 0 where
  pub completion : AnswersWell p s (turning outside observed s)
  pub name : named s.cells observed.name ≡ None

abbrev pub ends_as : Ending → State → State
ends_as ending s = record s { rest = record s.rest { ended = Some ending } }

-- the object with another request
abbrev pub with_request : (Request → Request) → Object → List Cell → List Cell
with_request f o cs = set_request o.name (on_request f (requested cs o.name)) cs

-- its method runs under the trap of its dispatch
abbrev pub run_tasks : ℕ → OwnedObject → ℕ → List Task
run_tasks m x height = Run (frame_of m (Inside x.object x.place) height) ∷ Trapped ∷ Dispatched (Of_object x) ∷ []

-- its signal is taken, and it is idle as its dispatch begins, which has taken no step
abbrev pub dispatched : Option ℕ → OwnedObject → State → Outcome
dispatched None x s = IsStuck WrongKind
dispatched (Some m) x s =
    Goes (record s {
      cells = with_request taken_up x.object s.cells;
      tasks = run_tasks m x (length (A_mark ∷ s.items));
      items = A_mark ∷ s.items;
      rest = record s.rest { steps = 0; polled = 0 };
    })

-- one event more is delivered
abbrev pub observed_one : State → State
observed_one s = record s { rest = record s.rest { delivered = suc s.rest.delivered } }

-- the native is killed
abbrev pub without_native : Image → ℕ → State → State
without_native p n s = record s { cells = all_detached p n s.cells; killed = s.killed ++ n ∷ [] }

-- the natives up to this one are polled
abbrev pub past_native : ℕ → State → State
past_native n s = record s { rest = record s.rest { polled = suc n } }

-- what a cell has outstanding is completed with that code
abbrev pub answered_by : Image → ℕ → Option Cell → ℤ → State → Outcome
answered_by p n None code s = IsStuck NullOrDead
answered_by p n (Some c) code s = guarded ((is_outstanding_at p n c, CompletedTwice) ∷ []) (past_native n (record s { cells = with_request (completed_with (recorded code)) c.object s.cells }))

abbrev pub polled : Image → ℕ → Option Completion → State → Outcome
polled p n None s = Goes (past_native n s)
polled p n (Some a) s = answered_by p n (cell_at s.cells a.cell) a.code s

-- ---- the dispatch of a server

-- the first of its queue is taken, and no step is counted yet
abbrev pub taken_from : ℕ → State → State
taken_from n s = record s { cells = reserved taken_first n s.cells; rest = record s.rest { steps = 0; polled = 0 } }

-- a method of the server, or of a session with it, runs under the trap of the dispatch
abbrev pub serving : OwnedObject → ℕ → Stage → Frame → State → State
serving x client stage fr s = record s { tasks = Run fr ∷ Trapped ∷ Dispatched (Of_server x client stage) ∷ []; items = A_mark ∷ s.items }

abbrev pub accepting : Option ℕ → OwnedObject → ℕ → State → Outcome
accepting None x client s = IsStuck WrongKind
accepting (Some m) x client s = Goes (serving x client Accepts (frame_of m (Inside x.object x.place) (length (A_mark ∷ s.items))) s)

-- the five words of a message
abbrev pub message_words : List Cell → ℕ → List (Option ℤ)
message_words cs n = map (λ w. Some (word_field cs n w)) (0 ∷ 1 ∷ 2 ∷ 3 ∷ 4 ∷ [])

abbrev pub attending : Option ℕ → OwnedObject → ℕ → Object → ℕ → State → Outcome
attending None x client o m s = IsStuck WrongKind
attending (Some method) x client o m s =
    Goes (serving x client (Serves o)
    (record (frame_of method (Inside o (Elsewhere (Session x.object.name client))) (length (A_mark ∷ s.items))) { words = message_words s.cells m })
    (record s { cells = moved (Elsewhere (Queued x.object.name m)) (Elsewhere In_service) s.cells }))

-- the message is served by the session of its client
abbrev pub attended : Image → OwnedObject → ℕ → Option Object → ℕ → State → Outcome
attended p x client None m s = IsStuck NullOrDead
attended p x client (Some o) m s = attending (part_of p Attends o.thing) x client o m s

-- the session goes, with no trap
abbrev pub parting_with : Image → OwnedObject → ℕ → Option Object → State → Outcome
parting_with p x client None s = IsStuck NullOrDead
parting_with p x client (Some o) s =
    let below = Dispatched (Of_server x client Disconnects) ∷ [] in
    Goes (record s { cells = moved (Elsewhere (Session x.object.name client)) (Going (length below)) s.cells; tasks = begun p o (length s.items) below })

abbrev pub serves_first : Image → OwnedObject → List Asked → State → Outcome
serves_first p x [] s = IsStuck Stray
serves_first p x (Connect_of c ∷ es) s = accepting (part_of p Accepts_role x.object.thing) x c (taken_from x.object.name s)
serves_first p x (Message_of c m ∷ es) s = attended p x c (held s.cells (Elsewhere (Session x.object.name c))) m (taken_from x.object.name s)
serves_first p x (Close_of c ∷ es) s = parting_with p x c (held s.cells (Elsewhere (Session x.object.name c))) (taken_from x.object.name s)

-- an object is dispatched, or a server
abbrev pub picked : Image → OwnedObject → State → Outcome
picked p x s = cond (is_server p x.object.thing) (serves_first p x (service_of s.cells x.object.name).queue s) (dispatched (part_of p Handles x.object.thing) x s)

abbrev pub turned : Image → State → Turning → Outcome
turned p s Cuts = Goes (ends_as Limit s)
turned p s (Completes o) = Goes (record s { cells = with_request timed_out o s.cells })
turned p s Observes = Goes (observed_one s)
turned p s (Kills n) = Goes (without_native p n (observed_one s))
turned p s (Polls n answer) = polled p n answer s
turned p s (Executes client command name) = Goes (commanded p client (observed_one s) command name)
turned p s (Picks x) = picked p x s
turned p s Strays = IsStuck Stray
turned p s (Passes time) = Goes (record s { rest = record s.rest { clock = time; polled = 0 } })
turned p s Waits = Goes (ends_as Waiting s)

abbrev pub turn : Image → Environment → Observed → State → Outcome
turn p outside observed s = turned p s (turning outside observed s)

-- the line of a dispatch: its time, the class of its object, and the status with which its request is completed
abbrev pub run_line : State → Object → List Line
run_line s o = of_thing o.thing
  where
    of_thing : Thing → List Line
    of_thing (An_object_of c) = Run_line s.rest.clock c (status_of (requested s.cells o.name)) ∷ []
    of_thing Message = []

-- and of that of a server
abbrev pub pick_line : Image → State → Object → List Line
pick_line p s o = cond (is_server p o.thing) (serve_line s.rest.clock o.thing (service_of s.cells o.name).queue) (run_line s o)

abbrev pub written_by : Image → State → Turning → List Line
written_by p s (Picks x) = pick_line p s x.object
written_by p s (Kills n) = Killed n ∷ []
written_by p s (Executes c command name) = refusal_line c (refusal p c s command)
written_by p s _ = []

-- whatever is heard
abbrev pub written_turn : Image → Environment → State → List Line
written_turn p outside s = written_by p s (turning outside nothing_observed s)

-- the states that a run comes to, with the lines that it has written by then
pub data Reaches (p : Image) (outside : Environment) (from : State) : List Line → State → Type 0 where
  begins : Reaches p outside from [] from
  moves : {lines : List Line} {s u : State} (c : Choice) → Reaches p outside from lines s → IsBusy s → IsOpen p outside.refused c s → step p c s ≡ Goes u → Reaches p outside from (lines ++ written p s) u
  turns : {lines : List Line} {s u : State} (observed : Observed) → Reaches p outside from lines s → IsBetween s → ObservesWell p outside observed s → turn p outside observed s ≡ Goes u → Reaches p outside from (lines ++ written_turn p outside s) u

-- a run of the image from its boot, and how it ended
pub record Run_of (p : Image) (outside : Environment) (lines : List Line) (s : State) (ending : Ending) : Type 0 where
  pub reaches : Reaches p outside (boot_state p) lines s
  pub ended : s.rest.ended ≡ Some ending
