-- What comes between dispatches, until an object or a server is dispatched, an event is told by a line, or the run ends.
use Rattle.std.specs.Prelude.{◌≡◌, ◌⊎◌, ◌<◌, ◌≤◌, ◌+◌, ◌-◌, ◌++◌, is_some, ℕ, Bool, true, false, All, List, [], Option, Some, None, length}
use Rattle.aom_semantics.specs.State.{State}
use Rattle.aom_semantics.specs.World.{IsBetween, Environment, Reaches, Timed, event_at, first_due, first_living}
use Rattle.aom_termination.specs.BudgetOwners.{budget_owner}
use Rattle.aom_transcript.specs.declared.event.TimedEvent.{TimedEvent}
use Rattle.aom_transcript.specs.declared.line.Line.{Line}
use Rattle.aom_transcript.specs.declared.line.Ending.{Ending}
use Rattle.aom_machine_state.specs.LineBuffer.{LineBuffer}
use Rattle.aom_machine.specs.Steps.{progress, timers}
use Rattle.aom_machine_state.specs.declared.progress.Progress.TheVariants.{Turned}
use Rattle.aom_run.specs.Calls.{EventInRange, NoneIsDue, Stands, RefinesWithNatives, natives_of}
use Rattle.aom_run.specs.declared.machine.HostedMachine.{HostedMachine}

-- what comes from outside of the image, where there are so many natives
abbrev pub observing : List ℕ → ℕ → (natives : ℕ) → List TimedEvent → Environment
observing refused limit natives events = record { refused = refused; limit = limit; natives = natives; events = events }

-- ---- what turns lead to

-- an object or a server is dispatched, or an event was told by a line, so that fewer events are to come; or the run is over
abbrev pub LeadTo : Environment → Option Ending → State → List Line → State → Type 0
LeadTo outside None s lines u =
    (length lines ≤ 1) × (s.rest.dispatches < outside.limit) × (u.rest.dispatches ≡ s.rest.dispatches)
    × ((is_some (budget_owner u.tasks) ≡ true) ⊎ (IsBetween u × (length outside.events - u.rest.delivered < length outside.events - s.rest.delivered)))
LeadTo outside (Some ending) s lines u = (lines ≡ []) × (u.rest.ended ≡ Some ending)

-- events are as a script has them, and the buffer has room for a line
abbrev pub CanObserve : List TimedEvent → LineBuffer → Type 0
CanObserve events lines = All (λ e. EventInRange e.event) events × (length lines.lines < lines.room)

module _ {X : Type 0} {B : X → Type 0} where
  -- ---- timers

  -- the timer that is due first is due by the clock
  abbrev pub IsDue : HostedMachine X B → Type 0
  IsDue m = (s : State) × RefinesWithNatives m s × ((x : Timed) × (first_due s.cells ≡ Some x) × (x.timer.due ≤ s.rest.clock))

  -- turns that write no line, at the same time, and dispatch nothing
  abbrev pub CompletesDue : HostedMachine X B → HostedMachine X B → Type 0
  CompletesDue old new =
      (s : State) → RefinesWithNatives old s
      → (u : State) × ((outside : Environment) → s.rest.dispatches < outside.limit → Reaches old.core.image outside s [] u)
      × (u.rest ≡ s.rest)
      × RefinesWithNatives new u

  -- ---- events

  -- it stands for a state between dispatches again, with the same image, beside as many natives
  pub record KeepsMachine (old new : HostedMachine X B) : Type 0 where
    pub stands : Stands new
    pub between : progress new.core ≡ Turned
    pub image : new.core.image ≡ old.core.image
    pub natives : natives_of new ≡ natives_of old

  -- the next event comes later than the machine's clock says, if there is one
  abbrev pub NoneHasCome : List TimedEvent → HostedMachine X B → Type 0
  NoneHasCome events m = (e : TimedEvent) → event_at events m.core.parts.rest.delivered ≡ Some e → m.core.parts.rest.clock < e.time

  -- it has come
  abbrev pub HasCome : List TimedEvent → HostedMachine X B → Type 0
  HasCome events m = (e : TimedEvent) × (event_at events m.core.parts.rest.delivered ≡ Some e) × (e.time ≤ m.core.parts.rest.clock)

  -- how many come yet
  abbrev pub to_come : List TimedEvent → HostedMachine X B → ℕ
  to_come events m = length events - m.core.parts.rest.delivered

  -- and how many timers run besides
  abbrev pub waiting : List TimedEvent → HostedMachine X B → ℕ
  waiting events m = timers m.core + to_come events m

  -- turns that write no line and dispatch nothing, where these events come
  abbrev pub Settles : List TimedEvent → HostedMachine X B → HostedMachine X B → Type 0
  Settles events old new =
      (s : State) → RefinesWithNatives old s
      → (u : State) × ((refused : List ℕ) (limit : ℕ) → s.rest.dispatches < limit → Reaches old.core.image (observing refused limit (natives_of old) events) s [] u)
      × (u.rest.dispatches ≡ s.rest.dispatches)
      × (s.rest.delivered ≤ u.rest.delivered)
      × RefinesWithNatives new u

  -- turns that dispatch nothing, of which the last hears an event and writes its line
  abbrev pub ReportsEnd : List TimedEvent → HostedMachine X B → LineBuffer → LineBuffer → HostedMachine X B → Type 0
  ReportsEnd events old reported now new =
      (s : State) → RefinesWithNatives old s
      → (lines : List Line) × (u : State) × ((refused : List ℕ) (limit : ℕ) → s.rest.dispatches < limit → Reaches old.core.image (observing refused limit (natives_of old) events) s lines u)
      × (now ≡ record reported { lines = reported.lines ++ lines })
      × (length lines ≤ 1)
      × (u.rest.dispatches ≡ s.rest.dispatches)
      × (IsBetween u × (length events - u.rest.delivered < length events - s.rest.delivered))
      × RefinesWithNatives new u

  -- something that the machine waits for has come
  abbrev pub IsLate : List TimedEvent → HostedMachine X B → Type 0
  IsLate events m = IsDue m ⊎ HasCome events m

  -- ---- natives

  -- an event is told by a line, or all that have come are heard and no timer is due
  abbrev pub ObservesAll : (reported : Bool) → List TimedEvent → HostedMachine X B → LineBuffer → LineBuffer → HostedMachine X B → Type 0
  ObservesAll true events old before now new = ReportsEnd events old before now new
  ObservesAll false events old before now new = (now ≡ before) × Settles events old new × NoneIsDue new × NoneHasCome events new

  -- each living native is polled in the turn at hand
  abbrev pub AllPolled : HostedMachine X B → Type 0
  AllPolled m = (s : State) → RefinesWithNatives m s → first_living s.killed (natives_of m - s.rest.polled) s.rest.polled ≡ None

  -- ---- turns

  -- from each state that the machine stands for a run comes to one that it then stands for, and the lines are added to the buffer
  abbrev pub TakesTurns : HostedMachine X B → Environment → Option Ending → LineBuffer → LineBuffer → HostedMachine X B → Type 0
  TakesTurns old outside result reported now new =
      (s : State) → RefinesWithNatives old s
      → (lines : List Line) × (u : State) × Reaches old.core.image outside s lines u
      × (now ≡ record reported { lines = reported.lines ++ lines })
      × LeadTo outside result s lines u
      × RefinesWithNatives new u
