-- What the calls of a machine with natives do, from each state that it stands for.
use Rattle.std.specs.Prelude.{ℕ, ℤ, suc, ◌≡◌, ◌≢◌, ◌≤◌, ◌+◌, ◌-◌, ◌++◌, Bool, true, false, List, length, Option, Some, None}
use Rattle.aom_machine_state.specs.LineBuffer.{LineBuffer}
use Rattle.aom_transcript.specs.declared.event.Event.{Event}
use Rattle.aom_transcript.specs.declared.event.Event.TheVariants.{Client}
use Rattle.aom_transcript.specs.declared.line.Line.{Line}
use Rattle.aom_semantics.specs.Places.{named}
use Rattle.aom_semantics.specs.State.{Goes, State}
use Rattle.aom_semantics.specs.World.{AnswersWell, Candidate, Completes, Completion, IsBetween, Environment, Picks, Polls, Timed, Turning, delivers, first_due, first_living, first_ready, has_signal, turned, written_by}
use Rattle.aom_machine_state.specs.declared.progress.Progress.{Progress}
use Rattle.aom_machine_state.specs.declared.progress.Progress.TheVariants.{Running, Turned}
use Rattle.aom_machine_state.specs.Progress.{progress_of}
use Rattle.aom_machine.specs.Clients.{IsInRange}
use Rattle.aom_machine.specs.Steps.{Quietly, Steps, progress, timers}
use Rattle.aom_machine_state.specs.Stands.{Refines as Core_stands}
use Rattle.aom_machine.specs.Turns.{Answers, NoneDue}
use Rattle.aom_run.specs.declared.machine.HostedMachine.{HostedMachine}
use Rattle.aom_natives.specs.Slots.{KeepsOthers}
use Rattle.aom_run.specs.Beside.{KeepsUnreported, StandsBeside}

-- an event as a script has it
abbrev pub EventInRange : Event → Type 0
EventInRange (Client client command) = IsInRange command
EventInRange _ = Unit {0}

module _ {X : Type 0} {B : X → Type 0} where
  abbrev pub RefinesWithNatives : HostedMachine X B → State → Type 0
  RefinesWithNatives m s = StandsBeside (λ l. l.ids) m.core m.natives.slots.items s

  abbrev pub Stands : HostedMachine X B → Type 0
  Stands m = (s : State) × RefinesWithNatives m s

  -- a state between dispatches
  abbrev pub StandsBetween : HostedMachine X B → Type 0
  StandsBetween m = Stands m × (progress m.core ≡ Turned)

  -- how many natives there are, the dead among them
  abbrev pub natives_of : HostedMachine X B → ℕ
  natives_of m = length m.natives.slots.items

  -- how many of them may be polled yet in the turn at hand
  abbrev pub to_poll : HostedMachine X B → ℕ
  to_poll m = natives_of m - m.core.parts.rest.polled

  -- no timer is due by the machine's clock
  abbrev pub NoneIsDue : HostedMachine X B → Type 0
  NoneIsDue m = (s : State) → Core_stands m.core s → NoneDue s

  -- one step or several, of which the first hears that and the others nothing
  abbrev pub SteppedOn : HostedMachine X B → ℤ → Progress → LineBuffer → LineBuffer → HostedMachine X B → State → Type 0
  SteppedOn old observed progress reported now new s =
      (lines : List Line) × (v u : State) × (q : Quietly old.core.image reported.refused observed s v) × Steps old.core.image reported.refused observed v lines u
      × (now ≡ record reported { lines = reported.lines ++ (q.0 ++ lines) })
      × (progress ≡ progress_of u)
      × RefinesWithNatives new u

  -- one step, which hears that
  abbrev pub SteppedOnce : HostedMachine X B → ℤ → Progress → LineBuffer → LineBuffer → HostedMachine X B → State → Type 0
  SteppedOnce old observed progress reported now new s =
      (lines : List Line) × (u : State) × Steps old.core.image reported.refused observed s lines u
      × (now ≡ record reported { lines = reported.lines ++ lines })
      × (progress ≡ progress_of u)
      × RefinesWithNatives new u

  -- where nothing is at hand, nothing changes, at no native either
  abbrev pub StaysIdle : HostedMachine X B → LineBuffer → LineBuffer → HostedMachine X B → Type 0
  StaysIdle old reported now new = progress old.core ≢ Running → (new ≡ old) × (now ≡ reported)

  -- a part of a turn, with its lines, to a state that the machine then stands for
  pub record Takes (old : HostedMachine X B) (s : State) (part : Turning) (reported now : LineBuffer) (new : HostedMachine X B) : Type 0 where
    pub between : IsBetween s
    pub state : State
    pub goes : turned old.core.image s part ≡ Goes state
    pub lines : now ≡ record reported { lines = reported.lines ++ written_by old.core.image s part }
    pub stands : RefinesWithNatives new state

  -- so from each state that it stands for
  abbrev pub TakesAll : HostedMachine X B → Turning → HostedMachine X B → Type 0
  TakesAll old part new = (reported : LineBuffer) (s : State) → RefinesWithNatives old s → Takes old s part reported reported new

  -- the timer that is due first completes the request of its object, if it is due by the clock
  abbrev pub Completed : HostedMachine X B → Bool → HostedMachine X B → Type 0
  Completed old true new = (reported : LineBuffer) (s : State) → RefinesWithNatives old s → (x : Timed) × (first_due s.cells ≡ Some x) × (x.timer.due ≤ s.rest.clock) × Takes old s (Completes x.object) reported reported new
  Completed old false new = (new ≡ old) × NoneIsDue old

  -- an event comes, and is for a native, or kills one, or is a command of a client, or changes nothing; with some name that is free for what is sent
  abbrev pub Delivered : HostedMachine X B → Event → LineBuffer → LineBuffer → HostedMachine X B → Type 0
  Delivered old event reported now new =
      (outside : Environment) → outside.natives ≡ natives_of old → (s : State) → RefinesWithNatives old s
      → (name : ℕ) × (named s.cells name ≡ None) × Takes old s (delivers outside name s event) reported now new

  -- so it does, and answers whether a line was written: none but then, and one at most; the image, how many natives there are, each that
  -- the event is not for, and what runs of timers stay
  pub record IsDelivered (old : HostedMachine X B) (event : Event) (answer : Bool) (before now : LineBuffer) (new : HostedMachine X B) : Type 0 where
    pub image : new.core.image ≡ old.core.image
    pub natives : KeepsUnreported event old.natives.slots.items new.natives.slots.items
    pub delivered : Delivered old event before now new
    pub rest : new.core.parts.rest ≡ record old.core.parts.rest { delivered = suc old.core.parts.rest.delivered }
    pub timers : timers new.core ≡ timers old.core
    pub reported : length now.lines ≤ length before.lines + 1
    pub quiet : answer ≡ false → now ≡ before
    pub none_due : answer ≡ false → NoneIsDue old → NoneIsDue new

  -- the native that comes next in the turn at hand is polled, alone, and answers what it may; there is none where all are
  abbrev pub Polled : (may : ℕ → Option (ℕ × ℤ) → Type 0) → HostedMachine X B → Bool → HostedMachine X B → Type 0
  Polled may old true new =
      (s : State) → RefinesWithNatives old s
      → (n : ℕ) × (answer : Option (ℕ × ℤ)) × (completion : Option Completion)
      × (first_living s.killed (natives_of old - s.rest.polled) s.rest.polled ≡ Some n)
      × may n answer
      × Answers s.cells answer completion
      × AnswersWell old.core.image s (Polls n completion)
      × ((reported : LineBuffer) → Takes old s (Polls n completion) reported reported new)
      × KeepsOthers old.natives.slots.items new.natives.slots.items n
  Polled may old false new = (new ≡ old) × ((s : State) → RefinesWithNatives old s → first_living s.killed (natives_of old - s.rest.polled) s.rest.polled ≡ None)

  -- the ready object or server that goes before all others is dispatched, with its line; there is none where nothing signals
  abbrev pub Picked : HostedMachine X B → Bool → LineBuffer → LineBuffer → HostedMachine X B → Type 0
  Picked old true reported now new = (s : State) → RefinesWithNatives old s → (x : Candidate) × (first_ready s.cells ≡ Some x) × (has_signal s.cells ≡ true) × Takes old s (Picks x.owned_object) reported now new
  Picked old false reported now new = (new ≡ old) × (now ≡ reported) × ((s : State) → RefinesWithNatives old s → has_signal s.cells ≡ false)
