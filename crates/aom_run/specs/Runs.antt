-- What a run of the machine tells of the checked machine. `reads` says how a line is written.
use Rattle.std.specs.Prelude.{◌≡◌, ◌≢◌, ◌<◌, ◌≤◌, ◌+◌, ℕ, length, Bool, true, List, [], ◌++◌, Option, take}
use Rattle.aom_image.specs.Image.{Image}
use Rattle.aom_semantics.specs.Places.{count_cells}
use Rattle.aom_semantics.specs.Moves.{IsOpen, step, written}
use Rattle.aom_semantics.specs.State.{Choice, Goes, State}
use Rattle.aom_semantics.specs.World.{boot_state, IsBusy, Run_of, Environment}
use Rattle.aom_transcript.specs.declared.line.Line.{Line}
use Rattle.aom_transcript.specs.declared.line.Ending.{Ending}
use Rattle.aom_transcript.specs.declared.line.Ending.TheVariants as endings
use Rattle.aom_machine_state.specs.LineBuffer.{LineBuffer, step_lines}
use Rattle.aom_transcript.specs.Naming.{text_by, transcript_by}
use Rattle.aom_transcript.specs.Sinks.{after}
use Rattle.aom_run.specs.declared.outcome.Outcome.{Outcome}
use Rattle.aom_run.specs.declared.outcome.Outcome.TheVariants.{Stopped, Waiting, MainLeft, Limit, Error, WriteFault}
use Rattle.aom_machine_state.specs.declared.progress.Progress.{Progress}
use Rattle.aom_machine_state.specs.declared.progress.Progress.TheVariants.{Running}
use Rattle.aom_machine_state.specs.Progress.{progress_of}
use Rattle.aom_run.specs.Calls.{RefinesWithNatives, natives_of}
use Rattle.aom_run.specs.declared.machine.HostedMachine.{HostedMachine}

-- moves one after another at which something is at hand, with their lines, where those requests are refused
pub data Moving (p : Image) (refused : List ℕ) (from : State) : List Line → State → Type 0 where
  begins : Moving p refused from [] from
  goes_on : {lines : List Line} {s u : State} (c : Choice) → Moving p refused from lines s → IsBusy s → IsOpen p refused c s → step p c s ≡ Goes u → Moving p refused from (lines ++ written p s) u

-- a run whose sink failed: a beginning of the transcript of a run is out
pub record CutShort (reads : Line → List ℕ) (p : Image) (outside : Environment) (before now : Option (List ℕ)) : Type 0 where
  pub lines : List Line
  pub state : State
  pub ending : Ending
  pub run : Run_of p outside lines state ending
  pub sent : ℕ
  pub out : now ≡ after before (take sent (transcript_by reads lines ending (count_cells state.cells)))

module _ {X : Type 0} {B : X → Type 0} where
  -- a machine that has not run: it stands for the boot state
  abbrev pub IsFresh : HostedMachine X B → Type 0
  IsFresh m = RefinesWithNatives m (boot_state m.core.image)

  -- it has the same image, beside as many natives
  pub record KeepsImage (old new : HostedMachine X B) : Type 0 where
    pub image : new.core.image ≡ old.core.image
    pub natives : natives_of new ≡ natives_of old

  -- the buffer has few lines, and room for many and for those of one step more
  abbrev pub HasRoom : HostedMachine X B → LineBuffer → Type 0
  HasRoom m lines = (length lines.lines < 64) × (64 + step_lines m.core.image.header.messages ≤ lines.room)

  -- from each state that the machine stands for moves lead to one that it then stands for, and their lines are added to the buffer
  abbrev pub Filled : HostedMachine X B → Progress → LineBuffer → LineBuffer → HostedMachine X B → Type 0
  Filled old progress reported now new =
      (s : State) → RefinesWithNatives old s
      → (lines : List Line) × (u : State) × Moving old.core.image reported.refused s lines u
      × (now ≡ record reported { lines = reported.lines ++ lines })
      × (progress ≡ progress_of u)
      × RefinesWithNatives new u

  -- so until nothing is at hand: what was in the buffer is out, and their lines are out after it
  abbrev pub Sent : (Line → List ℕ) → HostedMachine X B → Progress → LineBuffer → LineBuffer → Option (List ℕ) → Option (List ℕ) → HostedMachine X B → Type 0
  Sent reads old progress reported now before out new =
      (s : State) → RefinesWithNatives old s
      → (lines : List Line) × (u : State) × Moving old.core.image reported.refused s lines u
      × (now ≡ record reported { lines = [] })
      × (out ≡ after before (text_by reads (reported.lines ++ lines)))
      × (progress ≡ progress_of u)
      × (progress ≢ Running)
      × RefinesWithNatives new u

  -- or a beginning of all that, where the sink failed
  abbrev pub CutOff : (Line → List ℕ) → HostedMachine X B → LineBuffer → Option (List ℕ) → Option (List ℕ) → HostedMachine X B → Type 0
  CutOff reads old reported before out new =
      (s : State) → RefinesWithNatives old s
      → (lines : List Line) × (u : State) × Moving old.core.image reported.refused s lines u
      × ((sent : ℕ) × (out ≡ after before (take sent (text_by reads (reported.lines ++ lines)))))
      × RefinesWithNatives new u

  -- a run to its end: the machine stands for its last state, and its lines are out
  pub record Ended (reads : Line → List ℕ) (p : Image) (outside : Environment) (ending : Ending) (before now : Option (List ℕ)) (new : HostedMachine X B) : Type 0 where
    pub lines : List Line
    pub state : State
    pub run : Run_of p outside lines state ending
    pub stands : RefinesWithNatives new state
    pub out : now ≡ after before (text_by reads lines)

  -- and its last line too
  pub record Reported (reads : Line → List ℕ) (p : Image) (outside : Environment) (ending : Ending) (before now : Option (List ℕ)) (new : HostedMachine X B) : Type 0 where
    pub lines : List Line
    pub state : State
    pub run : Run_of p outside lines state ending
    pub stands : RefinesWithNatives new state
    pub out : now ≡ after before (transcript_by reads lines ending (count_cells state.cells))

  -- what an outcome says of the run
  abbrev pub Ran : (Line → List ℕ) → HostedMachine X B → Environment → Outcome → Bool → Option (List ℕ) → Option (List ℕ) → HostedMachine X B → Type 0
  Ran reads old outside Stopped failed before now new = Reported reads old.core.image outside endings.Stopped before now new
  Ran reads old outside Waiting failed before now new = Reported reads old.core.image outside endings.Waiting before now new
  Ran reads old outside (MainLeft code) failed before now new = Reported reads old.core.image outside (endings.MainLeft code) before now new
  Ran reads old outside Limit failed before now new = Reported reads old.core.image outside endings.Limit before now new
  Ran reads old outside (Error answer) failed before now new = Reported reads old.core.image outside (endings.Error answer) before now new
  Ran reads old outside WriteFault failed before now new = (failed ≡ true) × CutShort reads old.core.image outside before now
