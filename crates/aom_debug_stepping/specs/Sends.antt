-- What a machine does whose lines go out.
use Rattle.std.specs.Prelude.{◌≡◌, ℕ, Bool, true, false, List, [], ◌++◌, Option, take}
use Rattle.aom_semantics.specs.State.{State}
use Rattle.aom_transcript.specs.declared.line.Line.{Line}
use Rattle.aom_transcript.specs.Text.{text_of}
use Rattle.aom_run.specs.Calls.{RefinesWithNatives}
pub use Rattle.aom_run.specs.declared.machine.HostedMachine.{HostedMachine}
use Rattle.aom_transcript.specs.Sinks.{after}

-- what leads from a state to another, with its lines
abbrev pub Leads : Type 1
Leads = State → List Line → State → Type 0

-- one after the other
abbrev pub Then : Leads → Leads → Leads
Then first later s lines u = (v : State) × (a b : List Line) × first s a v × later v b u × (lines ≡ a ++ b)

-- that, or nothing
abbrev pub IfSo : Bool → Leads → Leads
IfSo true leads s lines u = leads s lines u
IfSo false leads s lines u = (lines ≡ []) × (u ≡ s)

-- that in the states of which it is true, and nothing in others
abbrev pub Where : (State → Bool) → Leads → Leads
Where test leads s lines u = IfSo (test s) leads s lines u

module _ {X : Type 0} {B : X → Type 0} where
  -- from each state that the machine stands for this leads to one that it then stands for, and its lines are out
  abbrev pub Sends : Leads → HostedMachine X B → Option (List ℕ) → Option (List ℕ) → HostedMachine X B → Type 0
  Sends leads old before out new = (s : State) → RefinesWithNatives old s → (lines : List Line) × (u : State) × leads s lines u × (out ≡ after before (text_of lines)) × RefinesWithNatives new u

  -- or a beginning of its lines, where the sink failed
  abbrev pub Breaks : Leads → HostedMachine X B → Option (List ℕ) → Option (List ℕ) → HostedMachine X B → Type 0
  Breaks leads old before out new =
      (s : State) → RefinesWithNatives old s → (lines : List Line) × (u : State) × leads s lines u × ((sent : ℕ) × (out ≡ after before (take sent (text_of lines)))) × RefinesWithNatives new u
