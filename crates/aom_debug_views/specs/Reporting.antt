-- What goes out of an inspection, and what a call says of it.
use Rattle.std.specs.Prelude.{◌≡◌, ℕ, zero, suc, Bool, true, List, [], ◌∷◌, ◌++◌, Option, Some, None, codes, take}
use Rattle.std.specs.List.{flat_map}
use Rattle.aom_transcript.specs.Text.{ended}
use Rattle.aom_semantics.specs.State.{State}
use Rattle.aom_machine_state.specs.Stands.{MachineModel, Refines}
use Rattle.aom_transcript.specs.Sinks.{after}
use Rattle.aom_debug_protocol.specs.declared.fault.DebugFault.{DebugFault}
use Rattle.aom_debug_protocol.specs.declared.fault.DebugFault.TheVariants.{WriteFault}
use Rattle.aom_debug_protocol.specs.declared.answer.Answer.{Answer}
use Rattle.aom_debug_protocol.specs.Answers.{answer_text}
use Rattle.aom_debug_symbols.specs.NameLists.{NameLists}
use Rattle.aom_debug_symbols.specs.Answers.{answer_by, statement_text}
use Rattle.aom_text.specs.declared.text.Statement.{Statement}

-- what the first so many give, in order
abbrev pub gathered : {A : Type 0} → (ℕ → List A) → ℕ → List A
gathered f zero = []
gathered f (suc n) = gathered f n ++ f n

-- one, or none
abbrev pub listed : {A : Type 0} → Option A → List A
listed None = []
listed (Some x) = x ∷ []

-- answers, each on its line
abbrev pub answers_text : List Answer → List ℕ
answers_text answers = flat_map (λ answer. ended (answer_text answer)) answers

-- answers by the names and the lines of a text, each on its line
abbrev pub answers_by : NameLists → List Answer → List ℕ
answers_by ns answers = flat_map (λ answer. ended (answer_by ns answer)) answers

-- a statement, if there is one, and the end of its line
abbrev pub tail_text : Option Statement → List ℕ
tail_text None = codes "\n"
tail_text (Some s) = statement_text s ++ codes "\n"

-- a beginning of a text is out, since the sink failed, and the fault says so
pub record IsCut (text : List ℕ) (fault : DebugFault) (failed : Bool) (before now : Option (List ℕ)) : Type 0 where
  pub reported : fault ≡ WriteFault
  pub fails : failed ≡ true
  pub sent : ℕ
  pub out : now ≡ after before (take sent text)

-- a text of each state that a machine stands for is out
pub record Reports (m : MachineModel) (text : State → List ℕ) (before now : Option (List ℕ)) : Type 0 where
  pub out : (s : State) → Refines m s → now ≡ after before (text s)

-- or a beginning of it, since the sink failed, and the fault says so
pub record ReportsPart (m : MachineModel) (text : State → List ℕ) (fault : DebugFault) (failed : Bool) (before now : Option (List ℕ)) : Type 0 where
  pub reported : fault ≡ WriteFault
  pub fails : failed ≡ true
  pub out : (s : State) → Refines m s → (sent : ℕ) × (now ≡ after before (take sent (text s)))
