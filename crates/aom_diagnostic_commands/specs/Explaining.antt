-- What a command promises that explains its fault.
use Rattle.std.specs.Prelude.{ℕ, ◌≡◌, ◌≢◌, List, [], Result, Ok, Err, codes}
use Rattle.aom_diagnostics.specs.Entries.{entry_text}
use Rattle.aom_diagnostics.specs.Table.{word_texts}
use Rattle.aom_diagnostics.specs.declared.word.Unnumbered.TheVariants.{Text}
use Rattle.aom_commands.specs.Assembly.{IsFaulty, Makes}
use Rattle.aom_commands.specs.declared.status.ExitStatus.{ExitStatus}
use Rattle.aom_commands.specs.declared.status.ExitStatus.TheVariants.{CallRefused, Fault as Faulty}
use Rattle.aom_commands.specs.declared.faults.Fault.{Fault}
use Rattle.aom_commands.specs.declared.faults.Fault.TheVariants as faults
use Rattle.aom_commands.specs.Headline.{IsSilent, Says, Sent, ReportsFault, Reported}
use Rattle.aom_transcript.specs.Text.{ended}
use Rattle.aom_diagnostic_commands.specs.Explained.{Explains}
use Rattle.aom_diagnostic_commands.specs.declared.with_text.TextFault.{TextFault}
use Rattle.aom_diagnostic_commands.specs.declared.with_text.TextFault.TheVariants.{Asm, Other, Memory}

-- ---- explanations

-- a text that explains went out, or there was no memory for it, and that is told
pub data IsExplained (explains : List ℕ → Type 0) (errors : Sent) : Type 0 where
  explained : (said : List ℕ) → explains said → Says said errors → IsExplained explains errors
  wants_memory : ReportsFault faults.Memory errors → IsExplained explains errors

-- a line is told, and what explains it stands behind it
pub record ReportedAndExplained (reports : Sent → Type 0) (explains : List ℕ → Type 0) (errors : Sent) : Type 0 where
  -- the errors as they stood behind the line
  pub line : Sent
  pub begins : line.before ≡ errors.before
  pub reported : reports line
  pub explained : IsExplained explains (record { before = line.now; now = errors.now; failed = errors.failed })

-- a command answers as it does without an explanation: it has no fault and says nothing, or its fault is told, which is its answer, and explained behind it
pub data Explaining (answers : Sent → ExitStatus → Type 0) (explains : Fault → List ℕ → Type 0) (errors : Sent) (status : ExitStatus) : Type 0 where
  without : IsSilent errors → answers errors status → Explaining answers explains errors status
  behind : (fault : Fault) → (more : ReportedAndExplained (Reported fault status) (explains fault) errors) → answers more.line status → Explaining answers explains errors status

-- a status was answered and nothing said to the errors, or the fault was told and explained behind its line
abbrev pub AnsweredOrExplained : (explains : Fault → List ℕ → Type 0) → Result ExitStatus Fault → Sent → ExitStatus → Type 0
AnsweredOrExplained explains (Ok found) errors status = (status ≡ found) × IsSilent errors
AnsweredOrExplained explains (Err fault) errors status = ReportedAndExplained (Reported fault status) (explains fault) errors

-- ---- texts beside images

-- why a text is refused beside an image: it denotes none, or another one than the bytes spell. Want of memory is no reason
abbrev pub RefusesText : (text image : List ℕ) → TextFault → Type 0
RefusesText text image (Asm fault) = IsFaulty text fault
RefusesText text image Other = (bytes : List ℕ) × Makes text bytes × (bytes ≢ image)
RefusesText text image Memory = Unit {0}

-- how that is told: the first fault of the text with its line, or the line `text`
abbrev pub ReportsText : (text : List ℕ) → TextFault → ExitStatus → Sent → Type 0
ReportsText text (Asm fault) status errors = (status ≡ CallRefused) × ReportedAndExplained (ReportsFault (faults.Asm fault)) (Explains [] text (faults.Asm fault)) errors
ReportsText text Other status errors = (status ≡ CallRefused) × ReportedAndExplained (Says (ended (codes "text"))) (λ said. said ≡ entry_text (word_texts Text)) errors
ReportsText text Memory status errors = (status ≡ Faulty) × ReportedAndExplained (ReportsFault faults.Memory) (Explains [] [] faults.Memory) errors
