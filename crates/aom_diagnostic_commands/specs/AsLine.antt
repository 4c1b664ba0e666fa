-- What a command promises that tells its fault in one line with its place in the text that its image is of.
use Rattle.std.specs.Prelude.{ℕ, ◌≡◌, List, Option, Some, None, Result, Ok, Err, codes}
use Rattle.aom_image.specs.Image.{Image}
use Rattle.aom_link_conditions.specs.Places.{PlaceOf}
use Rattle.aom_link_conditions.specs.declared.fault.LinkFault.{LinkFault}
use Rattle.aom_link_conditions.specs.declared.place.LinkPlace.{LinkPlace}
use Rattle.aom_commands.specs.Acceptable.{IsSerialized}
use Rattle.aom_diagnostics.specs.Lines.{budget_line, as_line_text, refusal_line}
use Rattle.aom_diagnostics.specs.Linking.{link_line}
use Rattle.aom_diagnostics.specs.Table.{word_texts}
use Rattle.aom_diagnostics.specs.declared.word.Unnumbered.TheVariants.{Text}
use Rattle.aom_commands.specs.Headline.{IsSilent, Says, Sent, ReportsFault, Reported}
use Rattle.aom_commands.specs.Status.{fault_line, status_of}
use Rattle.aom_commands.specs.declared.status.ExitStatus.{ExitStatus}
use Rattle.aom_commands.specs.declared.status.ExitStatus.TheVariants.{CallRefused, Fault as Faulty}
use Rattle.aom_commands.specs.declared.faults.Fault.{Fault}
use Rattle.aom_commands.specs.declared.faults.Fault.TheVariants.{Asm, Link, Verify, Budget, Memory}
use Rattle.aom_transcript.specs.Text.{ended}
use Rattle.aom_verify.specs.declared.refusal.Refusal.{Refusal}
use Rattle.aom_verify.specs.declared.refusal.Refusal.TheVariants as refusals
use Rattle.aom_diagnostic_commands.specs.Explained.{texts_of}
use Rattle.aom_diagnostic_commands.specs.declared.with_text.TextFault.{TextFault}
use Rattle.aom_diagnostic_commands.specs.declared.with_text.TextFault.TheVariants as with_text

-- the line of a text in which a refusal is
abbrev pub refusal_place : List ℕ → Refusal → Option ℕ
refusal_place text refusals.OutOfMemory = None
refusal_place text (refusals.Refused method place why) = refusal_line text method place

-- and another fault of the text or of its image, where it has one
abbrev pub fault_place : List ℕ → Fault → Option ℕ
fault_place text (Asm fault) = Some fault.line
fault_place text (Verify refusal) = refusal_place text refusal
fault_place text (Budget fault) = budget_line text fault
fault_place text _ = None

-- of the place where an image fails a link condition
abbrev pub place_line : List ℕ → Option LinkPlace → Option ℕ
place_line text None = None
place_line text (Some place) = link_line text place

-- the line of a text in which its image fails a fault's condition
pub record LinesLink (p : Image) (text : List ℕ) (fault : LinkFault) (line : Option ℕ) : Type 0 where
  pub place : Option LinkPlace
  pub fails : PlaceOf p fault place
  pub is : line ≡ place_line text place

-- the line of a text in which a fault of it is, or of the image that the bytes spell
abbrev pub IsLineOf : (image text : List ℕ) → Fault → Option ℕ → Type 0
IsLineOf image text (Link fault) line = (p : Image) → IsSerialized image p → LinesLink p text fault line
IsLineOf image text fault line = line ≡ fault_place text fault

-- a fault in one line: the file, that line of it, the fault's own line and what it is called
abbrev pub line_at : (file : List ℕ) → Option ℕ → Fault → List ℕ
line_at file place fault = as_line_text file place (fault_line fault) (texts_of fault).name

-- a line is told, and behind it that there was no memory for another in its place
pub record ReportedPlainly (reports : Sent → Type 0) (errors : Sent) : Type 0 where
  -- the errors as they stood behind the line
  pub line : Sent
  pub begins : line.before ≡ errors.before
  pub reported : reports line
  pub memory : ReportsFault Memory (record { before = line.now; now = errors.now; failed = errors.failed })

-- that line went out, or there was no memory for it, and the fault's own line did
pub data ReportsAsLine (line : List ℕ) (reports : Sent → Type 0) (errors : Sent) : Type 0 where
  as_line : Says line errors → ReportsAsLine line reports errors
  plainly : ReportedPlainly reports errors → ReportsAsLine line reports errors

-- a fault was told with a line in which it is, or there was no memory to find one, and its own line was
pub data LinesFault (file : List ℕ) (is : Option ℕ → Type 0) (fault : Fault) (errors : Sent) : Type 0 where
  placed : (line : Option ℕ) → is line → ReportsAsLine (line_at file line fault) (ReportsFault fault) errors → LinesFault file is fault errors
  unplaced : ReportedPlainly (ReportsFault fault) errors → LinesFault file is fault errors

-- a command answers as it does where its fault is told by its own line, and tells it in another, with the file and the line of it
pub data OneLineFault (answers : Sent → ExitStatus → Type 0) (file : List ℕ) (is : Fault → Option ℕ → Type 0) (errors : Sent) (status : ExitStatus) : Type 0 where
  without : IsSilent errors → answers errors status → OneLineFault answers file is errors status
  reported : (fault : Fault) → ((plain : Sent) → Reported fault status plain → answers plain status) → status ≡ status_of fault → LinesFault file (is fault) fault errors → OneLineFault answers file is errors status

-- a status was answered and nothing said to the errors, or the fault was told in such a line
abbrev pub AnsweredOrAsLine : (file : List ℕ) → (is : Fault → Option ℕ → Type 0) → Result ExitStatus Fault → Sent → ExitStatus → Type 0
AnsweredOrAsLine file is (Ok found) errors status = (status ≡ found) × IsSilent errors
AnsweredOrAsLine file is (Err fault) errors status = (status ≡ status_of fault) × LinesFault file (is fault) fault errors

-- how it is told why a text is refused beside an image
abbrev pub LinesText : (file text : List ℕ) → TextFault → ExitStatus → Sent → Type 0
LinesText file text (with_text.Asm fault) status errors = (status ≡ CallRefused) × ReportsAsLine (line_at file (Some fault.line) (Asm fault)) (ReportsFault (Asm fault)) errors
LinesText file text with_text.Other status errors = (status ≡ CallRefused) × ReportsAsLine (as_line_text file None (codes "text") (word_texts Text).name) (Says (ended (codes "text"))) errors
LinesText file text with_text.Memory status errors = (status ≡ Faulty) × ReportsFault Memory errors
