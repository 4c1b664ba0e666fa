-- How a call tells its fault: by its line, explained behind that, or in one line of its text's file.
use Rattle.std.specs.Prelude.{ℕ, ◌≡◌, List, [], Option, None, Some, Result, Ok, Err}
use Rattle.aom_cost_report.specs.Names.{Names, unnamed}
use Rattle.aom_commands.specs.Headline.{IsSilent, ReportsFault, Reported, Sent}
use Rattle.aom_commands.specs.Status.{status_of}
use Rattle.aom_commands.specs.declared.faults.Fault.{Fault}
use Rattle.aom_commands.specs.declared.faults.Fault.TheVariants.{Asm, File}
use Rattle.aom_commands.specs.declared.status.ExitStatus.{ExitStatus}
use Rattle.aom_diagnostic_commands.specs.AsLine.{IsLineOf, LinesFault, LinesText, OneLineFault, ReportsAsLine, line_at}
use Rattle.aom_diagnostic_commands.specs.Explained.{Explains, ExplainsByText}
use Rattle.aom_diagnostic_commands.specs.Explaining.{Explaining, ReportedAndExplained, ReportsText}
use Rattle.aom_diagnostic_commands.specs.Naming.{SaysText, placed_names, text_names}
use Rattle.aom_diagnostic_commands.specs.Unread.{unread_text}
use Rattle.aom_diagnostic_commands.specs.declared.program.ProgramFault.{ProgramFault}
use Rattle.aom_diagnostic_commands.specs.declared.program.ProgramFault.TheVariants.{NoImage, Beside}
use Rattle.aom_diagnostic_commands.specs.declared.telling.Telling.{Telling}
use Rattle.aom_diagnostic_commands.specs.declared.telling.Telling.TheVariants.{Plain, Explained, AsLine}
use Rattle.aom_diagnostic_commands.specs.declared.with_text.TextFault.{TextFault}

-- the line of a file that a fault names itself
abbrev pub own_line : Fault → Option ℕ
own_line (Asm fault) = Some fault.line
own_line fault = None

-- what explains a fault of an image, by its text, where there is one
abbrev pub ExplainsIn : (image : List ℕ) → (text : Option (List ℕ)) → (script : List ℕ) → Fault → List ℕ → Type 0
ExplainsIn image None script = Explains image script
ExplainsIn image (Some text) script = ExplainsByText image text script

-- the line in which it is, of the text or of the file
abbrev pub IsLineIn : (image : List ℕ) → (text : Option (List ℕ)) → Fault → Option ℕ → Type 0
IsLineIn image None fault line = line ≡ own_line fault
IsLineIn image (Some text) fault line = IsLineOf image text fault line

-- a fault of a file is told so, of which no image is known
abbrev pub ReportedSo : Telling → (text : List ℕ) → Fault → ExitStatus → Sent → Type 0
ReportedSo Plain text fault status errors = Reported fault status errors
ReportedSo Explained text fault status errors = ReportedAndExplained (Reported fault status) (Explains [] text fault) errors
ReportedSo (AsLine file) text fault status errors = (status ≡ status_of fault) × ReportsAsLine (line_at file.now (own_line fault) fault) (ReportsFault fault) errors

-- and that a file of that name cannot be read, and why
abbrev pub UnreadSo : Telling → (name why : List ℕ) → ExitStatus → Sent → Type 0
UnreadSo Plain name why status errors = Reported File status errors
UnreadSo Explained name why status errors = ReportedAndExplained (Reported File status) (λ said. said ≡ unread_text name why) errors
UnreadSo (AsLine file) name why status errors = (status ≡ status_of File) × ReportsAsLine (line_at name None File) (ReportsFault File) errors

-- why a text is refused beside an image is told so
abbrev pub TextRefusedSo : Telling → (text : List ℕ) → TextFault → ExitStatus → Sent → Type 0
TextRefusedSo Plain text fault status errors = SaysText fault status errors
TextRefusedSo Explained text fault status errors = ReportsText text fault status errors
TextRefusedSo (AsLine file) text fault status errors = LinesText file.now text fault status errors

-- and why a program has no image
abbrev pub RefusedSo : Telling → (text : List ℕ) → ProgramFault → ExitStatus → Sent → Type 0
RefusedSo telling text (NoImage fault) status errors = ReportedSo telling text fault status errors
RefusedSo telling text (Beside fault) status errors = TextRefusedSo telling text fault status errors

-- a fault of an image or of its script is told so
abbrev pub ToldSo : Telling → (image : List ℕ) → (text : Option (List ℕ)) → (script : List ℕ) → Fault → Sent → ExitStatus → Type 0
ToldSo Plain image text script fault errors status = Reported fault status errors
ToldSo Explained image text script fault errors status = ReportedAndExplained (Reported fault status) (ExplainsIn image text script fault) errors
ToldSo (AsLine file) image text script fault errors status = (status ≡ status_of fault) × LinesFault file.now (IsLineIn image text fault) fault errors

-- a status was answered and nothing said to the errors, or the fault was told so
abbrev pub AnsweredSo : Telling → (image : List ℕ) → (text : Option (List ℕ)) → (script : List ℕ) → Result ExitStatus Fault → Sent → ExitStatus → Type 0
AnsweredSo telling image text script (Ok found) errors status = (status ≡ found) × IsSilent errors
AnsweredSo telling image text script (Err fault) errors status = ToldSo telling image text script fault errors status

-- a command answers as it does where its fault is told by its line, and tells that so
abbrev pub Tells : Telling → (image : List ℕ) → (text : Option (List ℕ)) → (script : List ℕ) → (answers : Sent → ExitStatus → Type 0) → Sent → ExitStatus → Type 0
Tells Plain image text script answers errors status = answers errors status
Tells Explained image text script answers errors status = Explaining answers (ExplainsIn image text script) errors status
Tells (AsLine file) image text script answers errors status = OneLineFault answers file.now (IsLineIn image text) errors status

-- the names by which figures are told, with their places where each is a line of a file
abbrev pub names_in : Telling → Option (List ℕ) → Names
names_in telling None = unnamed
names_in Plain (Some text) = text_names text
names_in Explained (Some text) = text_names text
names_in (AsLine file) (Some text) = placed_names file.now text
