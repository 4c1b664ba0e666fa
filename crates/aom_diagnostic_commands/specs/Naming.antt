-- What a command promises that tells by the names of a text, or by its lines too.
use Rattle.std.specs.Prelude.{ℕ, ◌≡◌, Bool, true, false, List, Option, None, Some, codes}
use Rattle.aom_diagnostics.specs.Declarations.{class_names, method_names}
use Rattle.aom_diagnostics.specs.Lines.{class_lines, image_line, method_lines}
use Rattle.aom_cost_report.specs.Names.{Names}
use Rattle.aom_cost_report.specs.Places.{Places}
use Rattle.aom_commands.specs.Headline.{Says, Sent, ReportsFault}
use Rattle.aom_commands.specs.declared.status.ExitStatus.{ExitStatus}
use Rattle.aom_commands.specs.declared.status.ExitStatus.TheVariants.{CallRefused, Fault as Faulty}
use Rattle.aom_commands.specs.declared.faults.Fault.TheVariants as faults
use Rattle.aom_transcript.specs.Naming.{class_word, named_text}
use Rattle.aom_transcript.specs.Text.{ended, line_text}
use Rattle.aom_transcript.specs.declared.line.Line.{Line}
use Rattle.aom_diagnostic_commands.specs.declared.with_text.TextFault.{TextFault}
use Rattle.aom_diagnostic_commands.specs.declared.with_text.TextFault.TheVariants.{Asm, Other, Memory}

-- a line in which each class is written by its name in a text
abbrev pub by_names : (text : List ℕ) → Line → List ℕ
by_names text = named_text (class_word (class_names text))

-- so where names are asked for and there is a text, and else by its number
abbrev pub line_in : (names : Bool) → (text : Option (List ℕ)) → Line → List ℕ
line_in true (Some text) = by_names text
line_in true None = line_text
line_in false text = line_text

-- the names of a text's classes and methods
abbrev pub text_names : (text : List ℕ) → Names
text_names text = record { classes = class_names text; methods = method_names text; places = None }

-- where a text in a file of that name declares its image, its classes and its methods
abbrev pub text_places : (file text : List ℕ) → Places
text_places file text = record { file = file; image = image_line text; classes = class_lines text; methods = method_lines text }

-- the names of them, with those places
abbrev pub placed_names : (file text : List ℕ) → Names
placed_names file text = record { classes = class_names text; methods = method_names text; places = Some (text_places file text) }

-- how it is told why a text is refused beside an image, where nothing is explained
abbrev pub SaysText : TextFault → ExitStatus → Sent → Type 0
SaysText (Asm fault) status errors = (status ≡ CallRefused) × ReportsFault (faults.Asm fault) errors
SaysText Other status errors = (status ≡ CallRefused) × Says (ended (codes "text")) errors
SaysText Memory status errors = (status ≡ Faulty) × ReportsFault faults.Memory errors
