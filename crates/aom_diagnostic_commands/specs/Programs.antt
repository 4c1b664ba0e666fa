-- Programs and what a call over one promises.
use Rattle.std.specs.Prelude.{ℕ, ◌≡◌, List, [], Option, None, Some}
use Rattle.aom_commands.specs.Assembly.{Makes, RefusesText as RefusesFile}
use Rattle.aom_commands.specs.Headline.{Sent}
use Rattle.aom_commands.specs.declared.status.ExitStatus.{ExitStatus}
use Rattle.aom_diagnostic_commands.specs.Explaining.{RefusesText}
use Rattle.aom_diagnostic_commands.specs.Tellings.{RefusedSo, Tells}
use Rattle.aom_diagnostic_commands.specs.declared.program.Program.{Program}
use Rattle.aom_diagnostic_commands.specs.declared.program.Program.TheVariants.{Image, Text, ImageOfText}
use Rattle.aom_diagnostic_commands.specs.declared.program.ProgramFault.{ProgramFault}
use Rattle.aom_diagnostic_commands.specs.declared.program.ProgramFault.TheVariants.{NoImage, Beside}
use Rattle.aom_diagnostic_commands.specs.declared.telling.Telling.{Telling}

-- the bytes of an image, and the text that it is of, where there is one
pub record ProgramRecord : Type 0 where
  pub image : List ℕ
  pub text : Option (List ℕ)

-- the image that was made of a text, or the one that was given
abbrev pub given_or : List ℕ → Option (List ℕ) → List ℕ
given_or given None = given
given_or given (Some made) = made

-- the image of a program, and the text that denotes it, where there is one
abbrev pub IsLoaded : Program → (image : List ℕ) → (text : Option (List ℕ)) → Type 0
IsLoaded (Image bytes) image text = (image ≡ bytes.now) × (text ≡ None)
IsLoaded (Text source) image text = Makes source.now image × (text ≡ Some source.now)
IsLoaded (ImageOfText bytes source) image text = (image ≡ bytes.now) × Makes source.now image × (text ≡ Some source.now)

-- why it has none: the text denotes none, or another one than is named beside it, or memory was wanting
abbrev pub RefusesProgram : Program → ProgramFault → Type 0
RefusesProgram (Image bytes) fault = ⊥
RefusesProgram (Text source) (NoImage fault) = RefusesFile source.now fault
RefusesProgram (Text source) (Beside fault) = ⊥
RefusesProgram (ImageOfText bytes source) (NoImage fault) = ⊥
RefusesProgram (ImageOfText bytes source) (Beside fault) = RefusesText source.now bytes.now fault

-- its text, which is empty where it has none
abbrev pub text_in : Program → List ℕ
text_in (Image bytes) = []
text_in (Text source) = source.now
text_in (ImageOfText bytes source) = source.now

-- a call over a program: it has an image, and the command answers of that, told so; or it has none, nothing else is done, and that is told so
pub data Answers (telling : Telling) (program : Program) (script : List ℕ) (untouched : Type 0) (answers : (image : List ℕ) → (text : Option (List ℕ)) → Sent → ExitStatus → Type 0) (errors : Sent) (status : ExitStatus) : Type 0 where
  loaded : (image : List ℕ) (text : Option (List ℕ)) → IsLoaded program image text → Tells telling image text script (answers image text) errors status → Answers telling program script untouched answers errors status
  refused : untouched → (fault : ProgramFault) → RefusesProgram program fault → RefusedSo telling (text_in program) fault status errors → Answers telling program script untouched answers errors status
