-- How the warnings of an image are told.
use Rattle.std.specs.Prelude.{ℕ, ◌≡◌, ◌≤◌, ◌<◌, ◌^◌, ◌⊎◌, List, length, [], ◌∷◌, ◌++◌, Option, None, Some, codes, decimal}
use Rattle.aom_image.specs.Image.{Image}
use Rattle.aom_codec.specs.Format.{first_fault}
use Rattle.aom_link_conditions.specs.declared.place.LinkPlace.{LinkPlace}
use Rattle.aom_link_conditions.specs.declared.place.LinkPlace.TheVariants.{Class, Method, Instruction}
use Rattle.aom_warnings.specs.Warnings.{AreAll}
use Rattle.aom_warnings.specs.declared.warning.Warning.{Warning}
use Rattle.aom_warnings.specs.declared.warning.Warning.TheVariants.{NeverCalled, NeverMade, NeverReached, NeverRead, NeverUsed}
use Rattle.aom_cost_report.specs.Names.{label}
use Rattle.aom_cost_report.specs.Places.{place_text}
use Rattle.aom_diagnostics.specs.Linking.{link_line}
use Rattle.aom_commands.specs.Acceptable.{IsSerialized}
use Rattle.aom_commands.specs.Assembly.{RefusesBytes}
use Rattle.aom_commands.specs.Headline.{ImageWantsMemory, IsSilent, RefusedFor, Says, Sent, WriteFails, Writes}
use Rattle.aom_commands.specs.declared.faults.Fault.{Fault}
use Rattle.aom_commands.specs.declared.faults.Fault.TheVariants.{Load}
use Rattle.aom_commands.specs.declared.status.ExitStatus.{ExitStatus}
use Rattle.aom_commands.specs.declared.status.ExitStatus.TheVariants.{Done, ImageRefused, Fault as Faulty}
use Rattle.aom_diagnostics.specs.Declarations.{class_names, method_names}
use Rattle.aom_diagnostic_commands.specs.Programs.{IsLoaded, RefusesProgram}
use Rattle.aom_diagnostic_commands.specs.declared.program.Program.{Program}
use Rattle.aom_diagnostic_commands.specs.declared.program.ProgramFault.{ProgramFault}
use Rattle.aom_script_warnings.specs.Warned.{script_warnings}
use Rattle.aom_script_warnings.specs.declared.warned.NoServer.{NoServer}
use Rattle.aom_diagnostic_commands.specs.declared.telling.Telling.{Telling}
use Rattle.aom_diagnostic_commands.specs.declared.telling.Telling.TheVariants.{AsLine}

-- the place that it is about
abbrev pub place_of : Warning → LinkPlace
place_of (NeverMade c) = Class c
place_of (NeverRead c f) = Class c
place_of (NeverCalled m) = Method m
place_of (NeverReached m place) = Instruction m place
place_of (NeverUsed m place r) = Instruction m place

-- the same in words: a class, a method, or a place of one, by these names of classes and methods
abbrev pub subject : (classes methods : List (List ℕ)) → Warning → List ℕ
subject classes methods (NeverMade c) = label classes (codes "class ") c
subject classes methods (NeverRead c f) = label classes (codes "class ") c
subject classes methods (NeverCalled m) = label methods (codes "method ") m
subject classes methods (NeverReached m place) = label methods (codes "method ") m ++ codes " " ++ decimal place
subject classes methods (NeverUsed m place r) = label methods (codes "method ") m ++ codes " " ++ decimal place

-- what is said of it
abbrev pub message : Warning → List ℕ
message (NeverMade c) = codes ": no object of it is made"
message (NeverRead c f) = codes ": nothing reads the field " ++ decimal f
message (NeverCalled m) = codes ": nothing calls it"
message (NeverReached m place) = codes ": no way leads here"
message (NeverUsed m place r) = codes ": nothing reads the word in r" ++ decimal r

-- the line of a text that it is about
abbrev pub line_in : Option (List ℕ) → Warning → Option ℕ
line_in None w = None
line_in (Some text) w = link_line text (place_of w)

-- before it: with lines, that line of the text's file
abbrev pub lead : Telling → (line : Option ℕ) → List ℕ
lead (AsLine file) line = file.now ++ place_text line ++ codes ": warning: "
lead telling line = codes "warning "

-- one warning in a line, by these names
abbrev pub warning_text : Telling → (line : Option ℕ) → (classes methods : List (List ℕ)) → Warning → List ℕ
warning_text telling line classes methods w = lead telling line ++ subject classes methods w ++ message w ++ 10 ∷ []

-- the names of a text's classes and methods, where there is a text
abbrev pub classes_in : Option (List ℕ) → List (List ℕ)
classes_in None = []
classes_in (Some text) = class_names text

abbrev pub methods_in : Option (List ℕ) → List (List ℕ)
methods_in None = []
methods_in (Some text) = method_names text

-- one warning in a line, by the text, where there is one
abbrev pub warning_line : Telling → Option (List ℕ) → Warning → List ℕ
warning_line telling text w = warning_text telling (line_in text w) (classes_in text) (methods_in text) w

-- one line behind the other
abbrev pub warning_lines : {A : Type 0} → (A → List ℕ) → List A → List ℕ
warning_lines line [] = []
warning_lines line (w ∷ others) = line w ++ warning_lines line others

-- the text tells all warnings of the image that the bytes spell
pub record IsWarned (line : Warning → List ℕ) (bytes text : List ℕ) : Type 0 where
  pub image : Image
  pub serialized : IsSerialized bytes image
  pub warnings : List Warning
  pub all : AreAll image warnings
  pub told : text ≡ warning_lines line warnings

-- what each status says of a call that tells the warnings of an image so
abbrev pub WarnsBy : (Warning → List ℕ) → List ℕ → Sent → Sent → ExitStatus → Type 0
WarnsBy line bytes out errors Done = Writes (IsWarned line bytes) out errors
WarnsBy line bytes out errors ImageRefused = RefusedFor Load (λ fault. first_fault bytes ≡ Some fault) out errors
WarnsBy line bytes out errors Faulty = ImageWantsMemory out errors ⊎ WriteFails (IsWarned line bytes) out errors
WarnsBy line bytes out errors _ = ⊥

-- ---- of a script

-- one warning in a line, by these names of classes
abbrev pub script_line : (classes : List (List ℕ)) → NoServer → List ℕ
script_line classes w =
    codes "warning line " ++ (decimal w.line ++ (codes " of the script: " ++ (label classes (codes "class ") w.class ++ (codes " is no server" ++ 10 ∷ []))))

-- the text tells all warnings of a script beside the image that the bytes spell; a script that is too long is none
pub record IsScriptWarned (classes : List (List ℕ)) (bytes script text : List ℕ) : Type 0 where
  pub image : Image
  pub serialized : IsSerialized bytes image
  pub told : length script ≤ 2 ^ 20 → text ≡ warning_lines (script_line classes) (script_warnings image script)
  pub long : 2 ^ 20 < length script → text ≡ []

-- what was said of a script beside a program: its warnings, or nothing where that has no image
pub data WarnsOfScript (program : Program) (script : List ℕ) (errors : Sent) : Type 0 where
  said : (image : List ℕ) (text : Option (List ℕ)) (lines : List ℕ) → IsLoaded program image text → IsScriptWarned (classes_in text) image script lines →
      Says lines errors → WarnsOfScript program script errors
  unloaded : (fault : ProgramFault) → RefusesProgram program fault → IsSilent errors → WarnsOfScript program script errors
  unread : (image : List ℕ) (text : Option (List ℕ)) (fault : Fault) → IsLoaded program image text → RefusesBytes image fault → IsSilent errors →
      WarnsOfScript program script errors
