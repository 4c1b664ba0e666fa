-- Lines of a script in which a client connects to a class that is no server.
use Rattle.std.specs.Prelude.{ℕ, ◌+◌, Bool, true, false, if◌then◌else◌, List, [], ◌∷◌, ◌++◌, Option, Some, None, codes, slice_get}
use Rattle.std.specs.Str.{bytes_eq}
use Rattle.aom_image.specs.Image.{Image}
use Rattle.aom_image.specs.declared.class.ClassDecl.{ClassDecl}
use Rattle.aom_image.specs.declared.class.ClassKind.{ClassKind}
use Rattle.aom_image.specs.declared.class.ClassKind.TheVariants.{Server}
use Rattle.aom_text.specs.Numbers.{number_of, number_within}
use Rattle.aom_text.specs.Text.{lines_of}
use Rattle.aom_text.specs.Words.{words}
use Rattle.aom_text.specs.declared.number.Number.{Number}
use Rattle.aom_script_warnings.specs.declared.warned.NoServer.{NoServer}

abbrev pub is_server_kind : ClassKind → Bool
is_server_kind (Server most session) = true
is_server_kind _ = false

abbrev pub has_server_kind : Option ClassDecl → Bool
has_server_kind None = false
has_server_kind (Some d) = is_server_kind d.kind

-- the image has a class of that number, and it is a server
abbrev pub is_server : Image → ℕ → Bool
is_server p class = has_server_kind (slice_get p.classes class)

-- the number of a class
abbrev pub class_number : Option Number → Option ℕ
class_number None = None
class_number (Some number) = number_within 0 255 number

-- the class to which a client connects in a line of these words
abbrev pub class_in : List (List ℕ) → Option ℕ
class_in (time ∷ kind ∷ client ∷ class ∷ slots ∷ []) = if bytes_eq kind (codes "connect") then class_number (number_of class) else None
class_in _ = None

-- a warning, where the line is of no server
abbrev pub warning_of : Image → (line : ℕ) → Option ℕ → List NoServer
warning_of p line None = []
warning_of p line (Some class) = if is_server p class then [] else record { line = line; class = class } ∷ []

-- those of lines of which the first has that number
abbrev pub warnings_from : Image → (first : ℕ) → List (List ℕ) → List NoServer
warnings_from p first [] = []
warnings_from p first (line ∷ lines) = warning_of p first (class_in (words line)) ++ warnings_from p (first + 1) lines

abbrev pub script_warnings : Image → (script : List ℕ) → List NoServer
script_warnings p script = warnings_from p 1 (lines_of script)
