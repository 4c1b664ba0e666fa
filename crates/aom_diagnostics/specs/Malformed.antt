-- Which instruction of a text has words of another form.
use Rattle.std.specs.Prelude.{ℕ, ◌==◌, ◌^◌, nat_le, Bool, true, false, is_some, if◌then◌else◌, List, [], ◌∷◌, length, Option, Some, None, Result, Ok, Err}
use Rattle.aom_link_conditions.specs.Roles.{or_else}
use Rattle.aom_instructions.specs.Mnemonics.{mnemonic_of}
use Rattle.aom_instructions.specs.declared.mnemonic.Mnemonic.{Mnemonic}
use Rattle.aom_instructions.specs.declared.version.Version.TheVariants.{Two}
use Rattle.aom_text.specs.Text.{statements}
use Rattle.aom_text.specs.Words.{first_of}
use Rattle.aom_text.specs.declared.fault.AsmFaultKind.{AsmFaultKind}
use Rattle.aom_text.specs.declared.fault.AsmFaultKind.TheVariants.{BadShape}
use Rattle.aom_text.specs.declared.text.Statement.{Statement}
use Rattle.aom_syntax.specs.Methods.{instruction, label_of}
use Rattle.aom_syntax.specs.declared.scope.Scope.{Scope}
use Rattle.aom_diagnostics.specs.Forms.{form_line}

-- no name is asked for
abbrev pub no_names : Scope
no_names = record { is_strict = false; classes = []; methods = []; kinds = [] }

abbrev pub is_bad_shape : AsmFaultKind → Bool
is_bad_shape BadShape = true
is_bad_shape _ = false

abbrev pub is_shape_fault : {X : Type 0} → Result X AsmFaultKind → Bool
is_shape_fault (Ok x) = false
is_shape_fault (Err kind) = is_bad_shape kind

-- words that are no instruction of any version, by their shape alone
abbrev pub is_malformed : List (List ℕ) → Bool
is_malformed ws = is_shape_fault (instruction no_names Two [] 0 ws)

-- words without their label
abbrev pub unlabelled : List (List ℕ) → List (List ℕ)
unlabelled [] = []
unlabelled (w ∷ ws) = if is_some (label_of w) then ws else w ∷ ws

-- the mnemonic that words begin with
abbrev pub mnemonic_in : Option (List ℕ) → Option Mnemonic
mnemonic_in None = None
mnemonic_in (Some w) = mnemonic_of w

abbrev pub first_mnemonic : List (List ℕ) → Option Mnemonic
first_mnemonic ws = mnemonic_in (first_of ws)

-- the mnemonic of misshapen words
abbrev pub malformed : List (List ℕ) → Option Mnemonic
malformed ws = if is_malformed ws then first_mnemonic ws else None

-- the first mnemonic of misshapen words among the statements in a line
abbrev pub malformed_in : ℕ → List Statement → Option Mnemonic
malformed_in line [] = None
malformed_in line (s ∷ ss) = if s.line == line then or_else (malformed (unlabelled s.words)) (malformed_in line ss) else malformed_in line ss

-- its form, where there is one
abbrev pub form_of : Option Mnemonic → List ℕ
form_of None = []
form_of (Some m) = form_line m

-- the form of the instruction of a line that has another one, in a text that is not too long
abbrev pub form_text : List ℕ → ℕ → List ℕ
form_text text line = if nat_le (length text) (2 ^ 20) then form_of (malformed_in line (statements text)) else []
