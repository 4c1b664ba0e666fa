-- The image that a text denotes.
use Rattle.std.specs.Prelude.{◌≡◌, ◌≢◌, ℕ, ◌==◌, ◌+◌, ◌^◌, max, Bool, true, false, nat_lt, nat_le, is_some, if◌then◌else◌, List, [], ◌∷◌, ◌++◌, length, count_by, Option, Some, None, Result, Ok, Err}
use Rattle.aom_text.specs.Text.{statements, line_count}
use Rattle.aom_text.specs.declared.text.Statement.{Statement}
use Rattle.aom_text.specs.declared.fault.AsmFault.{AsmFault}
use Rattle.aom_text.specs.declared.fault.AsmFaultKind.{AsmFaultKind}
use Rattle.aom_text.specs.declared.fault.AsmFaultKind.TheVariants.{BadShape, LimitPassed, OutOfMemory}
use Rattle.aom_image.specs.Image.{Image}
use Rattle.aom_image.specs.WellFormed.{is_server}
use Rattle.aom_instructions.specs.Versions.{family_bytes}
use Rattle.aom_instructions.specs.declared.version.Version.{Version}
use Rattle.aom_image.specs.declared.class.ClassDecl.{ClassDecl}
use Rattle.aom_image.specs.declared.method.Method.{Method}
use Rattle.aom_syntax.specs.Reading.{◌>>=◌, took, any_keyword, nothing_more}
use Rattle.aom_syntax.specs.Headers.{image_statement}
use Rattle.aom_syntax.specs.Classes.{class_statement}
use Rattle.aom_syntax.specs.Methods.{heading, instruction}
use Rattle.aom_syntax.specs.declared.keyword.Keyword.{Keyword}
use Rattle.aom_syntax.specs.declared.keyword.Keyword.TheVariants as k
use Rattle.aom_syntax.specs.declared.scope.Scope.{Scope}
use Rattle.aom_asm.specs.Body.{Body, Program}
use Rattle.aom_asm.specs.TextNames.{declared_names, labels_of}

-- ---- faults with their lines

-- what a statement in that line says
abbrev pub at_line : {X : Type 0} → ℕ → Result X AsmFaultKind → Result X AsmFault
at_line line (Ok x) = Ok x
at_line line (Err kind) = Err (record { line = line; kind = kind })

-- one after another
abbrev pub and_then : {A B : Type 0} → Result A AsmFault → (A → Result B AsmFault) → Result B AsmFault
and_then (Ok x) f = f x
and_then (Err e) f = Err e

-- what was answered is what is denoted, unless memory ran out
abbrev pub Answers : {X Y : Type 0} → (X → Y) → Result X AsmFault → Result Y AsmFault → Type 0
Answers view (Ok x) denoted = denoted ≡ Ok (view x)
Answers view (Err e) denoted = e.kind ≢ OutOfMemory → denoted ≡ Err e

-- ---- sizes

-- as many bytes more, if an image may have them
abbrev pub grown : ℕ → ℕ → Result ℕ AsmFaultKind
grown bytes size = if nat_le (size + bytes) (2 ^ 20) then Ok (size + bytes) else Err LimitPassed

-- ---- methods

-- the code with one more instruction
abbrev pub with_instruction : Scope → Version → Body → List (List ℕ) → Result Body AsmFaultKind
with_instruction scope version b ws =
    if nat_lt (length b.code) 1024 then (instruction scope version b.labels (length b.code) ws >>= λ i. Ok (record b { code = b.code ++ i.0 ∷ [] }))
    else Err LimitPassed

-- a method at its end, of which there is an instruction at least
abbrev pub method_of : Body → Result Method AsmFaultKind
method_of b =
    if length b.code == 0 then Err LimitPassed
    else Ok (record { class = b.heading.class; over = b.heading.over; role = b.heading.role; flags = b.heading.flags; before = b.heading.before; after = b.heading.after; arguments = b.heading.arguments; gives = b.heading.gives; code = b.code })

-- ---- statements

-- the statement that opens a text
abbrev pub opened : Scope → List (List ℕ) → Result Program AsmFaultKind
opened scope ws = image_statement scope ws >>= λ h. Ok (record { header = h.0; classes = []; methods = []; body = None; size = 24 })

-- a class
abbrev pub with_class : Scope → Program → List (List ℕ) → Result Program AsmFaultKind
with_class scope p ws =
    if nat_lt (length p.classes) 256 then
    (class_statement scope p.header.version p.header.natives (length p.classes) (count_by is_server p.classes) ws >>= λ c. grown (28 + family_bytes p.header.version) p.size >>= λ size. Ok (record p { classes = p.classes ++ c.0 ∷ []; size = size }))
    else Err LimitPassed

-- the beginning of a method, before these statements
abbrev pub with_heading : Scope → List Statement → Program → List (List ℕ) → Result Program AsmFaultKind
with_heading scope rest p ws =
    if nat_lt (length p.methods) 1024 then
    (heading scope p.header.version (length p.methods) ws >>= λ h. grown (24 + family_bytes p.header.version) p.size >>= λ size. Ok (record p { body = Some (record { heading = h.0; labels = labels_of [] rest; code = [] }); size = size }))
    else Err LimitPassed

-- a class or the beginning of a method
abbrev pub declaration : Scope → List Statement → Program → Keyword → List (List ℕ) → Result Program AsmFaultKind
declaration scope rest p k.Class ws = with_class scope p ws
declaration scope rest p k.Method ws = with_heading scope rest p ws
declaration scope rest p key ws = Err BadShape

-- the end of a method
abbrev pub with_method : Program → Body → List (List ℕ) → Result Program AsmFaultKind
with_method p b ws = method_of b >>= λ m. nothing_more false ws >>= λ u. Ok (record p { methods = p.methods ++ m ∷ []; body = None })

-- an instruction, or the end of a method
abbrev pub in_body : Scope → Program → Body → List (List ℕ) → Result Program AsmFaultKind
in_body scope p b ws =
    if (took k.End ws).0 then with_method p b (took k.End ws).1
    else (with_instruction scope p.header.version b (took k.End ws).1 >>= λ c. grown 8 p.size >>= λ size. Ok (record p { body = Some c; size = size }))

-- a statement, with those after it
abbrev pub step_by : Option Body → Scope → List Statement → Program → List (List ℕ) → Result Program AsmFaultKind
step_by None scope rest p ws = any_keyword ws >>= λ key. declaration scope rest p key.0 key.1
step_by (Some b) scope rest p ws = in_body scope p b ws

abbrev pub step : Scope → List Statement → Program → List (List ℕ) → Result Program AsmFaultKind
step scope rest p ws = step_by p.body scope rest (record p { body = None }) ws

-- ---- texts

-- the end of a text: no method is open, and there is one
abbrev pub closed : Program → Result Program AsmFaultKind
closed p = if is_some p.body then Err BadShape else if length p.methods == 0 then Err LimitPassed else Ok p

-- the statements after others
abbrev pub read_rest : ℕ → Scope → Program → List Statement → Result Program AsmFault
read_rest last scope p [] = at_line last (closed p)
read_rest last scope p (s ∷ ss) = and_then (at_line s.line (step scope ss p s.words)) (λ q. read_rest last scope q ss)

-- the first statement, and those after it
abbrev pub read_after : ℕ → Scope → Statement → List Statement → Result Program AsmFault
read_after last scope s ss = and_then (at_line s.line (opened scope s.words)) (λ p. read_rest last scope p ss)

-- all statements
abbrev pub read_program : ℕ → Scope → List Statement → Result Program AsmFault
read_program last scope [] = Err (record { line = last; kind = BadShape })
read_program last scope (s ∷ ss) = read_after last scope s ss

-- the names of a text, told apart or not, beside classes that were read before
abbrev pub scope_of : Bool → List Statement → List ClassDecl → Scope
scope_of is_strict ss kinds = record { is_strict = is_strict; classes = declared_names k.Class [] ss; methods = declared_names k.Method [] ss; kinds = kinds }

-- the image of what was read
abbrev pub image_of : Program → Image
image_of p = record { header = p.header; classes = p.classes; methods = p.methods }

-- statements are read first, whatever the names; then with the names
abbrev pub read_statements : ℕ → List Statement → Result Image AsmFault
read_statements last ss =
    and_then (read_program last (scope_of false ss []) ss) (λ first.
    and_then (read_program last (scope_of true ss first.classes) ss) (λ p. Ok (image_of p)))

-- the last line of a text
abbrev pub last_line_of : List ℕ → ℕ
last_line_of text = max (line_count text) 1

-- what a text denotes: an image, or its first fault
abbrev pub denoted : List ℕ → Result Image AsmFault
denoted text = if nat_le (length text) (2 ^ 20) then read_statements (last_line_of text) (statements text) else Err (record { line = 1; kind = LimitPassed })
