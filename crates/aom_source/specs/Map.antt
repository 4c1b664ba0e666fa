-- Where the lines of a text that was written come from, a token of the source each, and the names that registers have in them.
use Rattle.std.specs.Prelude.{List, [], ◌∷◌, ◌++◌, ℕ, ◌+◌, ◌==◌, ◌≡◌, ◌≤◌, ◌<◌, Option, Some, None, count_by, false, flat_map, get_or, length, map, true}
use Rattle.aom_source_code.specs.declared.code.Code.{Code}
use Rattle.aom_source_code.specs.declared.code.NamedRegister.{NamedRegister}
use Rattle.aom_source_program.specs.declared.class.Class.{Class}
use Rattle.aom_source_program.specs.declared.class.ClassId.{ClassId}
use Rattle.aom_source_program.specs.declared.method.Method.{Method}
use Rattle.aom_source_program.specs.declared.method.MethodId.{MethodId}
use Rattle.aom_source_program.specs.declared.program.Program.{Program}
use Rattle.aom_source_scopes.specs.Scopes.{holds_at, is_declared}
use Rattle.aom_source_tokens.specs.Tokens.{A_name, Source, token_at}
use Rattle.aom_source.specs.declared.writing.Origin.{Origin}
use Rattle.aom_source.specs.declared.writing.Writing.{Writing}

-- how many lines a text has: each ends with a line feed
abbrev pub line_count : (text : List ℕ) → ℕ
line_count text = count_by (λ b. b == 10) text

-- the tokens of origins
abbrev pub tokens_of : List Origin → List ℕ
tokens_of origins = map (λ o. o.token) origins

-- lines of these tokens were written; where memory lacked once it lacks for ever
abbrev pub Adds : (before after : Writing) → (tokens : List ℕ) → Type 0
Adds before after tokens = after.lacks ≡ false → (before.lacks ≡ false) × (tokens_of after.origins.items ≡ tokens_of before.origins.items ++ tokens)

-- an instruction's line is of the token that it comes of
abbrev pub line_tokens : Code → List ℕ
line_tokens code = map (λ l. l.token) code.lines.items

-- a class's line is of the first token of its declaration
abbrev pub class_tokens : List Class → List ClassId → List ℕ
class_tokens classes order = map (λ id. get_or (map (λ c. c.token) classes) id.0 0) order

abbrev pub code_tokens : Option Code → List ℕ
code_tokens None = []
code_tokens (Some code) = line_tokens code

-- a method's lines: its head, its instructions, its end
abbrev pub method_tokens : List Method → List (Option Code) → MethodId → List ℕ
method_tokens methods codes id =
    get_or (map (λ m. m.token) methods) id.0 0 ∷ code_tokens (get_or codes id.0 None) ++ get_or (map (λ m. m.end_token) methods) id.0 0 ∷ []

-- the lines of a program: the header, the classes, the methods
abbrev pub program_tokens : Program → List (Option Code) → List MethodId → List ℕ
program_tokens program codes order =
    0 ∷ class_tokens program.classes.items program.class_order.items ++ flat_map (method_tokens program.methods.items codes) order

-- names of registers were written; where memory lacked once it lacks for ever
abbrev pub Names : (before after : Writing) → (names : List NamedRegister) → Type 0
Names before after names = after.lacks ≡ false → after.names.items ≡ before.names.items ++ names

-- a name of a method's register, by the lines of a text in which the method's first instruction has this one
abbrev pub at_line : ℕ → NamedRegister → NamedRegister
at_line line n = record { name = n.name; token = n.token; register = n.register; from = line + n.from; to = line + n.to }

abbrev pub code_names : Option Code → List NamedRegister
code_names None = []
code_names (Some code) = code.names.items

-- the names of a method whose head has this line
abbrev pub names_of_method : List (Option Code) → (line : ℕ) → MethodId → List NamedRegister
names_of_method codes line id = map (at_line (line + 1)) (code_names (get_or codes id.0 None))

-- a method's head, its instructions, its end
abbrev pub method_length : List (Option Code) → MethodId → ℕ
method_length codes id = length (code_tokens (get_or codes id.0 None)) + 2

-- the names of methods that follow each other from this line on
unfoldable pub method_names : List (Option Code) → (line : ℕ) → List MethodId → List NamedRegister
method_names codes line [] = []
method_names codes line (id ∷ ids) = names_of_method codes line id ++ method_names codes (line + method_length codes id) ids

-- those of a program, whose methods come behind the header and the classes
abbrev pub program_names : Program → List (Option Code) → List MethodId → List NamedRegister
program_names program codes order = method_names codes (length program.class_order.items + 1) order

-- a name of a register is one that a token of the source declares, and each line that has it comes of a token in its scope
pub record IsNamed (s : Source) (origins : List Origin) (n : NamedRegister) : Type 0 where
  pub name : (token_at s n.token).word ≡ A_name n.name.now
  pub declared : is_declared s n.token ≡ true
  pub holds : (line : ℕ) → n.from ≤ line → line < n.to → holds_at s n.token (get_or (tokens_of origins) line 0) ≡ true
