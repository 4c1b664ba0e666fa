-- The names and the lines of a program's text, by the numbers of its image.
use Rattle.std.specs.Prelude.{ℕ, ◌-◌, Bool, true, false, List, [], ◌∷◌, Option, get_or, option_map}
use Rattle.std.specs.List.{position}
use Rattle.std.specs.Str.{bytes_eq}
use Rattle.aom_text.specs.Text.{lines_of}
use Rattle.aom_text.specs.Words.{words}
use Rattle.aom_text.specs.declared.text.Statement.{Statement}
use Rattle.aom_diagnostics.specs.Declarations.{class_names, instruction_statement, method_names}
use Rattle.aom_transcript.specs.Naming.{class_word}
use Rattle.aom_debug_protocol.specs.declared.spot.CodeLocation.{CodeLocation}
use Rattle.aom_debug_symbols.specs.declared.file.TextFile.{TextFile}

-- the names of classes and of methods, that of number 0 first, the text in which they stand, and the name of its file; where that text comes of a source, the
-- source, and the line of it that each line of the text comes of
pub record NameLists : Type 0 where
  pub classes : List (List ℕ)
  pub methods : List (List ℕ)
  pub text : List ℕ
  pub file : List ℕ
  pub source : List ℕ
  pub lines : List ℕ

-- those of a text in that file
abbrev pub names_in : TextFile → (text : List ℕ) → NameLists
names_in file text =
    record { classes = class_names text; methods = method_names text; text = text; file = file.name.now; source = file.source.now; lines = file.lines.now }

-- there is no text
abbrev pub unnamed : NameLists
unnamed = record { classes = []; methods = []; text = []; file = []; source = []; lines = [] }

-- there is a text
abbrev pub has_text : NameLists → Bool
has_text ns = elim ns.methods [ [] ↦ false | _ ∷ _ ↦ true ]

-- it comes of a source, by whose lines places are told
abbrev pub has_lines : NameLists → Bool
has_lines ns = elim ns.lines [ [] ↦ false | _ ∷ _ ↦ true ]

-- what is written of a class: its name, or its number
abbrev pub class_by : NameLists → ℕ → List ℕ
class_by ns class = class_word ns.classes class

-- and so of a method
abbrev pub method_by : NameLists → ℕ → List ℕ
method_by ns method = class_word ns.methods method

-- the number of the method of that name
abbrev pub method_named : NameLists → List ℕ → Option ℕ
method_named ns name = position (λ other. bytes_eq other name) ns.methods

-- the line that is told for a line of the text: that of the source, where there is one
abbrev pub line_told : (lines : List ℕ) → ℕ → ℕ
line_told [] line = line
line_told (l ∷ ls) line = get_or (l ∷ ls) (line - 1) 0

-- the words that are told for a statement of the text: those of the line of the source, where there is one
abbrev pub words_told : (source lines : List ℕ) → Statement → List (List ℕ)
words_told source [] s = s.words
words_told source (l ∷ ls) s = words (get_or (lines_of source) (line_told (l ∷ ls) s.line - 1) [])

-- what is told for a statement of the text
abbrev pub told : NameLists → Statement → Statement
told ns s = record { line = line_told ns.lines s.line; words = words_told ns.source ns.lines s }

-- what is told for the statement that holds the instruction at a place
abbrev pub statement_at : NameLists → CodeLocation → Option Statement
statement_at ns spot = option_map (told ns) (instruction_statement ns.text spot.method spot.place)

-- the line that is told for it
abbrev pub line_at : NameLists → CodeLocation → Option ℕ
line_at ns spot = option_map (λ (s : Statement). line_told ns.lines s.line) (instruction_statement ns.text spot.method spot.place)
