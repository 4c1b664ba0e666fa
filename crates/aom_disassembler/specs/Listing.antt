-- The listing of an image: its statements, and the text of their lines.
use Rattle.std.specs.Prelude.{ℕ, ◌+◌, Bool, true, false, List, [], ◌∷◌, ◌++◌, flat_map}
use Rattle.aom_image.specs.Image.{Image}
use Rattle.aom_image.specs.declared.class.ClassDecl.{ClassDecl}
use Rattle.aom_instructions.specs.declared.instr.Instr.{Instr}
use Rattle.aom_image.specs.declared.method.Method.{Method}
use Rattle.aom_syntax.specs.Keywords.{keyword_text}
use Rattle.aom_syntax.specs.declared.keyword.Keyword.TheVariants as k
use Rattle.aom_disassembler.specs.Classes.{class_words}
use Rattle.aom_disassembler.specs.Headers.{header_words}
use Rattle.aom_disassembler.specs.Jumps.{is_target}
use Rattle.aom_disassembler.specs.Methods.{heading_words}
use Rattle.aom_disassembler.specs.Operands.{label_name}
use Rattle.aom_disassembler.specs.Text.{line_of}
use Rattle.aom_disassembler.specs.Words.{words_statement}

-- ---- instructions

-- the label of a place, where something jumps to it
abbrev pub label_words : Bool → ℕ → List (List ℕ)
label_words true place = (label_name place ++ 58 ∷ []) ∷ []
label_words false place = []

-- an instruction, at its place in the code
abbrev pub instr_words : List Instr → ℕ → Instr → List (List ℕ)
instr_words code place i = label_words (is_target code place) place ++ words_statement i

-- ---- methods and classes

abbrev pub end_words : List (List ℕ)
end_words = keyword_text k.End ∷ []

-- what each element at its place gives, from that place on
abbrev pub placed : {X Y : Type 0} → (ℕ → X → Y) → ℕ → List X → List Y
placed f place [] = []
placed f place (x ∷ xs) = f place x ∷ placed f (place + 1) xs

-- instructions of the code, from that place on
abbrev pub instr_statements : List Instr → ℕ → List Instr → List (List (List ℕ))
instr_statements code place is = placed (instr_words code) place is

-- the statements of a method, at its place among the methods
abbrev pub method_statements : ℕ → Method → List (List (List ℕ))
method_statements place m = heading_words place m ∷ (instr_statements m.code 0 m.code ++ end_words ∷ [])

-- methods, from that place on
abbrev pub methods_statements : ℕ → List Method → List (List (List ℕ))
methods_statements place ms = flat_map (λ statements. statements) (placed method_statements place ms)

-- classes, from that place on
abbrev pub classes_statements : ℕ → List ClassDecl → List (List (List ℕ))
classes_statements place cs = placed class_words place cs

-- ---- the whole

-- the statements of an image, in words
abbrev pub listing : Image → List (List (List ℕ))
listing i = header_words i.header ∷ (classes_statements 0 i.classes ++ methods_statements 0 i.methods)

-- statements, one a line
abbrev pub lines_text : List (List (List ℕ)) → List ℕ
lines_text statements = flat_map line_of statements

abbrev pub listing_text : Image → List ℕ
listing_text i = lines_text (listing i)
