-- How an instruction is written: its mnemonic, and its operands in the order of a text.
use Rattle.std.specs.Prelude.{ℕ, List, [], ◌∷◌, ◌++◌, decimal}
use Rattle.std.specs.Fmt.{signed_decimal}
use Rattle.aom_instructions.specs.Mnemonics.{mnemonic_text}
use Rattle.aom_instructions.specs.Table.{mnemonic, operands, row}
use Rattle.aom_instructions.specs.declared.instr.Instr.{Instr}
use Rattle.aom_instructions.specs.declared.kinds.OperandOrder.{OperandOrder}
use Rattle.aom_instructions.specs.declared.kinds.OperandOrder.TheVariants.{LargeLast, LargeSecond}
use Rattle.aom_instructions.specs.declared.operand.Large.{Large}
use Rattle.aom_instructions.specs.declared.operand.Large.TheVariants as large
use Rattle.aom_instructions.specs.declared.operand.Operands.{Operands}
use Rattle.aom_instructions.specs.declared.operand.Small.{Small}
use Rattle.aom_instructions.specs.declared.operand.Small.TheVariants as small
use Rattle.aom_disassembler.specs.Operands.{class_name, field_word, label_name, method_name, register_word, target_word}

-- the word of a small operand, where there is one
abbrev pub small_words : Small → List (List ℕ)
small_words small.Unused = []
small_words (small.Register r) = register_word r ∷ []
small_words (small.Word w) = (119 ∷ decimal w) ∷ []
small_words (small.Field f) = field_word f ∷ []
small_words (small.Depth d) = decimal d ∷ []
small_words (small.CallTarget t) = target_word t ∷ []

-- the word of the large operand, where there is one
abbrev pub large_words : Large → List (List ℕ)
large_words large.Nothing = []
large_words (large.Number z) = signed_decimal z ∷ []
large_words (large.Rounds n) = decimal n ∷ []
large_words (large.Place n) = label_name n ∷ []
large_words (large.Class n) = class_name n ∷ []
large_words (large.Method n) = method_name n ∷ []

-- operands in the order of a text
abbrev pub in_text : OperandOrder → Operands → List (List ℕ)
in_text LargeLast o = small_words o.a ++ (small_words o.b ++ (small_words o.c ++ large_words o.d))
in_text LargeSecond o = small_words o.a ++ (large_words o.d ++ (small_words o.b ++ small_words o.c))

-- the words of an instruction
abbrev pub words_statement : Instr → List (List ℕ)
words_statement i = mnemonic_text (mnemonic i) ∷ in_text (row (mnemonic i)).kinds.order (operands i)
