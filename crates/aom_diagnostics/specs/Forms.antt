-- How an instruction is written: its mnemonic, and for each operand of its row what stands there.
use Rattle.std.specs.Prelude.{ℕ, List, [], ◌∷◌, ◌++◌, codes}
use Rattle.aom_instructions.specs.Mnemonics.{mnemonic_text}
use Rattle.aom_instructions.specs.Table.{row}
use Rattle.aom_instructions.specs.declared.kinds.Kinds.{Kinds}
use Rattle.aom_instructions.specs.declared.kinds.LargeKind.{LargeKind}
use Rattle.aom_instructions.specs.declared.kinds.LargeKind.TheVariants.{Class, Method, Nothing, Number, Place, Rounds}
use Rattle.aom_instructions.specs.declared.kinds.OperandOrder.{OperandOrder}
use Rattle.aom_instructions.specs.declared.kinds.OperandOrder.TheVariants.{LargeLast, LargeSecond}
use Rattle.aom_instructions.specs.declared.kinds.SmallKind.{SmallKind}
use Rattle.aom_instructions.specs.declared.kinds.SmallKind.TheVariants.{CallTarget, Depth, Field, Register, TrapResult, Unused, Word}
use Rattle.aom_instructions.specs.declared.mnemonic.Mnemonic.{Mnemonic}

-- a register or a field: what it is, and the letter by which it is told from others of the statement
abbrev pub lettered : List ℕ → ℕ → List ℕ
lettered what letter = what ++ letter ∷ []

-- a small operand
abbrev pub small_form : SmallKind → ℕ → List ℕ
small_form Unused letter = []
small_form Register letter = lettered (codes " r") letter
small_form TrapResult letter = lettered (codes " r") letter
small_form Word letter = lettered (codes " w") letter
small_form Field letter = lettered (codes " f") letter
small_form Depth letter = codes " D"
small_form CallTarget letter = codes " TARGET"

-- the large operand
abbrev pub large_form : LargeKind → List ℕ
large_form Nothing = []
large_form Number = codes " N"
large_form Rounds = codes " N"
large_form Place = codes " L"
large_form Class = codes " CLASS"
large_form Method = codes " METHOD"

-- operands in the order of a text: the letters are those of the small ones, A, B and C
abbrev pub in_order : OperandOrder → Kinds → List ℕ
in_order LargeLast k = small_form k.a 65 ++ (small_form k.b 66 ++ (small_form k.c 67 ++ large_form k.d))
in_order LargeSecond k = small_form k.a 65 ++ (large_form k.d ++ (small_form k.b 66 ++ small_form k.c 67))

-- a mnemonic and its operands
abbrev pub form_words : Mnemonic → List ℕ
form_words m = mnemonic_text m ++ in_order (row m).kinds.order (row m).kinds

-- the line that tells it
abbrev pub form_line : Mnemonic → List ℕ
form_line m = codes "Its form: " ++ (form_words m ++ 10 ∷ [])
