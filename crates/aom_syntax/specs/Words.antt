-- What stands behind a mnemonic: operands of the kinds that its row asks, in the order of a text.
use Rattle.std.specs.Prelude.{ℕ, List}
use Rattle.aom_instructions.specs.Table.{make, operands_of, row}
use Rattle.aom_instructions.specs.declared.instr.Instr.{Instr}
use Rattle.aom_instructions.specs.declared.kinds.Kinds.{Kinds}
use Rattle.aom_instructions.specs.declared.kinds.LargeKind.{LargeKind}
use Rattle.aom_instructions.specs.declared.kinds.LargeKind.TheVariants as lk
use Rattle.aom_instructions.specs.declared.kinds.OperandOrder.{OperandOrder}
use Rattle.aom_instructions.specs.declared.kinds.OperandOrder.TheVariants.{LargeLast, LargeSecond}
use Rattle.aom_instructions.specs.declared.kinds.SmallKind.{SmallKind}
use Rattle.aom_instructions.specs.declared.kinds.SmallKind.TheVariants as sk
use Rattle.aom_instructions.specs.declared.mnemonic.Mnemonic.{Mnemonic}
use Rattle.aom_instructions.specs.declared.operand.Large.{Large}
use Rattle.aom_instructions.specs.declared.operand.Large.TheVariants as large
use Rattle.aom_instructions.specs.declared.operand.Operands.{Operands}
use Rattle.aom_instructions.specs.declared.operand.Small.{Small}
use Rattle.aom_instructions.specs.declared.operand.Small.TheVariants as small
use Rattle.aom_syntax.specs.Reading.{Reading, next, giving}
use Rattle.aom_syntax.specs.Operands.{class, depth, field, label, last_register, method, rounds, signed, target, word_field}
use Rattle.aom_syntax.specs.declared.scope.Scope.{Scope}

-- a small operand of a kind; a register is r0 where no word is left
abbrev pub small_operand : SmallKind → Reading Small
small_operand sk.Unused = giving small.Unused
small_operand sk.Register = next (last_register 15) (λ r. giving (small.Register r))
small_operand sk.TrapResult = next (last_register 14) (λ r. giving (small.Register r))
small_operand sk.Word = next word_field (λ w. giving (small.Word w))
small_operand sk.Field = next field (λ f. giving (small.Field f))
small_operand sk.Depth = next depth (λ d. giving (small.Depth d))
small_operand sk.CallTarget = next target (λ t. giving (small.CallTarget t))

-- the large operand of a kind
abbrev pub large_operand : Scope → List (List ℕ) → LargeKind → Reading Large
large_operand scope labels lk.Nothing = giving large.Nothing
large_operand scope labels lk.Number = next signed (λ z. giving (large.Number z))
large_operand scope labels lk.Rounds = next rounds (λ n. giving (large.Rounds n))
large_operand scope labels lk.Place = next (label scope labels) (λ n. giving (large.Place n))
large_operand scope labels lk.Class = next (class scope) (λ n. giving (large.Class n))
large_operand scope labels lk.Method = next (method scope) (λ n. giving (large.Method n))

-- operands in the order of a text
abbrev pub in_order : OperandOrder → Reading Small → Reading Small → Reading Small → Reading Large → Reading Operands
in_order LargeLast first second third fourth = next first (λ a. next second (λ b. next third (λ c. next fourth (λ d. giving (operands_of a b c d)))))
in_order LargeSecond first second third fourth = next first (λ a. next fourth (λ d. next second (λ b. next third (λ c. giving (operands_of a b c d)))))

-- operands of these kinds
abbrev pub operands_read : Scope → List (List ℕ) → Kinds → Reading Operands
operands_read scope labels k = in_order k.order (small_operand k.a) (small_operand k.b) (small_operand k.c) (large_operand scope labels k.d)

-- what stands behind a mnemonic, and the instruction
abbrev pub words_operands : Scope → List (List ℕ) → Mnemonic → Reading Instr
words_operands scope labels m = next (operands_read scope labels (row m).kinds) (λ o. giving (make m o))
