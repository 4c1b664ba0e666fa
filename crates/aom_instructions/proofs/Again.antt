-- Instructions and their parts give each other, row by row: an operand of the kind that a row asks is what is read of it. Their sorts name what is among their operands.
use Rattle.std.proofs.Common.{◌≡◌, refl, ◌∙◌}
use Rattle.aom_instructions.specs.Laws.{PartsMakeAgain, MakingPartsAgain, RowsAreOne, SortsNameOperands}
use Rattle.aom_instructions.specs.Operands.{SmallFits, LargeFits}
use Rattle.aom_instructions.specs.Table.{class, depth, field, make, method, mnemonic, number, operands, operands_of, place, register, rounds, target, word, row}
use Rattle.aom_instructions.specs.declared.instr.Instr.TheVariants as instr
use Rattle.aom_instructions.specs.declared.kinds.LargeKind.{LargeKind}
use Rattle.aom_instructions.specs.declared.kinds.LargeKind.TheVariants as lk
use Rattle.aom_instructions.specs.declared.kinds.SmallKind.{SmallKind}
use Rattle.aom_instructions.specs.declared.kinds.SmallKind.TheVariants as sk
use Rattle.aom_instructions.specs.declared.limits.Limits.{Limits}
use Rattle.aom_instructions.specs.declared.mnemonic.Mnemonic.{Mnemonic}
use Rattle.aom_instructions.specs.declared.mnemonic.Mnemonic.TheVariants as m
use Rattle.aom_instructions.specs.declared.operand.Large.{Large}
use Rattle.aom_instructions.specs.declared.operand.Large.TheVariants as large
use Rattle.aom_instructions.specs.declared.operand.Operands.{Operands}
use Rattle.aom_instructions.specs.declared.operand.Small.{Small}
use Rattle.aom_instructions.specs.declared.operand.Small.TheVariants as small

-- what is read of an operand of that kind, as an operand
abbrev small_again : SmallKind → Small → Small
small_again sk.Unused o = small.Unused
small_again sk.Word o = small.Word (word o)
small_again sk.Field o = small.Field (field o)
small_again sk.Depth o = small.Depth (depth o)
small_again sk.CallTarget o = small.CallTarget (target o)
small_again _ o = small.Register (register o)

abbrev large_again : LargeKind → Large → Large
large_again lk.Number o = large.Number (number o)
large_again lk.Rounds o = large.Rounds (rounds o)
large_again lk.Place o = large.Place (place o)
large_again lk.Class o = large.Class (class o)
large_again lk.Method o = large.Method (method o)
large_again _ o = large.Nothing

small_same : (k : SmallKind) (o : Small) → SmallFits k o → small_again k o ≡ o
small_same sk.Unused small.Unused fits = refl
small_same sk.Register (small.Register r) fits = refl
small_same sk.TrapResult (small.Register r) fits = refl
small_same sk.Word (small.Word w) fits = refl
small_same sk.Field (small.Field f) fits = refl
small_same sk.Depth (small.Depth d) fits = refl
small_same sk.CallTarget (small.CallTarget t) fits = refl
small_same _ _ fits = absurd fits

large_same : (l : Limits) (k : LargeKind) (o : Large) → LargeFits l k o → large_again k o ≡ o
large_same l lk.Nothing large.Nothing fits = refl
large_same l lk.Number (large.Number z) fits = refl
large_same l lk.Rounds (large.Rounds n) fits = refl
large_same l lk.Place (large.Place n) fits = refl
large_same l lk.Class (large.Class n) fits = refl
large_same l lk.Method (large.Method n) fits = refl
large_same l _ _ fits = absurd fits

mnemonic_again : (m : Mnemonic) (o : Operands) → mnemonic (make m o) ≡ m
mnemonic_again m.Sub o = refl
mnemonic_again _ o = refl

operands_again : (m : Mnemonic) (o : Operands) → operands (make m o)
    ≡ operands_of (small_again (row m).kinds.a o.a) (small_again (row m).kinds.b o.b) (small_again (row m).kinds.c o.c) (large_again (row m).kinds.d o.d)
operands_again m.Sub o = refl
operands_again _ o = refl

same : {a a1 b b1 c c1 : Small} {d d1 : Large} → a ≡ a1 → b ≡ b1 → c ≡ c1 → d ≡ d1 → operands_of a b c d ≡ operands_of a1 b1 c1 d1
same p q r s = cc

pub making_parts_again : MakingPartsAgain
making_parts_again l m o fits = (
  mnemonic_again m o,
  operands_again m o ∙ same (small_same (row m).kinds.a o.a fits.a) (small_same (row m).kinds.b o.b fits.b) (small_same (row m).kinds.c o.c fits.c)
      (large_same l (row m).kinds.d o.d fits.d),
)

pub parts_make_again : PartsMakeAgain
parts_make_again (instr.Sub a b c) = refl
parts_make_again _ = refl

pub rows_are_one : RowsAreOne
rows_are_one m.Sub = (refl, refl)
rows_are_one _ = (refl, refl)

pub sorts_name_operands : SortsNameOperands
sorts_name_operands (instr.Sub a b c) = (refl, refl, refl)
sorts_name_operands _ = (refl, refl, refl)
