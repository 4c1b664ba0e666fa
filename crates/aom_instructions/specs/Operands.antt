-- The operands of an instruction: which of them fit.
use Rattle.std.specs.Prelude.{ℕ, ◌<◌, ◌≤◌, ◌^◌, FitsSigned, Option, Some, None}
use Rattle.std.specs.Int.{w32}
use Rattle.aom_instructions.specs.declared.kinds.Kinds.{Kinds}
use Rattle.aom_instructions.specs.declared.kinds.LargeKind.{LargeKind}
use Rattle.aom_instructions.specs.declared.kinds.LargeKind.TheVariants as lk
use Rattle.aom_instructions.specs.declared.kinds.SmallKind.{SmallKind}
use Rattle.aom_instructions.specs.declared.kinds.SmallKind.TheVariants as sk
use Rattle.aom_instructions.specs.declared.limits.Limits.{Limits}
use Rattle.aom_instructions.specs.declared.operand.Large.{Large}
use Rattle.aom_instructions.specs.declared.operand.Large.TheVariants as large
use Rattle.aom_instructions.specs.declared.operand.Operands.{Operands}
use Rattle.aom_instructions.specs.declared.operand.Small.{Small}
use Rattle.aom_instructions.specs.declared.operand.Small.TheVariants as small
use Rattle.aom_instructions.specs.declared.instr.Target.{Target}
use Rattle.aom_instructions.specs.declared.instr.Target.TheVariants as targets

-- the number of a register
abbrev pub IsRegister : ℕ → Type 0
IsRegister r = r < 16

-- the number of a word field
abbrev pub IsWord : ℕ → Type 0
IsWord w = w < 8

-- the number of an owning field
abbrev pub IsField : ℕ → Type 0
IsField f = f < 8

-- the depth of a loop
abbrev pub IsDepth : ℕ → Type 0
IsDepth depth = depth < 4

-- a target with a number in its range
abbrev pub TargetFits : Target → Type 0
TargetFits targets.This = Unit {0}
TargetFits (targets.Register r) = IsRegister r
TargetFits (targets.Field f) = IsField f
TargetFits (targets.Entry e) = e < 16

-- ---- operands by their kinds

-- a small operand is of that kind, and in its range
abbrev pub SmallFits : SmallKind → Small → Type 0
SmallFits sk.Unused small.Unused = Unit {0}
SmallFits sk.Register (small.Register r) = IsRegister r
SmallFits sk.TrapResult (small.Register r) = r ≤ 14
SmallFits sk.Word (small.Word w) = IsWord w
SmallFits sk.Field (small.Field f) = IsField f
SmallFits sk.Depth (small.Depth depth) = IsDepth depth
SmallFits sk.CallTarget (small.CallTarget t) = TargetFits t
SmallFits kind operand = ⊥

-- the large one is of that kind, and in its range
abbrev pub LargeFits : Limits → LargeKind → Large → Type 0
LargeFits l lk.Nothing large.Nothing = Unit {0}
LargeFits l lk.Number (large.Number z) = FitsSigned w32 z
LargeFits l lk.Rounds (large.Rounds n) = (1 ≤ n) × (n < 2 ^ 16)
LargeFits l lk.Place (large.Place n) = n < l.places
LargeFits l lk.Class (large.Class n) = n < l.classes
LargeFits l lk.Method (large.Method n) = n < l.methods
LargeFits l kind operand = ⊥

-- each operand is of its kind, and in its range
pub record OperandsFit (l : Limits) (kinds : Kinds) (o : Operands) : Type 0 where
  pub a : SmallFits kinds.a o.a
  pub b : SmallFits kinds.b o.b
  pub c : SmallFits kinds.c o.c
  pub d : LargeFits l kinds.d o.d

-- ---- what a large operand says, if it says something of that kind

abbrev pub place_said : Large → Option ℕ
place_said (large.Place d) = Some d
place_said _ = None

abbrev pub method_said : Large → Option ℕ
method_said (large.Method m) = Some m
method_said _ = None

abbrev pub class_said : Large → Option ℕ
class_said (large.Class c) = Some c
class_said _ = None
