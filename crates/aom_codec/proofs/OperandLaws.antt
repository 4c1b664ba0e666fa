-- What is read of an operand is spelled so and fits, and what fits and is spelled so is read: for each kind, once.
use Rattle.std.proofs.lemmas.Bool.Decides.{nat_tests}
use Rattle.std.proofs.Common.{◌≡◌, ℕ, ◌+◌, ◌*◌, ◌/◌, ◌%◌, ◌<◌, ◌^◌, cond, ltb, Ok, Err, refl, ap, ◌∙◌, arith, lit<, FitsSigned, Fits, rules}
use Rattle.std.specs.Int.{w32, cast_signed}
use Rattle.std.proofs.Math.Facts.{sfits_to_z}
use Rattle.std.proofs.lemmas.Int.{of_z-to_z}
use Rattle.std.proofs.lemmas.Bool.{ltb-true, lt-ltb, eqb-false}
use Rattle.aom_codec.specs.declared.fault.LoadFault.{LoadFault}
use Rattle.aom_codec.specs.declared.fault.LoadFault.TheVariants.{BadOperand}
use Rattle.aom_codec.specs.Instructions.{Bounded, below, large_from, small_from, target_from}
use Rattle.aom_codec.specs.Serialization.{large_number, small_byte, target_byte}
use Rattle.aom_codec.proofs.Laws.{guard_ok, ok_is, passed, kept}
use Rattle.aom_codec.proofs.Returning.{took}
use Rattle.aom_instructions.specs.Operands.{LargeFits, SmallFits, TargetFits}
use Rattle.aom_instructions.specs.declared.instr.Target.{Target}
use Rattle.aom_instructions.specs.declared.kinds.LargeKind.{LargeKind}
use Rattle.aom_instructions.specs.declared.kinds.SmallKind.{SmallKind}
use Rattle.aom_instructions.specs.declared.kinds.SmallKind.TheVariants as sk
use Rattle.aom_instructions.specs.declared.limits.Limits.{Limits}
use Rattle.aom_instructions.specs.declared.operand.Large.{Large}
use Rattle.aom_instructions.specs.declared.operand.Small.{Small}
use Rattle.aom_instructions.specs.declared.operand.Small.TheVariants as small

below_ok : {X : Type 0} (limit n : ℕ) (x y : X) (fault : LoadFault) → below limit n x fault ≡ Ok y → (n < limit) × (x ≡ y)
below_ok limit n x y fault e = let g = guard_ok (ltb n limit) fault x y e in (ltb-true n limit g.0, g.1)

below_is : {X : Type 0} (limit n : ℕ) (x : X) (fault : LoadFault) → n < limit → below limit n x fault ≡ Ok x
below_is limit n x fault lt = ap (λ b. cond b (Ok x) (Err fault)) (lt-ltb n limit lt)

-- ---- what is read

abbrev pub SaysSmall : SmallKind → ℕ → Small → Type 0
SaysSmall k n o = (small_byte o ≡ n) × SmallFits k o

abbrev pub SaysLarge : Limits → LargeKind → ℕ → Large → Type 0
SaysLarge l k n o = (large_number o ≡ n) × LargeFits l k o

target_says : (t : Target) (limit low n : ℕ) (o : Small) → (low < limit → target_byte t ≡ n) → (low < limit → TargetFits t)
    → below limit low (small.CallTarget t) BadOperand ≡ Ok o → SaysSmall sk.CallTarget n o
target_says t limit low n o serialized fits e = grind (arith, nat_tests, below_ok)

target_reads : (high low n : ℕ) (o : Small) → high * 16 + low ≡ n → target_from high low ≡ Ok o → SaysSmall sk.CallTarget n o
target_reads high low n o is e = grind (arith, nat_tests, took, target_says, passed)

pub small_reads : (k : SmallKind) (n : ℕ) (o : Small) → small_from k n ≡ Ok o → SaysSmall k n o
small_reads sk.Unused n o e = grind (arith, nat_tests, below_ok)
small_reads sk.Register n o e = grind (arith, nat_tests, below_ok)
small_reads sk.TrapResult n o e = grind (arith, nat_tests, below_ok)
small_reads sk.Word n o e = grind (arith, nat_tests, below_ok)
small_reads sk.Field n o e = grind (arith, nat_tests, below_ok)
small_reads sk.Depth n o e = grind (arith, nat_tests, below_ok)
small_reads sk.CallTarget n o e = target_reads (n / 16) (n % 16) n o (omega arith) e

-- any four bytes are a number with its sign
signed_fits : (n : ℕ) → n < 2 ^ 32 → FitsSigned w32 (cast_signed w32 n)
signed_fits n lt = let f : Fits w32 n = search rules in sfits_to_z f

pub large_reads : (l : Limits) (k : LargeKind) (n : ℕ) (o : Large) → n < 2 ^ 32 → large_from l k n ≡ Ok o → SaysLarge l k n o
large_reads l x n o lt e = grind (arith, nat_tests, below_ok, ok_is, of_z-to_z, signed_fits, kept, eqb-false)

-- ---- what fits

abbrev pub ReadsSmall : SmallKind → Small → Type 0
ReadsSmall k o = (small_byte o < 256) × (small_from k (small_byte o) ≡ Ok o)

abbrev pub ReadsLarge : Limits → LargeKind → Large → Type 0
ReadsLarge l k o = (large_number o < 2 ^ 32) × (large_from l k (large_number o) ≡ Ok o)

from_halves : (n high low : ℕ) → n / 16 ≡ high → n % 16 ≡ low → target_from (n / 16) (n % 16) ≡ target_from high low
from_halves n high low p q = ap (λ h. target_from h (n % 16)) p ∙ ap (target_from high) q

target_takes : (t : Target) → TargetFits t → ReadsSmall sk.CallTarget (small.CallTarget t)
target_takes x fits = grind (arith, nat_tests, from_halves, below_is)

pub small_takes : (k : SmallKind) (o : Small) → SmallFits k o → ReadsSmall k o
small_takes sk.Unused small.Unused fits = (lit< tt, refl)
small_takes sk.Register (small.Register r) fits = (omega arith, below_is 16 r (small.Register r) BadOperand fits)
small_takes sk.TrapResult (small.Register r) fits = (omega arith, below_is 15 r (small.Register r) BadOperand (omega arith))
small_takes sk.Word (small.Word w) fits = (omega arith, below_is 8 w (small.Word w) BadOperand fits)
small_takes sk.Field (small.Field f) fits = (omega arith, below_is 8 f (small.Field f) BadOperand fits)
small_takes sk.Depth (small.Depth d) fits = (omega arith, below_is 4 d (small.Depth d) BadOperand fits)
small_takes sk.CallTarget (small.CallTarget t) fits = target_takes t fits
small_takes _ _ fits = absurd fits

pub large_takes : (l : Limits) (k : LargeKind) (o : Large) → Bounded l → LargeFits l k o → ReadsLarge l k o
large_takes l x y few fits = grind arith
