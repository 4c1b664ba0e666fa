-- Numbers that are alike up to a limit: sums, products and maxima of such are alike again.
use Rattle.std.proofs.Common.{◌≡◌, ◌+◌, ◌-◌, ◌*◌, ℕ, zero, suc, arith}
use Rattle.std.specs.Prelude.{max, min}

abbrev pub Alike : ℕ → ℕ → ℕ → Type 0
Alike limit x y = min limit x ≡ min limit y

pub alike_kept : (limit x : ℕ) → Alike limit (min limit x) x
alike_kept limit x = omega arith

pub alike_plus : (limit x y z w : ℕ) → Alike limit x y → Alike limit z w → Alike limit (x + z) (y + w)
alike_plus limit x y z w a b = omega (arith, a, b)

pub alike_max : (limit x y z w : ℕ) → Alike limit x y → Alike limit z w → Alike limit (max x z) (max y w)
alike_max limit x y z w a b = omega (arith, a, b)

pub alike_times : (limit n x y : ℕ) → Alike limit x y → Alike limit (n * x) (n * y)
alike_times limit zero x y a = omega arith
alike_times limit (suc n) x y a = grind arith

-- a loop: its rounds are found by a difference, which is the same below the limit, and does not matter above it
pub alike_loop : (limit n first first' round round' after after' : ℕ) → Alike limit first first' →
    Alike limit after after' → first ≡ round + after → first' ≡ round' + after' → Alike limit (1 + (n - 1) * round + first) (1 + (n - 1) * round' + first')
alike_loop limit n first first' round round' after after' a b e e' = grind arith
