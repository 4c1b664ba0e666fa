-- Sums and powers.
use Rattle.std.proofs.lemmas.Bool.Decides.{nat_tests}
use Rattle.std.proofs.Common.{◌≡◌, ◌<◌, ◌≤◌, ◌+◌, ◌*◌, ◌^◌, ℕ, zero, suc, arith}
use Rattle.std.specs.Prelude.{◌≢◌}
use Rattle.std.proofs.Math.Nat.{pow-succ', pow-zero, mul-le-mul_right}
use Rattle.std.proofs.lemmas.Bool.{cases_lt}
use Rattle.aom_termination.specs.Within.{total}
use Rattle.std.proofs.Common.{List, ◌∷◌, Some, ap, slice_get}
use Rattle.std.proofs.lemmas.Option.{same_Some}

pub total_le : (f g : ℕ → ℕ) (n : ℕ) → ((j : ℕ) → f j ≤ g j) → total f n ≤ total g n
total_le f g zero h = omega arith
total_le f g (suc n) h = omega (arith, total_le f g n h, h n)

total_below : (f g : ℕ → ℕ) (i n : ℕ) → n ≤ i → ((j : ℕ) → j ≢ i → f j ≤ g j) → total f n ≤ total g n
total_below f g i zero le h = omega arith
total_below f g i (suc n) le h = omega (arith, total_below f g i n (omega (arith, le)) h, h n (λ e. absurd (omega (arith, e, le))))

-- one summand differs
pub total_but : (f g : ℕ → ℕ) (i n x y : ℕ) → i < n → ((j : ℕ) → j ≢ i → f j ≤ g j) → f i + x ≤ g i + y → total f n + x ≤ total g n + y
total_but f g i zero x y lt h here = absurd (omega (arith, lt))
total_but f g i (suc n) x y lt h here = grind (arith, nat_tests, total_but f g i n x y, total_below f g i n, cases_lt i n)

-- powers of 2 or more
pub pow_some : (b n : ℕ) → 1 ≤ (b + 2) ^ n
pow_some b zero = rw (pow-zero (b + 2)) (omega arith)
pow_some b (suc n) = grind (arith, nat_tests, pow_some b n, mul-le-mul_right, pow-succ')

pub pow_step : (b n : ℕ) → (b + 2) ^ suc n ≡ (b + 2) * (b + 2) ^ n
pow_step b n = pow-succ' (b + 2) n

pub pow_more : (b i j : ℕ) → i ≤ j → (b + 2) ^ i ≤ (b + 2) ^ j
pow_more b i zero le = let same : i ≡ 0 = omega (arith, le) in rw same (omega arith)
pow_more b i (suc j) le = grind (arith, nat_tests, pow_more b i j, mul-le-mul_right, pow-succ', cases_lt)

-- the next power is at least twice as much
pub pow_twice : (b n : ℕ) → (b + 2) ^ n + (b + 2) ^ n ≤ (b + 2) ^ suc n
pow_twice b n = grind (arith, nat_tests, mul-le-mul_right, pow-succ')

pub pow_less : (b i j : ℕ) → i < j → (b + 2) ^ i < (b + 2) ^ j
pow_less b i j lt = omega (arith, pow_twice b i, pow_more b (suc i) j (omega (arith, lt)), pow_some b i)

-- a number of them that is less is less by one of them
pub scaled : (a b x : ℕ) → a < b → a * x + x ≤ b * x
scaled a b x lt = let more : (a + 1) * x ≤ b * x = mul-le-mul_right x (omega (arith, lt)) in grind (arith, more)

pub scaled_le : (a b x : ℕ) → a ≤ b → a * x ≤ b * x
scaled_le a b x le = mul-le-mul_right x le

-- one more of them at most
pub one_more : (m x c : ℕ) → m ≤ suc x → m * c ≤ x * c + c
one_more m x c le = let more : m * c ≤ (x + 1) * c = scaled_le m (x + 1) c (omega (arith, le)) in grind (arith, more)

-- one less of them at least
pub one_less : (m x c : ℕ) → suc m ≤ x → m * c + c ≤ x * c
one_less m x c le = scaled m x c (omega (arith, le))

-- a whole run of a method, and two
pub whole_run : (x a c : ℕ) → x ≤ a → 1 ≤ c → x * c + 2 ≤ (a + 2) * c
whole_run x a c le some = let more = scaled_le x a c le in grind (arith, more, some)

-- what one element counts is no more than what all count
pub one_of_all : {X : Type 0} (f : X → ℕ) (whole : List X → ℕ) → ((x : X) (xs : List X) → whole (x ∷ xs) ≡ f x + whole xs) → (xs : List X) (k : ℕ) (x : X) →
    slice_get xs k ≡ Some x → f x ≤ whole xs
one_of_all f whole more (y ∷ xs) zero x e = omega (arith, more y xs, ap f (same_Some y x e))
one_of_all f whole more (y ∷ xs) (suc k) x e = omega (arith, more y xs, one_of_all f whole more xs k x e)
one_of_all f whole more _ _ x e = cc

-- a number of them twice
pub double_le : (a b x : ℕ) → a + a ≤ b → a * x + a * x ≤ b * x
double_le a b x le = let more : (a + a) * x ≤ b * x = scaled_le (a + a) b x le in grind (arith, more)

-- one of so many, and so many
pub one_of : (a x : ℕ) → x ≤ suc a * x
one_of a x = let more : 1 * x ≤ suc a * x = scaled_le 1 (suc a) x (omega arith) in grind (arith, more)

pub one_beside : (a x y z : ℕ) → y ≤ x → z ≤ a * x → y + z ≤ suc a * x
one_beside a x y z one more = grind (arith, one, more)
