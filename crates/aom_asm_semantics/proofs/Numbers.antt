-- Numbers in decimal digits read back.
use Rattle.std.proofs.lemmas.Bool.Decides.{nat_tests}
use Rattle.std.proofs.Common.{◌≡◌, ℕ, ℤ, pos, negsuc, suc, ◌<◌, ◌≤◌, ◌^◌, Bool, true, false, nat_lt, nat_le, List, [], ◌∷◌, length, Some, ◌∙◌, arith, rules}
use Rattle.std.proofs.Common.{refl}
use Rattle.std.specs.Fmt.{decimal, signed_decimal}
use Rattle.std.specs.Prelude.{FitsSigned}
use Rattle.std.specs.Int.{w32}
use Rattle.std.specs.List.{list_all, fold}
use Rattle.std.proofs.lemmas.Fmt.{digits_decimal, digits_value-decimal, decimal_nonempty}
use Rattle.std.proofs.lemmas.Str.Parse.{IsNumeralModel, numerals_by_fold}
use Rattle.std.proofs.lemmas.Grind.{common_steps}
use Rattle.aom_text.specs.Numbers.{is_digit, add_digit, digits_size, number_from, number_of, number_within, number_signed}
use Rattle.aom_text.specs.declared.number.Number.{Number}

own : IsNumeralModel (λ ds. list_all is_digit ds ≡ true) digits_size
own = numerals_by_fold _ (search rules) (λ n ds. fold add_digit n ds) (search rules)

pub all_digits : (n : ℕ) → n < 2 ^ 64 → list_all is_digit (decimal n) ≡ true
all_digits n small = digits_decimal own n small

pub size_of_decimal : (n : ℕ) → n < 2 ^ 64 → digits_size (decimal n) ≡ n
size_of_decimal n small = digits_value-decimal own n small

-- digits, of which there is one, spell their number
of_digits : (b : Bool) (ds : List ℕ) (n : ℕ) → 0 < length ds → list_all is_digit ds ≡ true → digits_size ds ≡ n → n < 2 ^ 50 →
    number_from b ds ≡ Some (record { is_negative = b; size = n })
of_digits b ds n some digits is small = grind (arith, nat_tests, common_steps)

pub number_from_decimal : (b : Bool) (n : ℕ) → n < 2 ^ 50 → number_from b (decimal n) ≡ Some (record { is_negative = b; size = n })
number_from_decimal b n small = grind (arith, decimal_nonempty, all_digits, size_of_decimal)

-- digits begin with no minus
no_minus : (ds : List ℕ) → list_all is_digit ds ≡ true → number_of ds ≡ number_from false ds
no_minus [] digits = refl
no_minus (d ∷ ds) digits = grind (arith, nat_tests, common_steps)

pub number_of_decimal : (n : ℕ) → n < 2 ^ 50 → number_of (decimal n) ≡ Some (record { is_negative = false; size = n })
number_of_decimal n small = no_minus (decimal n) (all_digits n (omega arith)) ∙ number_from_decimal false n small

-- ---- ranges

pub within : (low high n : ℕ) → low ≤ n → n ≤ high → number_within low high (record { is_negative = false; size = n }) ≡ Some n
within low high n above below = grind (arith, common_steps)

-- a word spells a number of 32 bits with its sign
pub record Signed (word : List ℕ) (z : ℤ) : Type 0 where
  pub number : Number
  pub read : number_of word ≡ Some number
  pub signed : number_signed number ≡ Some z

pub signed_of_decimal : (z : ℤ) → FitsSigned w32 z → Signed (signed_decimal z) z
signed_of_decimal (pos n) fits =
    let below : nat_lt n (2 ^ 31) ≡ true = grind (arith, common_steps, fits.sfits) in
    record { number = record { is_negative = false; size = n }; read = number_of_decimal n (omega (arith, fits.sfits)); signed = rw below }
signed_of_decimal (negsuc n) fits =
    let below : nat_le (suc n) (2 ^ 31) ≡ true = grind (arith, common_steps, fits.sfits) in
    record { number = record { is_negative = true; size = suc n }; read = number_from_decimal true (suc n) (omega (arith, fits.sfits)); signed = rw below }
