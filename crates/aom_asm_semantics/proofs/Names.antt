-- A letter and a number in decimal digits: a word, a name, and in a list of such names at the number's place.
use Rattle.std.proofs.lemmas.Bool.Decides.{nat_tests}
use Rattle.std.proofs.Common.{◌≡◌, ℕ, ℤ, ◌<◌, ◌^◌, ◌⊎◌, Bool, true, false, List, [], ◌∷◌, length, get_or, Some, refl, arith}
use Rattle.std.proofs.Math.Bool.{and-false}
use Rattle.std.specs.Prelude.{FitsSigned}
use Rattle.std.specs.Fmt.{decimal, signed_decimal}
use Rattle.std.specs.Int.{w32}
use Rattle.std.specs.Str.{bytes_eq}
use Rattle.std.specs.List.{list_all, position}
use Rattle.std.proofs.lemmas.Bool.{le-leb, lt-ltb, false_from_ne_true}
use Rattle.std.proofs.lemmas.Fmt.{decimal_injective, length-decimal-le}
use Rattle.std.proofs.lemmas.List.Sums.{position_or_len_is}
use Rattle.std.proofs.lemmas.Slice.Eq.{bytes_eq-Decides}
use Rattle.std.proofs.lemmas.Grind.{common_steps}
use Rattle.aom_text.specs.Names.{is_letter, is_name, is_name_byte, is_reserved}
use Rattle.aom_text.specs.Numbers.{is_digit}
use Rattle.aom_text.specs.Words.{is_plain}
use Rattle.aom_asm_semantics.proofs.Numbers.{all_digits}

-- ---- words

pub all_of : (p q : ℕ → Bool) → ((b : ℕ) → p b ≡ true → q b ≡ true) → (bs : List ℕ) → list_all p bs ≡ true → list_all q bs ≡ true
all_of p q so [] all = refl
all_of p q so (b ∷ bs) all = grind (arith, nat_tests, all_of p q so bs)

pub digit_is_plain : (b : ℕ) → is_digit b ≡ true → is_plain b ≡ true
digit_is_plain b h = grind (arith, common_steps)

digit_is_name_byte : (b : ℕ) → is_digit b ≡ true → is_name_byte b ≡ true
digit_is_name_byte b h = grind (arith, common_steps)

letter_is_plain : (b : ℕ) → is_letter b ≡ true → is_plain b ≡ true
letter_is_plain b h = grind (arith, common_steps)

pub plain_decimal : (n : ℕ) → n < 2 ^ 64 → list_all is_plain (decimal n) ≡ true
plain_decimal n small = all_of is_digit is_plain digit_is_plain (decimal n) (all_digits n small)

pub plain_signed : (z : ℤ) → FitsSigned w32 z → list_all is_plain (signed_decimal z) ≡ true
plain_signed x fits = grind (arith, nat_tests, plain_decimal)

-- a letter and a number
abbrev pub lettered : ℕ → ℕ → List ℕ
lettered letter n = letter ∷ decimal n

pub plain_lettered : (letter n : ℕ) → is_letter letter ≡ true → n < 2 ^ 64 → list_all is_plain (lettered letter n) ≡ true
plain_lettered letter n is small = rw (letter_is_plain letter is, plain_decimal n small)

-- ---- names

-- a word of digits behind a letter is no reserved word
unreserved : (letter : ℕ) (ds : List ℕ) → list_all is_digit ds ≡ true → is_reserved (letter ∷ ds) ≡ false
unreserved letter [] digits = simp and-false
unreserved letter (d ∷ ds) digits = grind (arith, nat_tests, common_steps, and-false)

pub name_lettered : (letter n : ℕ) → is_letter letter ≡ true → n < 2 ^ 32 → is_name (lettered letter n) ≡ true
name_lettered letter n is small = grind (arith, nat_tests, all_of, digit_is_name_byte, all_digits n, le-leb, length-decimal-le 10 n, unreserved letter)

-- ---- places

differing : (xs ys : List ℕ) → (xs ≡ ys → ⊥) → bytes_eq xs ys ≡ false
differing xs ys differ = false_from_ne_true (bytes_eq xs ys) (λ yes. differ ((bytes_eq-Decides xs ys).0 yes))

same_number : (letter m n : ℕ) → m < 2 ^ 32 → n < 2 ^ 32 → lettered letter m ≡ lettered letter n → m ≡ n
same_number letter m n p q e = decimal_injective m n (omega arith) (omega arith) cc

-- a name stands where its number says, when no earlier place has another kind of name
pub place_found : (letter k : ℕ) (names : List (List ℕ)) → k < 2 ^ 32 → k < length names → get_or names k [] ≡ lettered letter k
    → ((j : ℕ) → j < k → (get_or names j [] ≡ lettered letter j) ⊎ (get_or names j [] ≡ [])) → position (λ n. bytes_eq n (lettered letter k)) names ≡ Some k
place_found letter k names small within here before = grind (arith, nat_tests, differing, same_number letter, position_or_len_is, bytes_eq-Decides, lt-ltb)
