-- Numbers: decimal digits, with a minus or without.
use Rattle.std.specs.Prelude.{◌≡◌, ◌<◌, ℕ, ℤ, pos, neg_ℤ, Bool, true, false, not, ◌&&◌, ◌||◌, ◌==◌, ◌+◌, ◌-◌, ◌*◌, ◌^◌, nat_le, nat_lt, if◌then◌else◌, List, [], ◌∷◌, length, Option, Some, None, min}
use Rattle.std.specs.List.{list_all, fold}
use Rattle.aom_text.specs.declared.number.Number.{Number}

abbrev pub is_digit : ℕ → Bool
is_digit b = nat_le 48 b && nat_le b 57

-- digits, of which there is one
abbrev pub is_digits : List ℕ → Bool
is_digits word = not (length word == 0) && list_all is_digit word

-- the number so far, and one more digit
abbrev pub add_digit : ℕ → ℕ → ℕ
add_digit size digit = 10 * size + (digit - 48)

-- the size that digits spell
abbrev pub digits_size : List ℕ → ℕ
digits_size digits = fold add_digit 0 digits

-- sizes from 2^50 on are not told apart
abbrev pub most : ℕ → ℕ
most size = min size (2 ^ 50)

-- the number of digits that come after a minus, or not
abbrev pub number_from : Bool → List ℕ → Option Number
number_from is_negative digits = if is_digits digits then Some (record { is_negative = is_negative; size = most (digits_size digits) }) else None

-- the number that a word spells
abbrev pub number_of : List ℕ → Option Number
number_of [] = None
number_of (b ∷ bs) = if b == 45 then number_from true bs else number_from false (b ∷ bs)

-- a number from low to high
abbrev pub number_within : ℕ → ℕ → Number → Option ℕ
number_within low high n = if (not n.is_negative || n.size == 0) && nat_le low n.size && nat_le n.size high then Some n.size else None

-- a number below a limit
abbrev pub number_below : ℕ → Number → Bool
number_below limit n = (n.is_negative && not (n.size == 0)) || nat_lt n.size limit

-- a number of 32 bits with its sign
abbrev pub number_signed : Number → Option ℤ
number_signed n =
    if n.is_negative then (if nat_le n.size (2 ^ 31) then Some (neg_ℤ (pos n.size)) else None)
    else if nat_lt n.size (2 ^ 31) then Some (pos n.size) else None

-- a size is above a limit, and below one, just where the one that is told is
abbrev pub SizesAreReported : Type 0
SizesAreReported = (size limit : ℕ) → limit < 2 ^ 50 → (nat_le (most size) limit ≡ nat_le size limit) × (nat_lt (most size) limit ≡ nat_lt size limit)
