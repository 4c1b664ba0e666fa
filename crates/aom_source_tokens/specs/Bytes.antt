-- Kinds of bytes, and what comes before a token.
use Rattle.std.specs.Prelude.{ℕ, Bool, true, false, not, ◌&&◌, ◌||◌, ◌==◌, ◌+◌, nat_le, if◌then◌else◌, List, [], ◌∷◌}

abbrev pub is_blank : ℕ → Bool
is_blank b = b == 32 || b == 9 || b == 13 || b == 10

abbrev pub is_digit : ℕ → Bool
is_digit b = nat_le 48 b && nat_le b 57

abbrev pub is_letter : ℕ → Bool
is_letter b = (nat_le 97 b && nat_le b 122) || (nat_le 65 b && nat_le b 90)

abbrev pub is_hexadecimal : ℕ → Bool
is_hexadecimal b = is_digit b || (nat_le 97 b && nat_le b 102) || (nat_le 65 b && nat_le b 70)

-- a byte of a number behind its first
abbrev pub is_number_byte : ℕ → Bool
is_number_byte b = is_digit b || b == 95

-- a byte of a name behind its first
abbrev pub is_name_byte : ℕ → Bool
is_name_byte b = is_letter b || is_digit b || b == 95

-- bytes that begin with `//`
abbrev pub begins_comment : List ℕ → Bool
begins_comment [] = false
begins_comment (b ∷ []) = false
begins_comment (b ∷ d ∷ bs) = b == 47 && d == 47

-- how many bytes of blanks and comments come first, within a comment or not
abbrev pub gap_length : Bool → List ℕ → ℕ
gap_length inside [] = 0
gap_length true (b ∷ bs) = 1 + gap_length (not (b == 10)) bs
gap_length false (b ∷ bs) = if begins_comment (b ∷ bs) then 1 + gap_length true bs else if is_blank b then 1 + gap_length false bs else 0
