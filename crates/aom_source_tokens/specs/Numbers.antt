-- What digits say.
use Rattle.std.specs.Prelude.{ℕ, ◌==◌, ◌+◌, ◌-◌, ◌*◌, nat_le, if◌then◌else◌, List}
use Rattle.std.specs.List.{fold}

-- a number and one more byte, a digit or `_`
abbrev pub decimal_more : ℕ → ℕ → ℕ
decimal_more value byte = if byte == 95 then value else 10 * value + (byte - 48)

abbrev pub decimal_value : List ℕ → ℕ
decimal_value digits = fold decimal_more 0 digits

abbrev pub hexadecimal_digit : ℕ → ℕ
hexadecimal_digit byte = if nat_le 97 byte then byte - 87 else if nat_le 65 byte then byte - 55 else byte - 48

abbrev pub hexadecimal_more : ℕ → ℕ → ℕ
hexadecimal_more value byte = 16 * value + hexadecimal_digit byte

abbrev pub hexadecimal_value : List ℕ → ℕ
hexadecimal_value digits = fold hexadecimal_more 0 digits
