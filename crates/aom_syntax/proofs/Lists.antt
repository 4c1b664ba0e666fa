-- What is left of a list in a word.
use Rattle.std.proofs.Common.{ℕ, ◌+◌, List, Option, Some, None, length}

-- how much is left of a list in a word
abbrev pub left_of : Option (List ℕ) → ℕ
left_of None = 0
left_of (Some rest) = length rest + 1
