-- How words make a line.
use Rattle.std.specs.Prelude.{ℕ, List, [], ◌∷◌, ◌++◌, codes, flat_map}

-- parts, each behind that byte
abbrev pub behind : ℕ → List (List ℕ) → List ℕ
behind byte parts = flat_map (λ p. byte ∷ p) parts

-- parts with that byte between each two
abbrev pub parted_by : ℕ → List (List ℕ) → List ℕ
parted_by byte [] = []
parted_by byte (p ∷ ps) = p ++ behind byte ps

-- a statement's line: one space between words, and a line feed
abbrev pub line_of : List (List ℕ) → List ℕ
line_of words = parted_by 32 words ++ 10 ∷ []

-- a list in one word, where a minus is the empty one
abbrev pub list_word : List (List ℕ) → List ℕ
list_word [] = codes "-"
list_word (p ∷ ps) = parted_by 44 (p ∷ ps)
