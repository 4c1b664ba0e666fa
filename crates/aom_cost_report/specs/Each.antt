-- What is written of a number, of each element of a list, and at the end of a line.
use Rattle.std.specs.Prelude.{ℕ, ◌+◌, List, [], ◌∷◌, ◌++◌, codes}
use Rattle.std.specs.Fmt.{decimal}

-- words, and a number behind them
abbrev pub numbered : List ℕ → ℕ → List ℕ
numbered words number = words ++ decimal number

-- the end of a list of attributes, and of the line
abbrev pub line_end : List ℕ
line_end = codes "]" ++ 10 ∷ []

-- by the numbers of the elements, from that one on
abbrev pub each : {X : Type 0} → (ℕ → X → List ℕ) → ℕ → List X → List ℕ
each text number [] = []
each text number (x ∷ xs) = text number x ++ each text (number + 1) xs
