-- Words: what stands between blanks.
use Rattle.std.specs.Prelude.{ℕ, Bool, true, false, ◌&&◌, ◌||◌, ◌==◌, nat_le, List, [], ◌∷◌, filter, Option, Some, None}
use Rattle.std.specs.List.{slice_split}

-- a byte that parts words: a space, a tab or a carriage return
abbrev pub is_blank : ℕ → Bool
is_blank b = b == 32 || b == 9 || b == 13

-- a byte that a line may have
abbrev pub is_plain : ℕ → Bool
is_plain b = (nat_le 32 b && nat_le b 126) || is_blank b

-- it has a byte
abbrev pub has_bytes : List ℕ → Bool
has_bytes [] = false
has_bytes (b ∷ bs) = true

-- the words of a part of a line
abbrev pub words : List ℕ → List (List ℕ)
words part = filter has_bytes (slice_split is_blank part)

-- what was split off, before what is left; nothing where nothing was split off
abbrev pub split_by : {X Y R : Type 0} → (X → Y) → (R → List Y) → Option (X × R) → List Y
split_by first rest None = []
split_by first rest (Some p) = first p.0 ∷ rest p.1

-- the first word
abbrev pub first_of : List (List ℕ) → Option (List ℕ)
first_of [] = None
first_of (w ∷ ws) = Some w

-- the words after the first
abbrev pub others_of : List (List ℕ) → List (List ℕ)
others_of [] = []
others_of (w ∷ ws) = ws

-- no word is left
abbrev pub is_none_left : List (List ℕ) → Bool
is_none_left [] = true
is_none_left (w ∷ ws) = false
