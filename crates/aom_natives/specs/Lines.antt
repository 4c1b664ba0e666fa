-- What a line keeps.
use Rattle.std.specs.Prelude.{ℕ, ℤ, List, [], ◌∷◌, Option, Some, None}

-- the ids that it owes, and the words that came, both in their order
pub record Queues : Type 0 where
  pub owed : List ℕ
  pub words : List ℤ

-- the first id with the first word, where there are both
abbrev pub first_pair : List ℕ → List ℤ → Option (ℕ × ℤ)
first_pair [] words = None
first_pair (id ∷ ids) [] = None
first_pair (id ∷ ids) (word ∷ words) = Some (id, word)
