-- The first element of a list of which something does not hold.
use Rattle.std.specs.Prelude.{◌<◌, ℕ, List, length, Option, Some, None, IfSome, slice_get}

-- it does not hold of the element at a place, and it holds of each before that
pub record FirstNot {X : Type 0} (P : ℕ → X → Type 0) (xs : List X) (i : ℕ) : Type 0 where
  pub there : i < length xs
  pub fails : ¬ IfSome (slice_get xs i) (P i)
  pub before : (k : ℕ) → k < i → IfSome (slice_get xs k) (P k)

-- the place of the first; none where it holds of each
abbrev pub FirstOf : {X : Type 0} → (ℕ → X → Type 0) → List X → Option ℕ → Type 0
FirstOf P xs None = (k : ℕ) → IfSome (slice_get xs k) (P k)
FirstOf P xs (Some i) = FirstNot P xs i
