-- Lists of ids that a native owes, whose order means nothing.
use Rattle.std.specs.Prelude.{ℕ, ◌≡◌, ◌<◌, ◌≤◌, List, [], ◌∷◌, ◌++◌, count_by, ◌==◌}

-- how often an id stands in a list
abbrev pub times : ℕ → List ℕ → ℕ
times id ids = count_by (λ x. id == x) ids

-- the id is not in the list
abbrev pub IsNew : List ℕ → ℕ → Type 0
IsNew ids id = times id ids ≡ 0

-- the id is in the list
abbrev pub IsOwed : List ℕ → ℕ → Type 0
IsOwed ids id = 0 < times id ids

-- both lists have the same ids, in any order
pub record SameIds (xs ys : List ℕ) : Type 0 where
  pub at : (id : ℕ) → times id xs ≡ times id ys

-- what is kept of a native is what it owes: the same ids, none of them twice
pub record Agrees (kept owed : List ℕ) : Type 0 where
  pub same : SameIds kept owed
  pub once : (id : ℕ) → times id kept ≤ 1

-- new is old without one x, and the others stand in their order
pub record TakesOut {X : Type 0} (x : X) (old new : List X) : Type 0 where
  pub before : List X
  pub after : List X
  pub was : old ≡ before ++ x ∷ after
  pub is : new ≡ before ++ after

-- none of the boxes owes anything
abbrev pub OweNothing : {B : Type 0} → (B → List ℕ) → List B → Type 0
OweNothing owed [] = Unit {0}
OweNothing owed (b ∷ bs) = (owed b ≡ []) × OweNothing owed bs
