-- Which cells have a session, and which natives are killed.
use Rattle.std.specs.Prelude.{ℕ, Bool, false, ◌≡◌, ◌≢◌, ◌==◌, ◌<◌, true, List, length, slice_index_or}
use Rattle.std.specs.List.{IsDistinct, list_any}

-- a flag for each number of a cell, and the natives that are killed, the first first
pub record Standing : Type 0 where
  pub flags : List Bool
  pub killed : List ℕ

-- the cell of that number has a session
abbrev pub is_open : Standing → ℕ → Bool
is_open s id = slice_index_or s.flags id false

-- that native is killed
abbrev pub is_killed : Standing → ℕ → Bool
is_killed s native = list_any (λ k. k == native) s.killed

-- the cell of that number has a session or none from then on, and all else is as before
pub record Sets (old new : Standing) (id : ℕ) (flag : Bool) : Type 0 where
  pub here : is_open new id ≡ flag
  pub others : (other : ℕ) → other ≢ id → is_open new other ≡ is_open old other
  pub places : length new.flags ≡ length old.flags
  pub killed : new.killed ≡ old.killed

-- numbers of natives, each once
pub record AreNatives (ns : List ℕ) : Type 0 where
  pub once : IsDistinct (λ a b. a == b) ns
  pub small : (n : ℕ) → list_any (λ k. n == k) ns ≡ true → n < 256
