-- The slots of natives, by number: a living native, or None where it was killed.
use Rattle.std.specs.Prelude.{ℕ, ◌≡◌, ◌≢◌, List, [], Option, None, Some, length, IfSome, slice_index_or}
use Rattle.aom_natives.specs.Owed.{Agrees}

-- the living native with that number, if there is one
abbrev pub living_at : {L : Type 0} → List (Option L) → ℕ → Option L
living_at slots n = slice_index_or slots n None

-- the ids that are kept of a native: none where it is dead
abbrev pub ids_of : {L : Type 0} → (L → List ℕ) → Option L → List ℕ
ids_of kept None = []
ids_of kept (Some l) = kept l

abbrev pub ids_at : {L : Type 0} → (L → List ℕ) → List (Option L) → ℕ → List ℕ
ids_at kept slots n = ids_of kept (living_at slots n)

-- of each living native is kept what it owes
pub record AllAgree {L : Type 0} (kept owed : L → List ℕ) (slots : List (Option L)) : Type 0 where
  pub each : (n : ℕ) → IfSome (living_at slots n) (λ l. Agrees (kept l) (owed l))

-- there are as many slots, and each but one is as it was
pub record KeepsOthers {L : Type 0} (old new : List (Option L)) (n : ℕ) : Type 0 where
  pub count : length new ≡ length old
  pub others : (k : ℕ) → k ≢ n → living_at new k ≡ living_at old k
