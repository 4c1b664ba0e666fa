-- The messages as a contract sees them: a finite map from places to words, and how many may be kept.
use Rattle.std.specs.Prelude.{◌≡◌, ◌≢◌, ◌<◌, ◌≤◌, ℕ, ℤ, pos, List, Option, Some, None, IsSome, is_some, count_by, slice_index_or}

-- the words of the message or nothing at each place, and how many may be kept
pub record Store : Type 0 where
  pub slots : List (Option (List ℤ))
  pub limit : ℕ

-- the number of the message at place 0
abbrev pub first_number : ℕ
first_number = 4096

-- the words of the message at a place, if one is kept there
abbrev pub message_at : Store → ℕ → Option (List ℤ)
message_at s place = slice_index_or s.slots place None

-- a message is kept at the place
abbrev pub IsStored : Store → ℕ → Type 0
IsStored s place = IsSome (message_at s place)

-- how many are kept
abbrev pub count : Store → ℕ
count s = count_by is_some s.slots

-- a word of a message, and 0 where there is none
abbrev pub word_of : Option (List ℤ) → ℕ → ℤ
word_of None w = pos 0
word_of (Some words) w = slice_index_or words w (pos 0)

-- a word of the message at a place
abbrev pub word_at : Store → ℕ → ℕ → ℤ
word_at s place w = word_of (message_at s place) w

-- the new store has this at the place, and all else as before
pub record Changes (old new : Store) (place : ℕ) (message : Option (List ℤ)) : Type 0 where
  pub here : message_at new place ≡ message
  pub others : (other : ℕ) → other ≢ place → message_at new other ≡ message_at old other
  pub limit : new.limit ≡ old.limit

-- no more messages are kept than may be, and their places are below that limit, which is 1,024 at most
abbrev pub IsBounded : Store → Type 0
IsBounded s = (count s ≤ s.limit) × ((place : ℕ) → IsStored s place → place < s.limit) × (s.limit ≤ 1024)
