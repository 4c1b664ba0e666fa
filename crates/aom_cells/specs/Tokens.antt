-- Which messages are tokens, whose they are, and which token each object waits for.
use Rattle.std.specs.Prelude.{◌≡◌, ◌≢◌, ◌==◌, ℕ, Bool, false, cond, List, length, Option, Some, None, replicate, slice_index_or}
use Rattle.aom_cells.specs.declared.tokens.Token.{Token}

-- by the place of a message the token there, and by the number of a cell the place of the token that it waits for
pub record Kept : Type 0 where
  pub places : List (Option Token)
  pub living : List (Option ℕ)

-- places for so many messages and cells, and no token
abbrev pub none_of : ℕ → ℕ → Kept
none_of messages cells = record { places = replicate messages None; living = replicate cells None }

-- the token at a place, if there is one
abbrev pub token_at : Kept → ℕ → Option Token
token_at w place = slice_index_or w.places place None

abbrev pub class_kept : Option Token → Option ℕ
class_kept None = None
class_kept (Some t) = Some t.class

abbrev pub object_kept : Option Token → Option ℕ
object_kept None = None
object_kept (Some t) = Some t.object

-- the class of its object, and the object's number
abbrev pub class_at : Kept → ℕ → Option ℕ
class_at w place = class_kept (token_at w place)

abbrev pub object_at : Kept → ℕ → Option ℕ
object_at w place = object_kept (token_at w place)

-- the place of the token that an object waits for
abbrev pub live_at : Kept → ℕ → Option ℕ
live_at w id = slice_index_or w.living id None

-- what an object waits for is at that place
abbrev pub is_at : ℕ → Option ℕ → Bool
is_at place None = false
is_at place (Some other) = other == place

-- the object, where it waits for what is at that place
abbrev pub waiting : Kept → ℕ → Option ℕ → Option ℕ
waiting w place None = None
waiting w place (Some id) = cond (is_at place (live_at w id)) (Some id) None

-- the object of the token at a place, where that is the one it waits for
abbrev pub redeemed : Kept → ℕ → Option ℕ
redeemed w place = waiting w place (object_at w place)

-- one value becomes another, and all others are as before
pub record Sets {T : Type 0} (old new : List (Option T)) (at : ℕ) (value : Option T) : Type 0 where
  pub here : slice_index_or new at None ≡ value
  pub others : (other : ℕ) → other ≢ at → slice_index_or new other None ≡ slice_index_or old other None
  pub size : length new ≡ length old
