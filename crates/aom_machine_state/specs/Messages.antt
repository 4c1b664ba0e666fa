-- The messages that are kept, and those of the checked machine.
use Rattle.std.specs.Prelude.{◌≡◌, ◌<◌, ◌≤◌, ℕ, Bool, false, not, is_some, List, Option, Some, None}
use Rattle.aom_image.specs.Image.{Image}
use Rattle.aom_roles.specs.Things.{is_object}
use Rattle.aom_cells.specs.Store.{Store, count, message_at, word_at}
use Rattle.aom_machine_state.specs.Serving.{message_name}
use Rattle.aom_semantics.specs.Clients.{count_messages}
use Rattle.aom_semantics.specs.Places.{Cell, Object, named, word_field}

-- what lives there is a message
abbrev pub is_a_message : Option Object → Bool
is_a_message None = false
is_a_message (Some o) = not (is_object o.thing)

-- the same messages are kept, by their places, with the same words
pub record SameMessages (p : Image) (s : Store) (cs : List Cell) : Type 0 where
  pub there : (m : ℕ) → is_some (message_at s m) ≡ is_a_message (named cs (message_name m))
  -- there are 1,024 places
  pub within : (m : ℕ) → 1024 ≤ m → message_at s m ≡ None
  -- the numbers below are those of cells
  pub past : (n : ℕ) → n < message_name 0 → is_a_message (named cs n) ≡ false
  pub words : (m w : ℕ) → word_at s m w ≡ word_field cs (message_name m) w
  pub count : count s ≡ count_messages cs
  pub limit : s.limit ≡ p.header.messages
