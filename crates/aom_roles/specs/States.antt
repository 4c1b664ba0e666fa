-- Sets of request states, as numbers.
use Rattle.std.specs.Prelude.{◌≡◌, ℕ, Option, Some, IsTrue, bit_or}
use Rattle.aom_image.specs.Views.{has}
use Rattle.aom_image.specs.declared.class.ClassKind.{ClassKind}
use Rattle.aom_image.specs.declared.class.ClassKind.TheVariants.{Active, Server}

abbrev pub unlisted : ℕ
unlisted = 1

abbrev pub idle : ℕ
idle = 2

-- the states of a server
abbrev pub server_states : ℕ
server_states = bit_or unlisted idle

abbrev pub active : ℕ
active = 8

-- the states of an active object while nothing works on it
abbrev pub active_states : ℕ
active_states = bit_or server_states active

abbrev pub issued : ℕ
issued = 4

-- being cancelled with its request open
abbrev pub cancel_open : ℕ
cancel_open = 16

-- being cancelled with its request done
abbrev pub cancel_done : ℕ
cancel_done = 32

abbrev pub no_state : ℕ
no_state = 0

-- the states in which the objects of a kind of class may be while nothing works on them
unfoldable pub states_of : Option ClassKind → ℕ
states_of (Some (Active provider)) = active_states
states_of (Some (Server most session)) = server_states
states_of _ = no_state

-- the state in which they begin
unfoldable pub first_of : Option ClassKind → ℕ
first_of (Some (Active provider)) = unlisted
first_of (Some (Server most session)) = unlisted
first_of _ = no_state

-- the states in which their destructor ends
unfoldable pub last_of : Option ClassKind → ℕ
last_of (Some (Active provider)) = server_states
last_of (Some (Server most session)) = server_states
last_of _ = no_state

-- a part of a set, which is not empty unless that set is
pub record IsPart (whole set : ℕ) : Type 0 where
  pub within : IsTrue (has whole set)
  pub some : set ≡ 0 → whole ≡ 0
