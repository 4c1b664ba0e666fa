-- A line while it comes.
use Rattle.std.specs.Prelude.{ℕ, Bool, nat_lt, if◌then◌else◌, List, length, take, Option, Some, None}

-- the first 256 bytes of what has come, and whether there were more
pub record Kept : Type 0 where
  pub bytes : List ℕ
  pub is_long : Bool

-- what is kept of a line
abbrev pub pending_of : List ℕ → Kept
pending_of line = record { bytes = take 256 line; is_long = nat_lt 256 (length line) }

-- a line that is no longer than one may be
abbrev pub fitting_line : List ℕ → Option (List ℕ)
fitting_line line = if nat_lt 256 (length line) then None else Some line
