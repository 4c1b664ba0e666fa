-- The ways to what is owned: how the map of owners spells them, and what way words spell.
use Rattle.std.specs.Prelude.{◌≡◌, ◌≤◌, ℕ, Bool, ◌&&◌, ◌==◌, nat_le, if◌then◌else◌, List, [], ◌∷◌, ◌++◌, codes, decimal, length, Option, Some, None}
use Rattle.std.specs.List.{flat_map, slice_split}
use Rattle.std.specs.Str.{bytes_eq}
use Rattle.aom_text.specs.Numbers.{number_of, number_within}
use Rattle.aom_text.specs.Words.{words}
use Rattle.aom_text.specs.declared.number.Number.{Number}
use Rattle.aom_debug_protocol.specs.declared.way.Branch.{Branch}
use Rattle.aom_debug_protocol.specs.declared.way.Branch.TheVariants.{Field, Session}
use Rattle.aom_debug_protocol.specs.declared.way.Outer.{Outer}
use Rattle.aom_debug_protocol.specs.declared.way.Outer.TheVariants.{Entry, Going, Register, Root, Service}

-- the way to an object
pub record Way : Type 0 where
  pub outer : Outer
  -- the outermost first
  pub branches : List Branch

abbrev pub way_at : Outer → Way
way_at outer = record { outer = outer; branches = [] }

abbrev pub further : Way → Branch → Way
further w b = record w { branches = w.branches ++ b ∷ [] }

-- ---- how they are spelled

abbrev pub outer_text : Outer → List ℕ
outer_text Root = codes "root"
outer_text (Register frame i) = codes "reg " ++ decimal frame ++ codes " r" ++ decimal i
outer_text (Entry k) = codes "clean " ++ decimal k
outer_text Service = codes "service"
outer_text (Going k) = codes "going " ++ decimal k

abbrev pub branch_text : Branch → List ℕ
branch_text (Field f) = codes ".f" ++ decimal f
branch_text (Session c) = codes ".s" ++ decimal c

abbrev pub way_text : Way → List ℕ
way_text w = outer_text w.outer ++ flat_map branch_text w.branches

-- ---- numbers

-- a number from 0 to high
abbrev pub up_to : ℕ → Option Number → Option ℕ
up_to high None = None
up_to high (Some n) = number_within 0 high n

-- ---- branches, which stand between dots

abbrev pub is_dot : ℕ → Bool
is_dot b = b == 46

abbrev pub field_said : Option ℕ → Option Branch
field_said None = None
field_said (Some f) = Some (Field f)

abbrev pub session_said : Option ℕ → Option Branch
session_said None = None
session_said (Some c) = Some (Session c)

-- `f` and a number, or `s` and a number
abbrev pub branch_said : List ℕ → Option Branch
branch_said [] = None
branch_said (b ∷ digits) =
    if b == 102 then field_said (up_to 7 (number_of digits))
    else if b == 115 then session_said (up_to 63 (number_of digits))
    else None

-- one before others, where all are any
abbrev pub before : Option Branch → Option (List Branch) → Option (List Branch)
before (Some b) (Some bs) = Some (b ∷ bs)
before _ _ = None

abbrev pub branches_said : List (List ℕ) → Option (List Branch)
branches_said [] = Some []
branches_said (part ∷ parts) = before (branch_said part) (branches_said parts)

-- the parts of what stands behind a dot, if there is one
abbrev pub parts_in : Option (List ℕ) → List (List ℕ)
parts_in None = []
parts_in (Some rest) = slice_split is_dot rest

-- ---- places that are in no object

abbrev pub plain_outer : List ℕ → Option Outer
plain_outer place =
    if bytes_eq place (codes "root") then Some Root
    else if bytes_eq place (codes "service") then Some Service
    else None

abbrev pub entry_by : Option ℕ → Option Outer
entry_by None = None
entry_by (Some k) = Some (Entry k)

abbrev pub going_by : Option ℕ → Option Outer
going_by None = None
going_by (Some k) = Some (Going k)

abbrev pub numbered_outer : List ℕ → List ℕ → Option Outer
numbered_outer place number =
    if bytes_eq place (codes "clean") then entry_by (up_to 65535 (number_of number))
    else if bytes_eq place (codes "going") then going_by (up_to 65535 (number_of number))
    else None

abbrev pub register_by : Option ℕ → Option ℕ → Option Outer
register_by (Some frame) (Some i) = Some (Register frame i)
register_by _ _ = None

abbrev pub register_outer : List ℕ → List ℕ → List ℕ → Option Outer
register_outer place frame [] = None
register_outer place frame (b ∷ digits) = if (b == 114) && bytes_eq place (codes "reg") then register_by (up_to 65535 (number_of frame)) (up_to 15 (number_of digits)) else None

-- ---- ways

-- a line has no room for a way of more branches
abbrev pub fitting : Way → Option Way
fitting w = if nat_le (length w.branches) 85 then Some w else None

abbrev pub path_from : Option Outer → Option (List Branch) → Option Way
path_from (Some outer) (Some bs) = fitting (record { outer = outer; branches = bs })
path_from _ _ = None

-- by what stands before the first dot, and then between dots
abbrev pub path_by : (List ℕ → Option Outer) → List (List ℕ) → Option Way
path_by outer [] = None
path_by outer (place ∷ parts) = path_from (outer place) (branches_said parts)

-- of one word, two or three; the last has the branches
abbrev pub path_said : List (List ℕ) → Option Way
path_said (place ∷ []) = path_by plain_outer (slice_split is_dot place)
path_said (place ∷ number ∷ []) = path_by (numbered_outer place) (slice_split is_dot number)
path_said (place ∷ frame ∷ register ∷ []) = path_by (register_outer place frame) (slice_split is_dot register)
path_said _ = None

-- ---- what is told is read back

-- the numbers are those that there may be
abbrev pub IsOuter : Outer → Type 0
IsOuter (Register frame i) = (frame ≤ 65535) × (i ≤ 15)
IsOuter (Entry k) = k ≤ 65535
IsOuter (Going k) = k ≤ 65535
IsOuter _ = Unit {0}

abbrev pub IsBranch : Branch → Type 0
IsBranch (Field f) = f ≤ 7
IsBranch (Session c) = c ≤ 63

abbrev pub AreBranches : List Branch → Type 0
AreBranches [] = Unit {0}
AreBranches (b ∷ bs) = IsBranch b × AreBranches bs

-- a way that fits a line is read back from its text
abbrev pub PathsReadBack : Type 0
PathsReadBack = (w : Way) → IsOuter w.outer → AreBranches w.branches → path_said (words (way_text w)) ≡ fitting w
