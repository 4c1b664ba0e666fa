-- How the loops of a method lie.
use Rattle.std.specs.Prelude.{◌≡◌, ◌<◌, ◌+◌, ◌⊎◌, ℕ, suc, Bool, true, false, List, Option, Some, None, IfSome, slice_get, take, count_by}
use Rattle.aom_image.specs.Views.{transfer_in}
use Rattle.aom_instructions.specs.Table.{transfer_of}
use Rattle.aom_instructions.specs.declared.instr.Instr.{Instr}
use Rattle.aom_instructions.specs.declared.transfer.Transfer.{Transfer}
use Rattle.aom_instructions.specs.declared.transfer.Transfer.TheVariants.{Begin, Repeat}
use Rattle.aom_link_conditions.specs.Jumps.{begins_loop}

-- the number of a loop
abbrev pub begun_by : Option Transfer → Option ℕ
begun_by (Some (Begin d n)) = Some d
begun_by _ = None

unfoldable pub loop_in : Option Instr → Option ℕ
loop_in o = begun_by (transfer_in o)

-- the loop that begins at a place
abbrev pub loop_at : List Instr → ℕ → Option ℕ
loop_at code p = loop_in (slice_get code p)

-- a next, with the number of its loop and the place that it goes back to
pub record Ending : Type 0 where
  pub number : ℕ
  pub back : ℕ

abbrev pub repeated_by : Option Transfer → Option Ending
repeated_by (Some (Repeat d t)) = Some (record { number = d; back = t })
repeated_by _ = None

unfoldable pub next_in : Option Instr → Option Ending
next_in o = repeated_by (transfer_in o)

-- the next that stands at a place
abbrev pub next_at : List Instr → ℕ → Option Ending
next_at code q = next_in (slice_get code q)

-- the loop at p has that number, and the later next at q is of that number and goes back to the place after p
pub record Closes (code : List Instr) (number p q : ℕ) : Type 0 where
  pub begins : loop_at code p ≡ Some number
  pub later : p < q
  pub ends : next_at code q ≡ Some (record { number = number; back = suc p })

-- one next closes it
pub record ClosedOnce (code : List Instr) (number p : ℕ) : Type 0 where
  pub place : ℕ
  pub closes : Closes code number p place
  pub only : (q : ℕ) → Closes code number p q → q ≡ place

-- a next closes a loop
pub record ClosesSome (code : List Instr) (number q : ℕ) : Type 0 where
  pub place : ℕ
  pub closes : Closes code number place q

-- one lies after the other or within it
abbrev pub ApartOrWithin : ℕ → ℕ → ℕ → Type 0
ApartOrWithin q r s = (q < r) ⊎ (s < q)

abbrev pub repeats : Transfer → Bool
repeats (Repeat d t) = true
repeats _ = false

unfoldable pub is_next : Instr → Bool
is_next i = repeats (transfer_of i)

-- how many loops began before a place, and how many ended
abbrev pub begun : List Instr → ℕ → ℕ
begun code p = count_by begins_loop (take p code)

abbrev pub ended : List Instr → ℕ → ℕ
ended code p = count_by is_next (take p code)

-- each loop is closed by one next and each next closes a loop, no two loops cross, and a loop's number counts those around it: begun before it, and not ended
pub record LoopsNest (code : List Instr) : Type 0 where
  pub closed : (p d : ℕ) → loop_at code p ≡ Some d → ClosedOnce code d p
  pub closing : (q : ℕ) → IfSome (next_at code q) (λ e. ClosesSome code e.number q)
  pub nested : (c d p q r s : ℕ) → Closes code c p q → Closes code d r s → p < r → ApartOrWithin q r s
  pub number : (p d : ℕ) → loop_at code p ≡ Some d → d + ended code p ≡ begun code p
