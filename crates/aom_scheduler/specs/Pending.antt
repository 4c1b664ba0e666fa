-- The timers that are set, in the order in which they are due.
use Rattle.std.specs.Prelude.{◌==◌, ℕ, Bool, nat_le, if◌then◌else◌, List, [], ◌∷◌, Option, Some, None, IsSome}
use Rattle.aom_scheduler.specs.Order.{IsOrdered}
use Rattle.aom_scheduler.specs.declared.timer.Timer.{Timer}

-- the timers by due time, and the number below which ids are
pub record Pending : Type 0 where
  pub timers : List Timer
  pub limit : ℕ

-- the first may stand before the second
abbrev pub no_later : Timer → Timer → Bool
no_later t u = nat_le t.due u.due

-- a timer of the object
abbrev pub timer_of : ℕ → ℕ → Timer
timer_of id due = record { id = id; due = due }

-- when the object's timer is due, if it has one
abbrev pub due_of : ℕ → List Timer → Option ℕ
due_of id [] = None
due_of id (t ∷ ts) = if t.id == id then Some t.due else due_of id ts

-- the object has a timer
abbrev pub IsSet : ℕ → Pending → Type 0
IsSet id p = IsSome (due_of id p.timers)

-- when the first is due
abbrev pub first_due : List Timer → Option ℕ
first_due [] = None
first_due (t ∷ ts) = Some t.due

-- the object of the first, if it is due by now
abbrev pub due_by : ℕ → List Timer → Option ℕ
due_by now [] = None
due_by now (t ∷ ts) = if nat_le t.due now then Some t.id else None

-- the timers without the first, if it is due by now
abbrev pub left_by : ℕ → List Timer → List Timer
left_by now [] = []
left_by now (t ∷ ts) = if nat_le t.due now then ts else t ∷ ts

-- ids are below the limit and distinct, and none is due before one that stands before it
abbrev pub AreInOrder : Pending → Type 0
AreInOrder p = IsOrdered (λ t. t.id) no_later p.limit p.timers
