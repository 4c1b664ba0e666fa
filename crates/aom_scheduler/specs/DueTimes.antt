-- When each object's timer is due, in a list by id.
use Rattle.std.specs.Prelude.{◌≡◌, ℕ, List, Option, None, length, slice_index_or}
use Rattle.aom_scheduler.specs.Order.{IsOrdered}
use Rattle.aom_scheduler.specs.Pending.{due_of, no_later}
use Rattle.aom_scheduler.specs.declared.timer.Timer.{Timer}

-- the timers are in order, and the list says when each is due
pub record IsTimed (timers : List Timer) (due_times : List (Option ℕ)) : Type 0 where
  pub ordered : IsOrdered (λ t. t.id) no_later (length due_times) timers
  pub says : (id : ℕ) → slice_index_or due_times id None ≡ due_of id timers
