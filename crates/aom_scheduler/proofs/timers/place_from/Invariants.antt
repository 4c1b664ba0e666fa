use Rattle.std.proofs.Common.{◌≡◌, ◌≤◌, ◌-◌, ℕ, Some, length}
use Rattle.aom_scheduler.specs.Order.{place_of}
use Rattle.aom_scheduler.proofs.timers.place_from.Given as goal

abbrev pub invariant-loop-id : goal.invariant-loop-id
invariant-loop-id l = (p : ℕ) → place_of (λ t. t.id) l.id l.queue.items ≡ Some p → l.at ≤ p

abbrev pub decreases-loop-id : goal.decreases-loop-id
decreases-loop-id l = length l.queue.items - l.at
