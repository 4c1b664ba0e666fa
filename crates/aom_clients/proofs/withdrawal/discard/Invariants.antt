use Rattle.std.proofs.Common.{◌≡◌, ◌<◌, ℕ, [], length}
use Rattle.aom_clients.specs.Lists.{IsIn, list_at, with_list}
use Rattle.aom_clients.specs.Withdrawals.{left_each}
use Rattle.aom_clients.proofs.withdrawal.discard.Given as goal

-- what is left of the list comes to what the whole list comes to
abbrev pub invariant-loop-place : goal.invariant-loop-place
invariant-loop-place l = record {
  list : l.list < length l.sent.lists;
  within : (m : ℕ) → IsIn m (list_at l.sent l.list) → m < length l.places;
  sent : with_list l.list [] l.sent ≡ with_list l.list [] l.initial.sent;
  places : left_each (list_at l.sent l.list) l.places ≡ left_each (list_at l.initial.sent l.list) l.initial.places;
}

abbrev pub decreases-loop-place : goal.decreases-loop-place
decreases-loop-place l = length (list_at l.sent l.list)
