use Rattle.std.proofs.Common.{◌≡◌, ◌<◌, ◌≤◌, ◌+◌, ◌++◌, ℕ, [], length}
use Rattle.aom_clients.specs.Lists.{IsIn, list_at, with_list}
use Rattle.aom_clients.specs.Withdrawals.{without_each, left_each, waiting_each}
use Rattle.aom_clients.proofs.withdrawal.withdraw.Given as goal

-- what is left of the list comes to what the whole list comes to
abbrev pub invariant-loop-place : goal.invariant-loop-place
invariant-loop-place l = record {
  list : l.list < length l.sent.lists;
  within : (m : ℕ) → IsIn m (list_at l.sent l.list) → m < length l.places;
  room : length l.freed.items + length (list_at l.sent l.list) ≤ 64;
  sent : with_list l.list [] l.sent ≡ with_list l.list [] l.initial.sent;
  queues : record l.queues { lists = without_each (list_at l.sent l.list) l.queues.lists }
      ≡ record l.initial.queues { lists = without_each (list_at l.initial.sent l.list) l.initial.queues.lists };
  places : left_each (list_at l.sent l.list) l.places ≡ left_each (list_at l.initial.sent l.list) l.initial.places;
  freed : l.freed.items ++ waiting_each (list_at l.sent l.list) l.places ≡ waiting_each (list_at l.initial.sent l.list) l.initial.places;
}

abbrev pub decreases-loop-place : goal.decreases-loop-place
decreases-loop-place l = length (list_at l.sent l.list)
