use Rattle.std.proofs.Common.{◌≡◌, ◌+◌, ◌++◌, [], length}
use Rattle.aom_clients.specs.Lists.{list_at, with_list}
use Rattle.aom_clients.proofs.withdrawal.release.Given as goal

-- the messages that are left come behind those that were moved
abbrev pub invariant-loop-place : goal.invariant-loop-place
invariant-loop-place l = record {
  lists : length l.sent.lists ≡ 128;
  sent : with_list l.client [] (with_list (64 + l.client) (list_at l.sent (64 + l.client) ++ list_at l.sent l.client) l.sent)
      ≡ with_list l.client [] (with_list (64 + l.client) (list_at l.initial.sent (64 + l.client) ++ list_at l.initial.sent l.client) l.initial.sent);
}

abbrev pub decreases-loop-place : goal.decreases-loop-place
decreases-loop-place l = length (list_at l.sent l.client)
