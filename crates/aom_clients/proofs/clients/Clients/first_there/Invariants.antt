use Rattle.std.proofs.Common.{◌≡◌, ◌<◌, ℕ, Some, length}
use Rattle.aom_clients.specs.Clients.{first_there, sessions_at}
use Rattle.aom_clients.specs.Lists.{IsIn}
use Rattle.aom_clients.proofs.Looking.{from}
use Rattle.aom_clients.proofs.clients.Clients.first_there.Given as goal

-- from the next client on the list has the first that the whole list has
abbrev pub invariant-loop-next : goal.invariant-loop-next
invariant-loop-next l = record {
  inside : (d : ℕ) → l.next ≡ Some d → IsIn d (sessions_at l.self l.server);
  below : (d : ℕ) → l.next ≡ Some d → d < 64;
  rest : first_there l.self (from l.next (sessions_at l.self l.server)) ≡ first_there l.self (sessions_at l.self l.server);
}

abbrev pub decreases-loop-next : goal.decreases-loop-next
decreases-loop-next l = length (from l.next (sessions_at l.self l.server))
