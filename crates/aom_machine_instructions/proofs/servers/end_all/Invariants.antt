use Rattle.std.proofs.Common.{◌≡◌, ◌<◌, [], length}
use Rattle.aom_clients.specs.Clients.{queue_at, sessions_at, sessions_gone}
use Rattle.aom_machine_instructions.proofs.servers.end_all.Given as goal

abbrev pub invariant-loop : goal.invariant-loop
invariant-loop l = (l.server < length l.clients.queues) × (queue_at l.clients l.server ≡ [])
    × (sessions_gone l.server (sessions_at l.clients l.server) l.clients ≡ sessions_gone l.server (sessions_at l.fn.clients l.server) l.fn.clients)

abbrev pub decreases-loop : goal.decreases-loop
decreases-loop l = length (sessions_at l.clients l.server)
