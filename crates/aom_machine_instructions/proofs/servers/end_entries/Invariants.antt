use Rattle.std.proofs.Common.{length}
use Rattle.aom_clients.specs.Clients.{queue_at}
use Rattle.aom_machine_instructions.proofs.Reclaiming.{Going}
use Rattle.aom_machine_instructions.proofs.servers.end_entries.Given as goal

abbrev pub invariant-loop-taken : goal.invariant-loop-taken
invariant-loop-taken l = Going l.server l.fn.parts l.parts l.fn.lines l.lines

abbrev pub decreases-loop-taken : goal.decreases-loop-taken
decreases-loop-taken l = length (queue_at l.parts.clients l.server)
