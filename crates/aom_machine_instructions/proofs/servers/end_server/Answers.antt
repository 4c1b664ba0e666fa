use Rattle.std.proofs.Common.{ap, ◌∙◌}
use Rattle.aom_clients.specs.Clients.{queue_at, queue_gone, sessions_gone}
use Rattle.aom_machine_instructions.proofs.Reclaiming.{sessions_still}
use Rattle.aom_machine_instructions.proofs.servers.end_server.Goals as goal

pub returns-clause-clients : goal.returns-clause-clients
returns-clause-clients c =
    let s = c.args.parts.now.clients in
    let n = c.args.server in
    c.end_sessions.ensures ∙ rw c.end_queue.ensures.clients (ap (λ cs. sessions_gone n cs (queue_gone n (queue_at s n) s)) (sessions_still n (queue_at s n) s))

pub end_queue-requires-clause-can : goal.end_queue-requires-clause-can
end_queue-requires-clause-can c = c.requires.can

pub end_sessions-requires-clause-empty : goal.end_sessions-requires-clause-empty
end_sessions-requires-clause-empty c = c.end_queue.ensures.empty
