use Rattle.std.proofs.Common.{◌∙◌}
use Rattle.aom_clients.proofs.Same.{kept-as, state-as}
use Rattle.aom_clients.proofs.clients.Clients.with_limit.Goals as goal
use Rattle.aom_clients.proofs.Answering.{at-first, at-first-seen}

pub invariant_of-result : goal.invariant_of-result
invariant_of-result c = kept-as _ _ _ _ _ _ _ _ _ _ _ _ c.in_ok-clients.ensures c.in_ok-places.ensures c.in_ok-queues.ensures c.in_ok-connects.ensures
    c.in_ok-sessions.ensures c.in_ok-sent.ensures (at-first c.args.cells c.requires)

pub returns : goal.returns
returns c = state-as _ _ _ _ _ _ _ _ _ _ c.in_ok-clients.ensures c.in_ok-places.ensures c.in_ok-queues.ensures c.in_ok-sessions.ensures c.in_ok-sent.ensures
    ∙ at-first-seen c.args.cells
