use Rattle.std.proofs.Common.{length, ap, ◌∙◌}
use Rattle.aom_clients.specs.declared.client.Client.TheVariants.{Open}
use Rattle.aom_clients.proofs.clients.Clients.has_slot.Goals as goal
use Rattle.aom_clients.specs.Clients.{has_slot, sent_at}
use Rattle.aom_clients.proofs.Steps.{sent-is}

pub returns-in-Open : goal.returns-in-Open
returns-in-Open c = ap (λ n. has_slot n (Open c.in-Open.server c.in-Open.session c.in-Open.slots)) (c.count.ensures ∙ ap length (sent-is _ _ _ _ _ _
    c.self.invariant _ c.self.view_is c.args.client c.requires)) ∙ ap (has_slot (length (sent_at c.args.self.now c.args.client))) c.in-Open.ensures.value
