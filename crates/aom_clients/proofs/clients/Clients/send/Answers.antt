use Rattle.std.proofs.Common.{Some, length, sym, ap, ◌∙◌}
use Rattle.aom_clients.specs.Clients.{client_at}
use Rattle.aom_clients.proofs.clients.Clients.send.Goals as goal
use Rattle.aom_clients.specs.Table.{row}
use Rattle.aom_clients.specs.Clients.{sending_to, has_slot, sent_at}
use Rattle.aom_clients.proofs.Answering.{slot-taken}

pub queue_message-requires-clause-slot : goal.queue_message-requires-clause-slot
queue_message-requires-clause-slot c =
    let s = c.args.self.now in
    let b = has_slot (length (sent_at s c.args.client)) (client_at s c.args.client) in
    slot-taken b c.in-Some-place.place (ap (λ x. sending_to (row x).send b (Some c.in-Some-place.place)) c.in-Open.ensures.value
    ∙ ap (sending_to (row (client_at s c.args.client)).send b) (sym c.in-Some-place.is) ∙ sym c.send_refusal.ensures ∙ c.in_default.is)
