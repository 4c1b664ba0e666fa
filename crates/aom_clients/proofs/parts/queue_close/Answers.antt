use Rattle.std.proofs.Common.{◌<◌, ◌++◌, ◌∷◌, [], ap, sym, subst, ◌∙◌}
use Rattle.aom_clients.specs.Lists.{IsFree, list_at, with_list}
use Rattle.aom_clients.specs.Parts.{CanClose, close_queued}
use Rattle.aom_clients.proofs.parts.queue_close.Goals as goal

pub push_last-requires-clause-list : goal.push_last-requires-clause-list
push_last-requires-clause-list c = (subst (λ o. CanClose o c.args.client c.args.queues.now) c.in-Open.is c.requires).list

pub push_last-requires-clause-node : goal.push_last-requires-clause-node
push_last-requires-clause-node c =
    subst (λ n. n < c.args.queues.now.nodes) (sym c.close_node.ensures) (subst (λ o. CanClose o c.args.client c.args.queues.now) c.in-Open.is c.requires).node

pub push_last-requires-clause-free : goal.push_last-requires-clause-free
push_last-requires-clause-free c =
    subst (IsFree c.args.queues.now) (sym c.close_node.ensures) (subst (λ o. CanClose o c.args.client c.args.queues.now) c.in-Open.is c.requires).free

pub returns-in-Open : goal.returns-in-Open
returns-in-Open c =
    let q = c.args.queues.now in
    c.push_last.ensures ∙ ap (λ n. with_list c.in-Open.server (list_at q c.in-Open.server ++ n ∷ []) q) c.close_node.ensures
    ∙ ap (λ o. close_queued o c.args.client q) (sym c.in-Open.is)
