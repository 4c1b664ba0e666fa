use Rattle.std.proofs.Common.{◌<◌, length, sym, ap, ◌∙◌, subst, arith}
use Rattle.std.proofs.lemmas.List.{get_or_read}
use Rattle.aom_clients.specs.declared.client.Client.TheVariants.{Unconnected}
use Rattle.aom_clients.specs.Nodes.{named_by}
use Rattle.aom_clients.proofs.Steps.{cells-are}
use Rattle.aom_clients.proofs.Answering.{if-some}
use Rattle.aom_clients.proofs.clients.Clients.client.Goals as goal

pub returns-clause-server : goal.returns-clause-server
returns-clause-server c =
    let cl = c.self.inside.clients.items in
    let small : c.args.client < length cl = omega (arith, c.requires, c.self.invariant.sized.clients_long) in
    let is = get_or_read cl c.args.client c.index.result.now small c.index.ensures Unconnected in
    if-some (named_by c.index.result.now) (λ k. k < length c.args.self.now.queues) (λ k e. subst (λ n. k < n)
    (cells-are _ _ _ _ _ _ c.self.invariant _ c.self.view_is) (c.self.invariant.named.servers c.args.client k (ap named_by (sym is) ∙ e)))
