-- The node there is asked of its list, and its client of its place.
use Rattle.std.proofs.Common.{◌∙◌, Some, ap, arith, subst, sym}
use Rattle.std.specs.Prelude.{IfSome}
use Rattle.aom_clients.specs.Lists.{IsIn, list_at}
use Rattle.aom_clients.specs.Parts.{client_in}
use Rattle.aom_clients.proofs.Waiting.{waits-there}
use Rattle.aom_clients.proofs.clients.Clients.waiting.Goals as goal

pub of_node-entry-requires : goal.of_node-entry-requires
of_node-entry-requires c =
    let q = c.self.inside.queues in
    let within = subst (λ o. IfSome o (λ n. IsIn n (list_at q c.args.server))) c.in_ok-node.was c.at.ensures.within in
    omega (arith, c.in_order.ensures.below c.in_ok-node.node c.args.server within, c.self.invariant.sized.queues_nodes)

pub returns-clause-value : goal.returns-clause-value
returns-clause-value c =
    let places = c.self.inside.places.items in
    let e = c.of_node-entry.result in
    ap (λ x. Some (record { entry = e; client = x })) (c.client_of-client.ensures ∙ ap (λ v. client_in v e) c.deref.ensures.value)
    ∙ ap (λ x. Some (record { entry = x; client = client_in places x })) c.of_node-entry.ensures
    ∙ waits-there _ _ _ _ _ _ c.self.invariant _ c.self.view_is c.args.server c.args.ahead c.in_ok-node.node (sym c.in_ok-node.was ∙ c.at.ensures.value)
