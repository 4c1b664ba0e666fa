use Rattle.std.proofs.Common.{◌≡◌, length, arith}
use Rattle.aom_clients.proofs.RingSteps.{first-is}
use Rattle.aom_clients.proofs.lists.Lists.first.Goals as goal

pub returns : goal.returns
returns c =
    let s = c.self.inside in
    let nodes : c.len.result ≡ length s.owner_lists.items = omega (arith, c.len.ensures, s.owner_lists.ok.0) in
    cc (c.node_after.ensures, nodes, first-is _ _ _ _ _ c.self.view_is c.self.invariant c.args.list c.requires)
