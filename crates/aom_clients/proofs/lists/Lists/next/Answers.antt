use Rattle.std.proofs.Common.{◌≡◌, length, arith}
use Rattle.aom_clients.proofs.RingSteps.{next-is, node-has}
use Rattle.aom_clients.proofs.lists.Lists.next.Goals as goal

pub node_after-requires : goal.node_after-requires
node_after-requires c =
    let has = node-has _ _ _ _ _ c.self.view_is c.self.invariant c.args.list c.args.node c.requires in
    omega (arith, has.1, c.self.inside.after.ok.0, c.deref.ensures.len)

pub returns : goal.returns
returns c =
    let s = c.self.inside in
    let nodes : c.len.result ≡ length s.owner_lists.items = omega (arith, c.len.ensures, s.owner_lists.ok.0) in
    cc (c.node_after.ensures, c.deref.ensures.value, nodes, next-is _ _ _ _ _ c.self.view_is c.self.invariant c.args.list c.args.node c.requires)
