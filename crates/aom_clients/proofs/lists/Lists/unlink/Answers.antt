use Rattle.std.proofs.Common.{arith}
use Rattle.aom_clients.proofs.RingSteps.{unlinked, neighbours, node-has}
use Rattle.aom_clients.proofs.lists.Lists.unlink.Goals as goal

pub index-last-requires : goal.index-last-requires
index-last-requires c = omega (arith, (node-has _ _ _ _ _ c.self.view_is c.self.invariant c.args.list c.args.node c.requires).2, c.self.inside.before.ok.0)

pub index-next-requires : goal.index-next-requires
index-next-requires c = omega (arith, (node-has _ _ _ _ _ c.self.view_is c.self.invariant c.args.list c.args.node c.requires).1, c.self.inside.after.ok.0)

pub index_mut-requires : goal.index_mut-requires
index_mut-requires c =
    omega (arith, (neighbours _ _ _ _ _ c.self.view_is c.self.invariant c.args.list c.args.node _ _ c.requires c.index-last.ensures c.index-next.ensures).0, c.self.inside.after.ok.0)

pub index_mut-requires-2 : goal.index_mut-requires-2
index_mut-requires-2 c =
    omega (arith, (neighbours _ _ _ _ _ c.self.view_is c.self.invariant c.args.list c.args.node _ _ c.requires c.index-last.ensures c.index-next.ensures).1, c.self.inside.before.ok.0)

pub index_mut-requires-3 : goal.index_mut-requires-3
index_mut-requires-3 c = omega (arith, (node-has _ _ _ _ _ c.self.view_is c.self.invariant c.args.list c.args.node c.requires).0, c.self.inside.owner_lists.ok.0)

pub index_mut-requires-4 : goal.index_mut-requires-4
index_mut-requires-4 c = omega (arith, (node-has _ _ _ _ _ c.self.view_is c.self.invariant c.args.list c.args.node c.requires).3, c.self.inside.counts.ok.0)

pub overflow_sub-index_mut : goal.overflow_sub-index_mut
overflow_sub-index_mut c = omega (
  arith,
  (unlinked _ _ _ _ _ c.self.view_is c.self.invariant c.args.list c.args.node c.index-last.result.now c.index-next.result.now c.index_mut-4.result.now
      c.requires c.index-last.ensures c.index-next.ensures c.index_mut-4.ensures.value).counted,
)

pub invariant_of-self : goal.invariant_of-self
invariant_of-self c =
    (unlinked _ _ _ _ _ c.self.view_is c.self.invariant c.args.list c.args.node c.index-last.result.now c.index-next.result.now c.index_mut-4.result.now
    c.requires c.index-last.ensures c.index-next.ensures c.index_mut-4.ensures.value).circular

pub returns : goal.returns
returns c =
    (unlinked _ _ _ _ _ c.self.view_is c.self.invariant c.args.list c.args.node c.index-last.result.now c.index-next.result.now c.index_mut-4.result.now
    c.requires c.index-last.ensures c.index-next.ensures c.index_mut-4.ensures.value).seen
