use Rattle.aom_clients.proofs.RingSteps.{emptied}
use Rattle.aom_clients.proofs.lists.Lists.with_limit.Goals as goal

pub invariant_of-result : goal.invariant_of-result
invariant_of-result c =
    (emptied _ _ _ _ c.args.nodes c.args.lists c.requires c.in_ok-after.ensures c.in_ok-before.ensures c.in_ok-owner_lists.ensures c.in_ok-counts.ensures).circular

pub returns : goal.returns
returns c =
    (emptied _ _ _ _ c.args.nodes c.args.lists c.requires c.in_ok-after.ensures c.in_ok-before.ensures c.in_ok-owner_lists.ensures c.in_ok-counts.ensures).seen
