-- From the first node on to the next, so many times.
use Rattle.std.proofs.Common.{◌∙◌, add-one, sym}
use Rattle.aom_clients.specs.Lists.{list_at}
use Rattle.aom_clients.proofs.Places.{all-in, at-in, at-next}
use Rattle.aom_clients.proofs.lists.Lists.at.Goals as goal

pub next-node-requires : goal.next-node-requires
next-node-requires c =
    let xs = list_at c.args.self.now c.args.list in
    at-in xs c.loop.counter c.in_ok-node.field-0 (sym c.loop.invariant ∙ c.in_ok-node.was)

pub loop-preserved : goal.loop-preserved
loop-preserved c =
    let xs = list_at c.args.self.now c.args.list in
    let here = sym c.loop.invariant ∙ c.in_ok-node.was in
    rw add-one (c.next-node.ensures ∙ at-next xs c.loop.counter c.in_ok-node.field-0 (c.in_order.ensures.once c.args.list) here)

pub returns-clause-within : goal.returns-clause-within
returns-clause-within c = all-in (list_at c.args.self.now c.args.list) c.loop.counter c.loop.node c.loop.invariant
