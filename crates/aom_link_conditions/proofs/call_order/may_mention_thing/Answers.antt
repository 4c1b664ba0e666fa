use Rattle.aom_link_conditions.proofs.call_order.may_mention_thing.Goals as goal

pub returns-in-Object : goal.returns-in-Object
returns-in-Object c = rw c.in-Object.is (c.may_mention.ensures c.args.image.now c.requires)
