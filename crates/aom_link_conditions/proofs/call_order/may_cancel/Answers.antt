use Rattle.aom_link_conditions.proofs.call_order.may_cancel.Goals as goal

pub returns-in-Some : goal.returns-in-Some
returns-in-Some c = rw c.in-Some.is (c.may_cancel.ensures c.args.image.now c.requires)
