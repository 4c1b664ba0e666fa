use Rattle.std.proofs.Common.{refl}
use Rattle.aom_link_conditions.specs.Calls.{MentionsArgument}
use Rattle.aom_link_conditions.proofs.Each.{refused, all_more, all_not, all_whole}
use Rattle.aom_link_conditions.proofs.call_order.may_take_each.Goals as goal

pub returns-then-not-may_take : goal.returns-then-not-may_take
returns-then-not-may_take c = all_not
    (MentionsArgument c.args.image.now c.args.method) _ _ _ c.loop-argument-test.true c.argument-item.is (refused _ c.may_take.ensures c.if-not-may_take.true)

pub loop-argument-preserved : goal.loop-argument-preserved
loop-argument-preserved c =
    let here = c.may_take.ensures.0 c.if-not-may_take.false in
    all_more (MentionsArgument c.args.image.now c.args.method) _ _ _ c.loop-argument.invariant c.loop-argument-test.true c.argument-item.is here

pub returns : goal.returns
returns c = (λ _. all_whole (MentionsArgument c.args.image.now c.args.method) _ _ c.loop-argument-test.false c.loop-argument.invariant, λ _. refl)
