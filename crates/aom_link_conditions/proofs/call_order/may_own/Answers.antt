use Rattle.std.proofs.Common.{refl}
use Rattle.aom_link_conditions.specs.Calls.{MentionsThing}
use Rattle.aom_link_conditions.proofs.Each.{refused, all_more, all_not, all_whole}
use Rattle.aom_link_conditions.proofs.call_order.may_own.Goals as goal

pub returns-then-not-may_mention_thing : goal.returns-then-not-may_mention_thing
returns-then-not-may_mention_thing c = all_not (MentionsThing c.args.image.now c.args.method) _ _ _ c.loop-thing-test.true c.thing-item.is
    (refused _ c.may_mention_thing.ensures c.if-not-may_mention_thing.true)

pub loop-thing-preserved : goal.loop-thing-preserved
loop-thing-preserved c =
    let here = c.may_mention_thing.ensures.0 c.if-not-may_mention_thing.false in
    all_more (MentionsThing c.args.image.now c.args.method) _ _ _ c.loop-thing.invariant c.loop-thing-test.true c.thing-item.is here

pub returns : goal.returns
returns c = (λ _. all_whole (MentionsThing c.args.image.now c.args.method) _ _ c.loop-thing-test.false c.loop-thing.invariant, λ _. refl)
