use Rattle.std.proofs.Common.{arith}
use Rattle.aom_link_conditions.specs.Calls.{CallsOrdered}
use Rattle.aom_link_conditions.proofs.Each.{refused, each_more, each_all, first_here}
use Rattle.aom_link_conditions.proofs.call_order.first_unordered.Goals as goal

pub loop-number-init : goal.loop-number-init
loop-number-init c = λ k lt. absurd (omega arith)

pub loop-number-preserved : goal.loop-number-preserved
loop-number-preserved c = each_more (CallsOrdered c.args.image.now) _ _ _ c.loop-number.invariant c.loop-number-test.true c.index-methods-number.is
    (c.is_call_ordered.ensures.0 c.if-not-is_call_ordered.false)

pub returns-then-not-is_call_ordered : goal.returns-then-not-is_call_ordered
returns-then-not-is_call_ordered c = first_here (CallsOrdered c.args.image.now) _ _ _ c.loop-number.invariant c.loop-number-test.true c.index-methods-number.is
    (refused _ c.is_call_ordered.ensures c.if-not-is_call_ordered.true)

pub returns : goal.returns
returns c = each_all (CallsOrdered c.args.image.now) _ _ c.loop-number-test.false c.loop-number.invariant
