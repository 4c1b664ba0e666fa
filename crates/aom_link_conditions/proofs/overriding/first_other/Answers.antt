use Rattle.std.proofs.Common.{arith}
use Rattle.aom_link_conditions.specs.Overriding.{IsOnly}
use Rattle.aom_link_conditions.proofs.Each.{refused, each_more, each_all, first_here}
use Rattle.aom_link_conditions.proofs.overriding.first_other.Goals as goal

pub loop-index-init : goal.loop-index-init
loop-index-init c = λ k lt. absurd (omega arith)

pub loop-index-preserved : goal.loop-index-preserved
loop-index-preserved c = each_more (IsOnly c.args.image.now c.args.named) _ _ _ c.loop-index.invariant c.loop-index-test.true c.index-methods-index.is
    (c.is_only.ensures.0 c.if-not-is_only.false)

pub returns-then-not-is_only : goal.returns-then-not-is_only
returns-then-not-is_only c = first_here (IsOnly c.args.image.now c.args.named) _ _ _ c.loop-index.invariant c.loop-index-test.true c.index-methods-index.is
    (refused _ c.is_only.ensures c.if-not-is_only.true)

pub returns : goal.returns
returns c = each_all (IsOnly c.args.image.now c.args.named) _ _ c.loop-index-test.false c.loop-index.invariant
