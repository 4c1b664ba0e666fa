use Rattle.std.proofs.Common.{arith}
use Rattle.aom_roles.specs.Shapes.{IsShaped}
use Rattle.aom_roles.proofs.Each.{each_all, each_more, first_here, refused}
use Rattle.aom_roles.proofs.shapes.first_unshaped.Goals as goal

pub loop-number-init : goal.loop-number-init
loop-number-init c = λ k h. absurd (omega arith)

pub loop-number-preserved : goal.loop-number-preserved
loop-number-preserved c = each_more (λ _. IsShaped c.args.image.now) _ _ _ c.loop-number.invariant c.loop-number-test.true c.index-methods-number.is
    (c.is_shaped.ensures.0 c.if-not-is_shaped.false)

pub returns-then-not-is_shaped : goal.returns-then-not-is_shaped
returns-then-not-is_shaped c = first_here (λ _. IsShaped c.args.image.now) _ _ _ c.loop-number.invariant c.loop-number-test.true c.index-methods-number.is
    (refused _ c.is_shaped.ensures c.if-not-is_shaped.true)

pub returns : goal.returns
returns c = each_all (λ _. IsShaped c.args.image.now) _ _ c.loop-number-test.false c.loop-number.invariant
