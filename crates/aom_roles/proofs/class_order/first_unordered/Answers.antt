use Rattle.std.proofs.Common.{arith}
use Rattle.aom_roles.specs.Classes.{ClassOrdered}
use Rattle.aom_roles.proofs.Each.{each_all, each_more, first_here, refused}
use Rattle.aom_roles.proofs.class_order.first_unordered.Goals as goal

pub loop-class-init : goal.loop-class-init
loop-class-init c = λ k h. absurd (omega arith)

pub loop-class-preserved : goal.loop-class-preserved
loop-class-preserved c = each_more (ClassOrdered c.args.image.now) _ _ _ c.loop-class.invariant c.loop-class-test.true c.index-classes-class.is
    (c.is_class_ordered.ensures.0 c.if-not-is_class_ordered.false)

pub returns-then-not-is_class_ordered : goal.returns-then-not-is_class_ordered
returns-then-not-is_class_ordered c = first_here (ClassOrdered c.args.image.now) _ _ _ c.loop-class.invariant c.loop-class-test.true c.index-classes-class.is
    (refused _ c.is_class_ordered.ensures c.if-not-is_class_ordered.true)

pub returns : goal.returns
returns c = each_all (ClassOrdered c.args.image.now) _ _ c.loop-class-test.false c.loop-class.invariant
