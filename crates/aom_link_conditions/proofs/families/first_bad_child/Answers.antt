use Rattle.std.proofs.Common.{arith}
use Rattle.aom_link_conditions.specs.Families.{ContinuesParent}
use Rattle.aom_link_conditions.proofs.Each.{refused, each_more, each_all, first_here}
use Rattle.aom_link_conditions.proofs.families.first_bad_child.Goals as goal

pub loop-class-init : goal.loop-class-init
loop-class-init c = λ k lt. absurd (omega arith)

pub loop-class-preserved : goal.loop-class-preserved
loop-class-preserved c = each_more (λ _. ContinuesParent c.args.image.now) _ _ _ c.loop-class.invariant c.loop-class-test.true c.index-classes-class.is
    (c.continues_parent.ensures.0 c.if-not-continues_parent.false)

pub returns-then-not-continues_parent : goal.returns-then-not-continues_parent
returns-then-not-continues_parent c = first_here (λ _. ContinuesParent c.args.image.now) _ _ _ c.loop-class.invariant c.loop-class-test.true
    c.index-classes-class.is (refused _ c.continues_parent.ensures c.if-not-continues_parent.true)

pub returns : goal.returns
returns c = each_all (λ _. ContinuesParent c.args.image.now) _ _ c.loop-class-test.false c.loop-class.invariant
