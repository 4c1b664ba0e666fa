use Rattle.std.proofs.Common.{arith}
use Rattle.aom_link_conditions.specs.Needs.{ClassSingle}
use Rattle.aom_link_conditions.proofs.Each.{refused, each_more, each_all, first_here}
use Rattle.aom_link_conditions.proofs.needs.first_double.Goals as goal

pub loop-class-init : goal.loop-class-init
loop-class-init c = λ k lt. absurd (omega arith)

pub loop-class-preserved : goal.loop-class-preserved
loop-class-preserved c =
    let here = c.is_single.ensures.0 c.if-not-is_single.false in
    each_more (λ k _. ClassSingle c.args.methods.now k) _ _ _ c.loop-class.invariant c.loop-class-test.true c.index-classes-class.is
    (rw c.class_number.ensures at here)

pub returns-then-not-is_single : goal.returns-then-not-is_single
returns-then-not-is_single c =
    let no = refused _ c.is_single.ensures c.if-not-is_single.true in
    first_here (λ k _. ClassSingle c.args.methods.now k) _ _ _ c.loop-class.invariant c.loop-class-test.true c.index-classes-class.is
    (rw c.class_number.ensures at no)

pub returns : goal.returns
returns c = each_all (λ k _. ClassSingle c.args.methods.now k) _ _ c.loop-class-test.false c.loop-class.invariant
