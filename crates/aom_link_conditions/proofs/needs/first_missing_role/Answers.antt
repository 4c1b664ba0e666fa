use Rattle.std.proofs.Common.{arith}
use Rattle.aom_link_conditions.specs.Needs.{NeedsMet}
use Rattle.aom_link_conditions.proofs.Each.{refused, each_more, each_all, first_here}
use Rattle.aom_link_conditions.proofs.needs.first_missing_role.Goals as goal

pub loop-class-init : goal.loop-class-init
loop-class-init c = λ k lt. absurd (omega arith)

pub loop-class-preserved : goal.loop-class-preserved
loop-class-preserved c =
    let here = c.meets_needs.ensures.0 c.if-not-meets_needs.false in
    each_more (NeedsMet c.args.image.now) _ _ _ c.loop-class.invariant c.loop-class-test.true c.index-classes-class.is (rw c.class_number.ensures at here)

pub returns-then-not-meets_needs : goal.returns-then-not-meets_needs
returns-then-not-meets_needs c =
    let no = refused _ c.meets_needs.ensures c.if-not-meets_needs.true in
    first_here (NeedsMet c.args.image.now) _ _ _ c.loop-class.invariant c.loop-class-test.true c.index-classes-class.is (rw c.class_number.ensures at no)

pub returns : goal.returns
returns c = each_all (NeedsMet c.args.image.now) _ _ c.loop-class-test.false c.loop-class.invariant
