use Rattle.std.proofs.Common.{arith}
use Rattle.aom_link_conditions.specs.Jumps.{StaysOut}
use Rattle.aom_link_conditions.proofs.Each.{refused, each_more, each_all, first_here}
use Rattle.aom_link_conditions.proofs.jumps.first_into.Goals as goal

pub loop-place-init : goal.loop-place-init
loop-place-init c = λ k lt. absurd (omega arith)

pub loop-place-preserved : goal.loop-place-preserved
loop-place-preserved c = each_more (StaysOut c.args.start c.args.end) _ _ _ c.loop-place.invariant c.loop-place-test.true c.index-code-place.is
    (c.stays_out.ensures.0 c.if-not-stays_out.false)

pub returns-then-not-stays_out : goal.returns-then-not-stays_out
returns-then-not-stays_out c = first_here (StaysOut c.args.start c.args.end) _ _ _ c.loop-place.invariant c.loop-place-test.true c.index-code-place.is
    (refused _ c.stays_out.ensures c.if-not-stays_out.true)

pub returns : goal.returns
returns c = each_all (StaysOut c.args.start c.args.end) _ _ c.loop-place-test.false c.loop-place.invariant
