use Rattle.std.proofs.Common.{arith}
use Rattle.std.proofs.Common.{length}
use Rattle.aom_link_conditions.specs.Jumps.{KeepsWithin}
use Rattle.aom_link_conditions.proofs.Each.{refused, each_more, each_all, first_here}
use Rattle.aom_link_conditions.proofs.jumps.first_bad_target.Goals as goal

pub loop-place-init : goal.loop-place-init
loop-place-init c = λ k lt. absurd (omega arith)

pub loop-place-preserved : goal.loop-place-preserved
loop-place-preserved c = each_more (KeepsWithin (length c.args.code.now)) _ _ _ c.loop-place.invariant c.loop-place-test.true c.index-code-place.is
    (c.keeps_within.ensures.0 c.if-not-keeps_within.false)

pub returns-then-not-keeps_within : goal.returns-then-not-keeps_within
returns-then-not-keeps_within c = first_here (KeepsWithin (length c.args.code.now)) _ _ _ c.loop-place.invariant c.loop-place-test.true c.index-code-place.is
    (refused _ c.keeps_within.ensures c.if-not-keeps_within.true)

pub returns : goal.returns
returns c = each_all (KeepsWithin (length c.args.code.now)) _ _ c.loop-place-test.false c.loop-place.invariant
