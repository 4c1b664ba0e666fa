use Rattle.std.proofs.Common.{arith}
use Rattle.aom_link_conditions.specs.Jumps.{JumpIsValid}
use Rattle.aom_link_conditions.proofs.Each.{refused, each_more, each_all, first_here}
use Rattle.aom_link_conditions.proofs.jumps.first_jumping.Goals as goal

pub loop-number-init : goal.loop-number-init
loop-number-init c = λ k lt. absurd (omega arith)

pub loop-number-preserved : goal.loop-number-preserved
loop-number-preserved c =
    let here = c.jump_is_valid.ensures.0 c.if-not-jump_is_valid.false in
    each_more (λ _ d. JumpIsValid d.code) _ _ _ c.loop-number.invariant c.loop-number-test.true c.index-methods-number.is (rw c.as_slice.ensures at here)

pub returns-then-not-jump_is_valid : goal.returns-then-not-jump_is_valid
returns-then-not-jump_is_valid c =
    let no = refused _ c.jump_is_valid.ensures c.if-not-jump_is_valid.true in
    first_here (λ _ d. JumpIsValid d.code) _ _ _ c.loop-number.invariant c.loop-number-test.true c.index-methods-number.is (rw c.as_slice.ensures at no)

pub returns : goal.returns
returns c = each_all (λ _ d. JumpIsValid d.code) _ _ c.loop-number-test.false c.loop-number.invariant
