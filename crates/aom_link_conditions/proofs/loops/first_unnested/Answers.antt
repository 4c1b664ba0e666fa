use Rattle.std.proofs.Common.{arith}
use Rattle.aom_link_conditions.specs.Loops.{LoopsNest}
use Rattle.aom_link_conditions.proofs.Each.{refused, each_more, each_all, first_here}
use Rattle.aom_link_conditions.proofs.loops.first_unnested.Goals as goal

pub loop-number-init : goal.loop-number-init
loop-number-init c = λ k lt. absurd (omega arith)

pub loop-number-preserved : goal.loop-number-preserved
loop-number-preserved c =
    let here = c.loops_nest.ensures.0 c.if-not-loops_nest.false in
    each_more (λ _ d. LoopsNest d.code) _ _ _ c.loop-number.invariant c.loop-number-test.true c.index-methods-number.is (rw c.as_slice.ensures at here)

pub returns-then-not-loops_nest : goal.returns-then-not-loops_nest
returns-then-not-loops_nest c =
    let no = refused _ c.loops_nest.ensures c.if-not-loops_nest.true in
    first_here (λ _ d. LoopsNest d.code) _ _ _ c.loop-number.invariant c.loop-number-test.true c.index-methods-number.is (rw c.as_slice.ensures at no)

pub returns : goal.returns
returns c = each_all (λ _ d. LoopsNest d.code) _ _ c.loop-number-test.false c.loop-number.invariant
