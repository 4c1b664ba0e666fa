-- One method more is raised, or all are.
use Rattle.std.proofs.Common.{◌∙◌, arith}
use Rattle.aom_budget.proofs.Climbing.{lead_ends, lead_goes, lead_over}
use Rattle.aom_budget.proofs.raising.raise_called.Goals as goal

pub returns-then-left-eq0-clause-each : goal.returns-then-left-eq0-clause-each
returns-then-left-eq0-clause-each c = λ k lt. lead_ends c.args.image.now c.loop-here.left k _ _ _ _ _ _ _ c.in-Some.is c.number-in-Some.ensures.value
    c.if-left-eq0.true (c.raise-in-Some.ensures.each k (omega (arith, lt, c.loop-here.invariant.size))) (c.loop-here.invariant.each k lt)

pub loop-here-preserved : goal.loop-here-preserved
loop-here-preserved c = record {
  size = c.raise-in-Some.ensures.size ∙ c.loop-here.invariant.size;
  each = λ k lt. lead_goes c.args.image.now c.loop-here.left k _ _ _ _ _ _ _ _ c.in-Some.is c.number-in-Some.ensures.value c.if-left-eq0.false
      c.overridden_method-here-in-Some.ensures (c.raise-in-Some.ensures.each k (omega (arith, lt, c.loop-here.invariant.size))) (c.loop-here.invariant.each k lt);
}

pub returns-clause-each : goal.returns-clause-each
returns-clause-each c = λ k lt. lead_over c.args.image.now c.loop-here.left k _ _ _ _ c.in_default.is (c.loop-here.invariant.each k lt)
