-- One class more is raised, or all are.
use Rattle.std.proofs.Common.{◌∙◌, arith}
use Rattle.aom_budget.proofs.Climbing.{class_goes}
use Rattle.aom_budget.proofs.raising.raise_class.Goals as goal

pub loop-here-preserved : goal.loop-here-preserved
loop-here-preserved c = record {
  size = c.raise.ensures.size ∙ c.loop-here.invariant.size;
  each = λ k lt. class_goes c.args.image.now k _ _ _ _ _ _ _ _ c.in-Some.is c.number.ensures.value c.parent_of-here.ensures
      (c.raise.ensures.each k (omega (arith, lt, c.loop-here.invariant.size))) (c.loop-here.invariant.each k lt);
}
