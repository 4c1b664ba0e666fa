-- The methods below are found.
use Rattle.aom_budget.specs.StackDepths.{AreFilled}
use Rattle.aom_budget.specs.Reaching.{AreReached}
use Rattle.aom_budget.proofs.finder.DepthSearch.find_all.Given as goal

abbrev pub invariant-loop-index : goal.invariant-loop-index
invariant-loop-index l = record {
  filled : AreFilled l.checked l.index l.self.depths l.self.heights;
  reached : AreReached l.checked l.self;
}
