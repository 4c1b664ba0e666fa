-- The most that the places below go out to.
use Rattle.std.proofs.Common.{◌≤◌}
use Rattle.aom_budget.specs.StackDepths.{IsMost, Before}
use Rattle.aom_budget.specs.Pricing.{ExitsAt}
use Rattle.aom_budget.proofs.pass.Pass.exits_of.Given as goal

abbrev pub invariant-loop-place : goal.invariant-loop-place
invariant-loop-place l = record {
  most : IsMost 4294967296 (Before (ExitsAt l.linked l.method l.state_table l.self.from l.round.first l.round.last) l.place) l.most;
  low : l.most ≤ 4294967296;
}
