-- The most that the places below come to.
use Rattle.aom_budget.specs.StackDepths.{IsMost, FramesAt, EntriesAt, Before}
use Rattle.aom_budget.proofs.finder.DepthSearch.of_method.Given as goal

abbrev pub invariant-loop-place : goal.invariant-loop-place
invariant-loop-place l = record {
  deep : IsMost 257 (Before (FramesAt l.linked l.method l.state_table) l.place) l.most.depth;
  high : IsMost 1025 (Before (EntriesAt l.linked l.method l.state_table) l.place) l.most.height;
}
