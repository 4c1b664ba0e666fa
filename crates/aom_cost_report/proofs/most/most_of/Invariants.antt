use Rattle.std.proofs.Common.{◌≡◌}
use Rattle.aom_cost_report.specs.Text.{most_below}
use Rattle.aom_cost_report.proofs.most.most_of.Given as goal

abbrev pub invariant-loop-index : goal.invariant-loop-index
invariant-loop-index l = record {
  frames : l.most.frames ≡ most_below l.figures.depths l.index;
  entries : l.most.entries ≡ most_below l.figures.heights l.index;
}
