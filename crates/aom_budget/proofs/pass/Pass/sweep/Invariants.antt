-- The places from there on are found.
use Rattle.std.proofs.Common.{◌≤◌, length}
use Rattle.aom_budget.specs.Pricing.{IsPassing}
use Rattle.aom_budget.proofs.pass.Pass.sweep.Given as goal

abbrev pub invariant-loop-place : goal.invariant-loop-place
invariant-loop-place l = record {
  passing : IsPassing l.linked l.costs.prices l.method l.state_table l.place l.self.from l.self.after l.self.innermost l.self.around.items;
  within : l.place ≤ length l.self.from;
}

abbrev pub decreases-loop-place : goal.decreases-loop-place
decreases-loop-place l = l.place
