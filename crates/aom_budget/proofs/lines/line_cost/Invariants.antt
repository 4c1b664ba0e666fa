-- What the classes so far cost, and those above.
use Rattle.std.proofs.Common.{Some, ◌+◌, ◌≡◌, ◌≤◌}
use Rattle.aom_budget.specs.Pricing.{kept, price_by}
use Rattle.aom_static_bounds.specs.Most.{line_from}
use Rattle.aom_budget.proofs.Climbing.{generations}
use Rattle.aom_budget.proofs.lines.line_cost.Given as goal

abbrev pub invariant-loop-here : goal.invariant-loop-here
invariant-loop-here l = record {
  is : kept (l.cost + line_from l.linked (price_by l.prices) l.here) ≡ kept (line_from l.linked (price_by l.prices) (Some l.fn.class));
  low : l.cost ≤ 4294967296;
}

abbrev pub decreases-loop-here : goal.decreases-loop-here
decreases-loop-here l = generations l.here
