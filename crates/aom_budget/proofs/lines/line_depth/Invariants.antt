-- The greatest depth of the classes so far, and of those above.
use Rattle.std.proofs.Common.{Some, ◌≡◌}
use Rattle.std.specs.Prelude.{max}
use Rattle.aom_static_bounds.specs.Calls.{lines_of}
use Rattle.aom_budget.specs.Greatest.{most_at}
use Rattle.aom_budget.proofs.Climbing.{generations}
use Rattle.aom_budget.proofs.lines.line_depth.Given as goal

abbrev pub invariant-loop-here : goal.invariant-loop-here
invariant-loop-here l = max l.depth (most_at l.depths (lines_of l.linked l.here)) ≡ most_at l.depths (lines_of l.linked (Some l.fn.class))

abbrev pub decreases-loop-here : goal.decreases-loop-here
decreases-loop-here l = generations l.here
