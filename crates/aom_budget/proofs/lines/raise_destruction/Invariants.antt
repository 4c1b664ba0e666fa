-- So many classes have raised the table.
use Rattle.std.proofs.Common.{Some, ◌++◌}
use Rattle.aom_roles.specs.Classes.{sessions_at}
use Rattle.aom_static_bounds.specs.Calls.{lines_of}
use Rattle.aom_budget.specs.Greatest.{most_at}
use Rattle.aom_budget.proofs.Raised.{IsRaised}
use Rattle.aom_budget.proofs.lines.raise_destruction.Given as goal

abbrev pub invariant-loop-index : goal.invariant-loop-index
invariant-loop-index l =
    IsRaised l.linked (λ y. most_at l.depths (lines_of l.linked (Some y) ++ lines_of l.linked (sessions_at l.linked y))) l.fn.table l.index l.table
