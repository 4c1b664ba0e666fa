-- So many classes have raised the table.
use Rattle.aom_image.specs.declared.method.Role.TheVariants.{Cancel}
use Rattle.aom_link_conditions.specs.Roles.{role_of}
use Rattle.aom_static_bounds.specs.Calls.{listed}
use Rattle.aom_budget.specs.Greatest.{most_at}
use Rattle.aom_budget.proofs.Raised.{IsRaised}
use Rattle.aom_budget.proofs.cancels.raise_cancel_costs.Given as goal

abbrev pub invariant-loop-index : goal.invariant-loop-index
invariant-loop-index l = IsRaised l.linked (λ y. most_at l.prices (listed (role_of l.linked y Cancel))) l.fn.table l.index l.table
