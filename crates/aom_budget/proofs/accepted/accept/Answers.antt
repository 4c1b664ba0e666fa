-- An image within its limits is refused for want of memory alone.
use Rattle.std.proofs.Common.{refl}
use Rattle.aom_image.specs.WellFormed.{WellFormed}
use Rattle.aom_link_conditions.specs.Linked.{IsLinked}
use Rattle.aom_budget.proofs.Budgeting.{wants_memory}
use Rattle.aom_budget.proofs.accepted.accept.Goals as goal

pub returns-in-Ok-clause-ok : goal.returns-in-Ok-clause-ok
returns-in-Ok-clause-ok c = refl

pub returns-in-Ok-clause-refused : goal.returns-in-Ok-clause-refused
returns-in-Ok-clause-refused c = tt

pub returns-in-Ok-clause-complete : goal.returns-in-Ok-clause-complete
returns-in-Ok-clause-complete c = λ budgets within high. tt

pub returns-in-Err-clause-refused : goal.returns-in-Err-clause-refused
returns-in-Err-clause-refused c = c.in-Err.ensures.refused

pub returns-in-Err-clause-complete : goal.returns-in-Err-clause-complete
returns-in-Err-clause-complete c =
    let linked : IsLinked c.args.checked = rw c.linked-linked.ensures at c.facts.ensures.linked in
    let formed : WellFormed c.args.checked = rw (c.image.ensures, c.linked-linked.ensures) at c.methods-formed.ensures.well_formed in
    wants_memory _ _ formed linked c.in-Err.ensures.refused
