-- What was wanting is memory, or the image is over its limits.
use Rattle.std.proofs.lemmas.Result.{err_from_is_err_and}
use Rattle.aom_budget.proofs.Budgeting.{reported_or_wants}
use Rattle.aom_budget.proofs.accepted.kept_figures.Goals as goal

pub returns-in_err-figures-clause-refused : goal.returns-in_err-figures-clause-refused
returns-in_err-figures-clause-refused c =
    let e = err_from_is_err_and c.from_residual.result c.from_residual.ensures.1 in
    rw (e.1, e.2) tt

pub returns-in-Err-clause-refused : goal.returns-in-Err-clause-refused
returns-in-Err-clause-refused c = reported_or_wants _ _ c.in-Err.ensures.err
