use Rattle.std.proofs.lemmas.Result.{err_from_is_err_and}
use Rattle.aom_linker.proofs.Refusing.{refuses}
use Rattle.aom_linker.proofs.linked.link.Goals as goal
use Rattle.std.proofs.Common.{rules}
use Rattle.aom_link_conditions.specs.Faults.{RefusesOrWants}

pub returns-in_err-main-clause-err : goal.returns-in_err-main-clause-err
returns-in_err-main-clause-err c =
    let p = err_from_is_err_and c.from_residual.result c.from_residual.ensures.1 in
    rw (p.1, p.2) (refuses _ _ c.in_err-main.ensures.err)

pub returns-in_err-roles-clause-err : goal.returns-in_err-roles-clause-err
unfolding RefusesOrWants
returns-in_err-roles-clause-err c = search rules

pub returns-clause-ok : goal.returns-clause-ok
returns-clause-ok c = search rules

pub returns-in_err-bodies-clause-err : goal.returns-in_err-bodies-clause-err
unfolding RefusesOrWants
returns-in_err-bodies-clause-err c = search rules
