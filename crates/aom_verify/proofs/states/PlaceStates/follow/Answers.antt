use Rattle.std.proofs.lemmas.Result.{err_from_is_err_and}
use Rattle.aom_verify.proofs.states.PlaceStates.follow.Goals as goal

pub join_all-requires-clause-within : goal.join_all-requires-clause-within
join_all-requires-clause-within c = rw (c.in_ok-after.ensures.same, c.in_ok-after.ensures.value) c.requires.within

pub join_all-requires-clause-few : goal.join_all-requires-clause-few
join_all-requires-clause-few c = rw (c.in_ok-after.ensures.same, c.in_ok-after.ensures.value) c.requires.few

pub returns-in_err-after-clause-err : goal.returns-in_err-after-clause-err
returns-in_err-after-clause-err c =
    let p = err_from_is_err_and c.from_residual.result c.from_residual.ensures.1 in
    rw (p.1, p.2) tt

pub returns-clause-ok : goal.returns-clause-ok
returns-clause-ok c = rw (c.in_ok-after.ensures.same, c.in_ok-after.ensures.value) at c.join_all.ensures.ok

pub returns-clause-err : goal.returns-clause-err
returns-clause-err c = rw (c.in_ok-after.ensures.same, c.in_ok-after.ensures.value) at c.join_all.ensures.err
