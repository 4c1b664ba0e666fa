-- Where there is no way nothing changes, and else no other place does.
use Rattle.aom_verify.proofs.Ahead.{nothing_ahead, joined_at}
use Rattle.aom_verify.proofs.Joining.{joins_self}
use Rattle.aom_verify.proofs.Working.{marks_one, marks_self}
use Rattle.std.proofs.lemmas.Result.{err_from_is_err_and}
use Rattle.aom_verify.proofs.states.PlaceStates.join_perhaps.Goals as goal

pub returns-in-None-clause-ok : goal.returns-in-None-clause-ok
returns-in-None-clause-ok c = rw (c.in-None.is, c.nothing.ensures) (joins_self _, nothing_ahead c.args.seen _, marks_self _ _)

pub join-requires-clause-within : goal.join-requires-clause-within
join-requires-clause-within c = (rw c.in-Some.is at c.requires.within).0

pub join-requires-clause-few : goal.join-requires-clause-few
join-requires-clause-few c = (rw c.in-Some.is at c.requires.few).0

pub join-requires-clause-stands : goal.join-requires-clause-stands
join-requires-clause-stands c = c.requires.stands

pub returns-in_err-change-in-Some-clause-nodes : goal.returns-in_err-change-in-Some-clause-nodes
returns-in_err-change-in-Some-clause-nodes c = c.in_err-change-in-Some.ensures.nodes

pub returns-in_err-change-in-Some-clause-err : goal.returns-in_err-change-in-Some-clause-err
returns-in_err-change-in-Some-clause-err c =
    let p = err_from_is_err_and c.from_residual.result c.from_residual.ensures.1 in
    rw (p.1, p.2, c.in-Some.is) c.in_err-change-in-Some.ensures.err

pub returns-in_ok-change-in-Some-clause-nodes : goal.returns-in_ok-change-in-Some-clause-nodes
returns-in_ok-change-in-Some-clause-nodes c = c.in_ok-change-in-Some.ensures.nodes

pub returns-in_ok-change-in-Some-clause-ok : goal.returns-in_ok-change-in-Some-clause-ok
returns-in_ok-change-in-Some-clause-ok c =
    let now = c.in_ok-change-in-Some.ensures in
    let joined = joined_at _ _ _ _ _ _ _ now.ok now.others c.at.ensures.change c.at.ensures.ahead c.at.ensures.nothing in
    rw c.in-Some.is (joined.0, joined.1, marks_one _ _ _ _ _ _ now.ok.changed now.others c.mark.ensures)
