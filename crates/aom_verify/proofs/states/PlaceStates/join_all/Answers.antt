-- The first way is joined, and then the second.
use Rattle.std.proofs.lemmas.Result.{err_from_is_err_and}
use Rattle.aom_verify.specs.States.{shapes}
use Rattle.aom_verify.proofs.Ahead.{then_ahead}
use Rattle.aom_verify.proofs.Joining.{joins_add, within_first}
use Rattle.aom_verify.proofs.Stopping.{stops_first, stops_last}
use Rattle.aom_verify.proofs.Few.{few_ways_first}
use Rattle.aom_verify.proofs.Working.{marks_along}
use Rattle.aom_verify.proofs.states.PlaceStates.join_all.Goals as goal

pub returns-in_err-first-clause-err : goal.returns-in_err-first-clause-err
returns-in_err-first-clause-err c =
    let p = err_from_is_err_and c.from_residual.result c.from_residual.ensures.1 in
    rw (p.1, p.2) (stops_first _ _ _ _ _ c.in_err-first.ensures.err)

pub returns-in_err-second-clause-err : goal.returns-in_err-second-clause-err
returns-in_err-second-clause-err c =
    let p = err_from_is_err_and c.from_residual-in_err-second.result c.from_residual-in_err-second.ensures.1 in
    let first = rw c.in_ok-first.ensures.nodes at c.in_ok-first.ensures.ok.0 in
    let stopped = rw c.in_ok-first.ensures.nodes at c.in_err-second.ensures.err in
    rw (p.1, p.2) (stops_last _ _ _ _ _ _ _ first stopped)

pub returns-clause-ok : goal.returns-clause-ok
returns-clause-ok c =
    let first = rw c.in_ok-first.ensures.nodes at c.in_ok-first.ensures.ok.0 in
    let second = rw c.in_ok-first.ensures.nodes at c.in_ok-second.ensures.ok.0 in
    rw c.then.ensures (joins_add _ _ _ _ _ _ _ first second, then_ahead _ _ _ _ _ _ c.in_ok-first.ensures.ok.1 c.in_ok-second.ensures.ok.1, marks_along _ _ _ _ _ _ c.in_ok-first.ensures.ok.2 c.in_ok-second.ensures.ok.2)

pub join_perhaps-requires-clause-within : goal.join_perhaps-requires-clause-within
join_perhaps-requires-clause-within c = within_first _ _ _ c.requires.within

pub join_perhaps-requires-clause-few : goal.join_perhaps-requires-clause-few
join_perhaps-requires-clause-few c = few_ways_first (shapes c.args.self.now) _ _ c.requires.few
