-- What is planned was tried, and the closing lines stand behind.
use Rattle.std.proofs.Common.{refl, subst, sym, length}
use Rattle.std.proofs.lemmas.Result.{err_from_is_err_and}
use Rattle.aom_fault_injection.specs.Expected.{exploration_of}
use Rattle.aom_commands.specs.Explored.{RefusesTry}
use Rattle.aom_commands.proofs.Reporting.{begin_refused, stopped_there}
use Rattle.aom_commands.proofs.Tries.{explored_so}
use Rattle.aom_commands.proofs.exploring.explore.Goals as goal

pub returns-in_err-planned-clause-err : goal.returns-in_err-planned-clause-err
returns-in_err-planned-clause-err g c =
    let p = err_from_is_err_and c.from_residual.result c.from_residual.ensures.1 in
    rw p.1
    (begin_refused _ _ _ _ _ (record { before = g.W.Sink.out c.args.out.now; now = g.W.Sink.out c.args.out.now; failed = g.W.Sink.failed c.args.out.now }) p.0 refl
    (subst (RefusesTry c.args.trial.now.accepted.now (length c.args.trial.now.kinds.now)) (sym p.2) c.in_err-planned.ensures.err))

pub returns-in_err-told-clause-err : goal.returns-in_err-told-clause-err
returns-in_err-told-clause-err g c =
    let p = err_from_is_err_and c.from_residual-in_err-told.result c.from_residual-in_err-told.ensures.1 in
    let all = c.in_err-told.ensures.err in
    let plans = c.in_ok-planned.ensures.ok in
    rw p.1 (stopped_there _ _ _ _ (exploration_of c.args.options) _ _ c.as_slice-injections.result.now _ _ p.0 _ plans c.as_slice-injections.ensures.value p.2 all.0 all.1)

pub returns-clause-ok : goal.returns-clause-ok
returns-clause-ok g c = explored_so _ c.args.trial.now.script.now c.args.trial.now.limit _ (exploration_of c.args.options) _ _ _ _ _ _ _
    c.in_ok-planned.ensures.ok (rw c.as_slice-injections.ensures.value at c.in_ok-told.ensures.ok) refl c.close.ensures.says c.close.ensures.stays
