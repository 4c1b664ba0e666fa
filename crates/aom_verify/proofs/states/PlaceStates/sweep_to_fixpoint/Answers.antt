-- Sweeps are made until the rule applies at each place that is reached.
use Rattle.std.proofs.lemmas.Result.{err_from_is_err_and}
use Rattle.aom_verify.proofs.Stopping.{stops_before}
use Rattle.aom_verify.proofs.Sweeping.{keeps_self, keeps_along}
use Rattle.aom_verify.proofs.Working.{worked_at_first}
use Rattle.aom_verify.proofs.states.PlaceStates.sweep_to_fixpoint.Goals as goal

pub loop-stale-init : goal.loop-stale-init
loop-stale-init c = record { keeps = keeps_self _ _ _; worked = rw c.in_ok-stale.ensures (worked_at_first _ _ _ _) }

pub loop-stale-preserved : goal.loop-stale-preserved
loop-stale-preserved c = record {
  keeps = keeps_along _ _ _ _ _ c.loop-stale.invariant.keeps c.in_ok-sweep_on.ensures.ok.keeps;
  worked = c.in_ok-sweep_on.ensures.worked;
}

pub returns-clause-ok : goal.returns-clause-ok
returns-clause-ok c =
    let swept = rw c.if-branch.false at c.in_ok-sweep_on.ensures.ok in
    record { keeps = keeps_along _ _ _ _ _ c.loop-stale.invariant.keeps swept.keeps; applies = swept.swept }

pub returns-in_err-sweep_on-clause-err : goal.returns-in_err-sweep_on-clause-err
returns-in_err-sweep_on-clause-err c =
    let p = err_from_is_err_and c.from_residual-in_err-sweep_on.result c.from_residual-in_err-sweep_on.ensures.1 in
    let failed = c.in_err-sweep_on.ensures.err in
    let keeps = c.loop-stale.invariant.keeps in
    rw (p.1, p.2) (stops_before _ _ _ _ _ _ keeps failed)
