-- The places below were visited, and one more is.
use Rattle.std.proofs.lemmas.Result.{err_from_is_err_and}
use Rattle.aom_verify.proofs.Stopping.{stops_before}
use Rattle.aom_verify.proofs.Sweeping.{sweeps_self, sweeps_more}
use Rattle.aom_verify.proofs.states.PlaceStates.sweep.Goals as goal

pub loop-place-init : goal.loop-place-init
loop-place-init c = record { sweeps = rw c.nothing-step.ensures (sweeps_self _ _ _); worked = c.requires.worked }

pub loop-place-preserved : goal.loop-place-preserved
loop-place-preserved c = record {
  sweeps = rw c.then-step.ensures (sweeps_more _ _ _ _ _ _ _ _ c.loop-place.invariant.sweeps c.in_ok-visit.ensures.ok);
  worked = c.in_ok-visit.ensures.worked;
}

pub returns-in_err-visit-clause-err : goal.returns-in_err-visit-clause-err
returns-in_err-visit-clause-err c =
    let p = err_from_is_err_and c.from_residual.result c.from_residual.ensures.1 in
    rw (p.1, p.2) (stops_before _ _ _ _ _ _ c.loop-place.invariant.sweeps.keeps c.in_err-visit.ensures.err)
