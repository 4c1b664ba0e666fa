-- A sweep that lowers states alone is followed by another.
use Rattle.std.proofs.lemmas.Bool.{not-true}
use Rattle.std.proofs.Common.{refl, ◌∙◌, arith}
use Rattle.std.proofs.lemmas.Result.{err_from_is_err_and}
use Rattle.aom_verify.proofs.Stopping.{stops_before}
use Rattle.aom_verify.proofs.Sweeping.{keeps_self, keeps_along, spans_kept}
use Rattle.aom_verify.proofs.states.PlaceStates.sweep_on.Goals as goal

pub loop-step-init : goal.loop-step-init
loop-step-init c = record { keeps = keeps_self _ _ _; worked = c.requires.worked; same = refl }

pub loop-step-preserved : goal.loop-step-preserved
loop-step-preserved c =
    let swept = rw c.in-Fell.is at c.in_ok-step.ensures.ok in
    record {
      keeps = keeps_along _ _ _ _ _ c.loop-step.invariant.keeps swept.keeps;
      worked = c.in_ok-step.ensures.worked;
      same = swept.changed.0 ∙ c.loop-step.invariant.same;
    }

pub returns-in-Reached-clause-ok : goal.returns-in-Reached-clause-ok
returns-in-Reached-clause-ok c =
    let swept = rw c.in-Reached.is at c.in_ok-step.ensures.ok in
    record { keeps = keeps_along _ _ _ _ _ c.loop-step.invariant.keeps swept.keeps; swept = omega (arith, swept.changed, c.loop-step.invariant.same) }

-- a sweep that changed nothing at a place that it had come to leaves nothing to do
pub returns-then-not-step-clause-ok : goal.returns-then-not-step-clause-ok
returns-then-not-step-clause-ok c =
    let swept = c.in_ok-step.ensures.ok in
    record {
      keeps = keeps_along _ _ _ _ _ c.loop-step.invariant.keeps swept.keeps;
      swept = λ pc below. swept.applies (not-true _ c.if-not-step.true) pc (omega (arith, below, swept.keeps.size));
    }

pub returns-in_err-step-clause-err : goal.returns-in_err-step-clause-err
returns-in_err-step-clause-err c =
    let p = err_from_is_err_and c.from_residual.result c.from_residual.ensures.1 in
    rw (p.1, p.2) (stops_before _ _ _ _ _ _ c.loop-step.invariant.keeps c.in_err-step.ensures.err)

pub sweep-requires-clause-spans : goal.sweep-requires-clause-spans
sweep-requires-clause-spans c = spans_kept _ _ _ _ c.requires.spans c.loop-step.invariant.keeps.size

pub loop-step-smaller : goal.loop-step-smaller
loop-step-smaller c = (rw c.in-Fell.is at c.in_ok-step.ensures.ok).changed.1

pub returns-in-Nothing-clause-ok : goal.returns-in-Nothing-clause-ok
returns-in-Nothing-clause-ok c =
    let swept = c.in_ok-step.ensures.ok in
    record {
      keeps = keeps_along _ _ _ _ _ c.loop-step.invariant.keeps swept.keeps;
      swept = λ pc below. swept.applies (swept.nothing c.in-Nothing.is) pc (omega (arith, below, swept.keeps.size));
    }
