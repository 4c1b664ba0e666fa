-- No typing is lost, no place was reached, and the states fall each time.
use Rattle.std.proofs.Common.{◌≡◌}
use Rattle.aom_verify.specs.Change.{rank, unreached_count}
use Rattle.aom_verify.specs.States.{shapes}
use Rattle.aom_verify.specs.Sweep.{AreWorked, SweepInvariant}
use Rattle.aom_verify.proofs.states.PlaceStates.sweep_on.Given as goal

abbrev pub invariant-loop-step : goal.invariant-loop-step
invariant-loop-step l = record {
  keeps : SweepInvariant l.linked l.method (shapes l.initial.self) (shapes l.self);
  worked : AreWorked l.linked l.method (shapes l.self) l.stale;
  same : unreached_count (shapes l.self) ≡ unreached_count (shapes l.initial.self);
}

abbrev pub decreases-loop-step : goal.decreases-loop-step
decreases-loop-step l = rank (shapes l.self)
