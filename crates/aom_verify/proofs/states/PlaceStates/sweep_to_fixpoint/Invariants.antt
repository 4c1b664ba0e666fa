-- No typing is lost, and fewer places are unreached each time.
use Rattle.aom_verify.specs.Change.{unreached_count}
use Rattle.aom_verify.specs.States.{shapes}
use Rattle.aom_verify.specs.Sweep.{AreWorked, SweepInvariant}
use Rattle.aom_verify.proofs.states.PlaceStates.sweep_to_fixpoint.Given as goal

abbrev pub invariant-loop-stale : goal.invariant-loop-stale
invariant-loop-stale l = record {
  keeps : SweepInvariant l.linked l.method (shapes l.initial.self) (shapes l.self);
  worked : AreWorked l.linked l.method (shapes l.self) l.stale;
}

abbrev pub decreases-loop-stale : goal.decreases-loop-stale
decreases-loop-stale l = unreached_count (shapes l.self)
