-- The places below were visited, and where one is not stale the rule applies.
use Rattle.aom_verify.specs.States.{shapes}
use Rattle.aom_verify.specs.Sweep.{AreWorked, Sweeps}
use Rattle.aom_verify.proofs.states.PlaceStates.sweep.Given as goal

abbrev pub invariant-loop-place : goal.invariant-loop-place
invariant-loop-place l = record {
  sweeps : Sweeps l.linked l.method (shapes l.initial.self) (shapes l.self) l.place l.step;
  worked : AreWorked l.linked l.method (shapes l.self) l.stale;
}
