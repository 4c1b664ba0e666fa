-- The place is that of what is left, and as many as were passed.
use Rattle.std.proofs.Common.{◌≡◌, ◌≤◌, ◌+◌, ◌-◌, drop, length}
use Rattle.aom_script.specs.Further.{place_after}
use Rattle.aom_script.proofs.script.Script.place_after.Given as goal

abbrev pub invariant-loop-place : goal.invariant-loop-place
invariant-loop-place l = record {
  rest : place_after l.time l.self.timed ≡ l.place + place_after l.time (drop l.place l.self.timed);
  within : l.place ≤ length l.self.timed;
}

abbrev pub decreases-loop-place : goal.decreases-loop-place
decreases-loop-place l = length l.self.timed - l.place
