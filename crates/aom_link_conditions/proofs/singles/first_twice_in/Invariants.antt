-- Those looked at are overridden once.
use Rattle.std.proofs.Common.{ℕ, ◌-◌, ◌≤◌, ◌<◌}
use Rattle.aom_link_conditions.specs.Chains.{OnceIn}
use Rattle.aom_link_conditions.proofs.singles.first_twice_in.Given as goal

abbrev pub invariant-loop-named : goal.invariant-loop-named
invariant-loop-named l = record {
  within : l.named ≤ l.count;
  before : (m : ℕ) → m < l.named → OnceIn l.image l.fn.class m;
}

abbrev pub decreases-loop-named : goal.decreases-loop-named
decreases-loop-named l = l.count - l.named
