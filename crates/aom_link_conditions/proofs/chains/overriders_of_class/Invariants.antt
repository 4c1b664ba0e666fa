-- What the class has in the place of each method, of the methods from the last one looked at on.
use Rattle.std.proofs.Common.{ℕ, Some, length, slice_get, ◌≡◌, ◌≤◌}
use Rattle.aom_link_conditions.specs.Overriding.{replaces}
use Rattle.aom_link_conditions.proofs.Finding.{FirstFrom}
use Rattle.aom_link_conditions.proofs.chains.overriders_of_class.Given as goal

abbrev pub invariant-loop-number : goal.invariant-loop-number
invariant-loop-number l = record {
  size : length l.overriders.items ≡ 1024;
  within : l.number ≤ length l.methods;
  each : (m n : ℕ) → slice_get l.overriders.items m ≡ Some n → FirstFrom (replaces l.image l.class m) l.methods l.number n;
}

abbrev pub decreases-loop-number : goal.decreases-loop-number
decreases-loop-number l = l.number
