-- The first of those that the classes looked at override twice.
use Rattle.std.proofs.Common.{ℕ, length, ◌≤◌, ◌<◌}
use Rattle.aom_link_conditions.specs.Chains.{OnceIn}
use Rattle.aom_link_conditions.specs.Overriding.{OverriddenOnce}
use Rattle.aom_link_conditions.proofs.singles.first_twice.Given as goal

abbrev pub invariant-loop-class : goal.invariant-loop-class
invariant-loop-class l = record {
  within : l.least ≤ length l.image.methods;
  before : (c m : ℕ) → c < l.class → m < l.least → OnceIn l.image c m;
  twice : l.least < length l.image.methods → ¬ OverriddenOnce l.image l.least;
}
