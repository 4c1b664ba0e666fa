-- Above the overriders of each method among those looked at.
use Rattle.std.proofs.Common.{ℕ, Some, IsTrue, length, slice_get, ◌≡◌, ◌<◌}
use Rattle.aom_link_conditions.specs.Orders.{IsLeast}
use Rattle.aom_link_conditions.specs.Overriding.{replaces}
use Rattle.aom_link_conditions.proofs.Each.{EachBelow}
use Rattle.aom_link_conditions.proofs.singles.above_overriders_of.Given as goal

abbrev pub invariant-loop-number : goal.invariant-loop-number
invariant-loop-number l = record {
  size : length l.above.items ≡ 1024;
  each : (k n : ℕ) → slice_get l.above.items k ≡ Some n → IsLeast n (λ m. EachBelow (λ j d. IsTrue (replaces l.image l.class k d) → j < m) l.image.methods l.number);
}
