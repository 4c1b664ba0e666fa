-- Above the overriders of each method among those looked at.
use Rattle.std.proofs.Common.{ℕ, Some, IsTrue, length, slice_get, ◌≡◌, ◌<◌}
use Rattle.aom_link_conditions.specs.Orders.{IsLeast}
use Rattle.aom_link_conditions.specs.Overriding.{leads_to}
use Rattle.aom_link_conditions.proofs.Each.{EachBelow}
use Rattle.aom_link_conditions.proofs.orders.above_overriders_each.Given as goal

abbrev pub invariant-loop-number : goal.invariant-loop-number
invariant-loop-number l = record {
  all : length l.calls.items ≡ 1024;
  each : (k n : ℕ) → slice_get l.calls.items k ≡ Some n → IsLeast n (λ m. EachBelow (λ j d. IsTrue (leads_to l.image d.over k) → j < m) l.image.methods l.number);
}
