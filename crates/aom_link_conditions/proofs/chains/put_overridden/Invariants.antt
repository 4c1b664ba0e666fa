-- What is still to be put.
use Rattle.std.proofs.Common.{ℕ, Some, length, slice_get, ◌≡◌}
use Rattle.aom_link_conditions.proofs.Putting.{Puts}
use Rattle.aom_link_conditions.proofs.chains.put_overridden.Given as goal

abbrev pub invariant-loop-here : goal.invariant-loop-here
invariant-loop-here l = record {
  size : length l.table.items ≡ 1024;
  each : (m n : ℕ) → slice_get l.fn.table.items m ≡ Some n → Puts l.image l.fn.over l.number l.left l.here l.fn.table.items l.table.items m n;
}

abbrev pub decreases-loop-here : goal.decreases-loop-here
decreases-loop-here l = l.left
