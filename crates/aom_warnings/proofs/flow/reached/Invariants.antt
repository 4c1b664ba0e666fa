-- What is marked is reached, and the first place is marked; each round marks one more.
use Rattle.std.proofs.Common.{◌≡◌, ℕ, length, true, sum_by}
use Rattle.aom_warnings.proofs.Ways.{left}
use Rattle.aom_warnings.specs.Reached.{IsReached, is_marked}
use Rattle.aom_warnings.proofs.flow.reached.Given as goal

abbrev pub invariant-loop-next : goal.invariant-loop-next
invariant-loop-next l = record {
  size : length l.marks.items ≡ length l.code;
  first : is_marked l.marks.items 0 ≡ true;
  sound : (k : ℕ) → is_marked l.marks.items k ≡ true → IsReached l.code k;
}

abbrev pub decreases-loop-next : goal.decreases-loop-next
decreases-loop-next l = sum_by left l.marks.items
