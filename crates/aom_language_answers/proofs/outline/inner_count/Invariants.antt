-- The declarations so far are in the one before them.
use Rattle.std.proofs.Common.{◌≡◌, ◌≤◌, ◌+◌, ◌-◌, drop, length}
use Rattle.std.specs.List.{prefix_len}
use Rattle.aom_language_answers.specs.Outline.{is_declared_in}
use Rattle.aom_language_answers.proofs.outline.inner_count.Given as goal

abbrev pub invariant-loop-count : goal.invariant-loop-count
invariant-loop-count l = record {
  within : l.count ≤ length l.behind;
  so_far : prefix_len (is_declared_in l.names l.outer) l.behind ≡ l.count + prefix_len (is_declared_in l.names l.outer) (drop l.count l.behind);
}

abbrev pub decreases-loop-count : goal.decreases-loop-count
decreases-loop-count l = length l.behind - l.count
