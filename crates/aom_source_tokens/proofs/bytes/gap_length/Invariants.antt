use Rattle.std.proofs.Common.{◌≡◌, ◌≤◌, ◌+◌, ◌-◌, drop, length, false}
use Rattle.aom_source_tokens.specs.Bytes.{gap_length}
use Rattle.aom_source_tokens.proofs.bytes.gap_length.Given as goal

abbrev pub invariant-loop-count : goal.invariant-loop-count
invariant-loop-count l = record {
  so_far : gap_length false l.bytes ≡ l.count + gap_length l.is_comment (drop l.count l.bytes);
  within : l.count ≤ length l.bytes;
}

abbrev pub decreases-loop-count : goal.decreases-loop-count
decreases-loop-count l = length l.bytes - l.count
