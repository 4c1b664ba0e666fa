use Rattle.std.proofs.Common.{◌≡◌, ◌≤◌, ◌+◌, ◌-◌, drop, length, not}
use Rattle.std.specs.List.{position_or_len}
use Rattle.aom_source_tokens.specs.Bytes.{is_number_byte}
use Rattle.aom_source_tokens.proofs.bytes.number_length.Given as goal

abbrev pub invariant-loop-count : goal.invariant-loop-count
invariant-loop-count l = record {
  so_far : position_or_len (λ b. not (is_number_byte b)) l.bytes ≡ l.count + position_or_len (λ b. not (is_number_byte b)) (drop l.count l.bytes);
  within : l.count ≤ length l.bytes;
}

abbrev pub decreases-loop-count : goal.decreases-loop-count
decreases-loop-count l = length l.bytes - l.count
