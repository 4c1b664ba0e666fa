use Rattle.std.proofs.Common.{◌≡◌, ◌≤◌, ◌+◌, ◌-◌, drop, length}
use Rattle.std.specs.List.{position_or_len}
use Rattle.aom_text.specs.Words.{is_blank}
use Rattle.aom_text.proofs.word.word_length.Given as goal

abbrev pub invariant-loop-count : goal.invariant-loop-count
invariant-loop-count l = record {
  so_far : position_or_len is_blank l.bytes ≡ l.count + position_or_len is_blank (drop l.count l.bytes);
  within : l.count ≤ length l.bytes;
}

abbrev pub decreases-loop-count : goal.decreases-loop-count
decreases-loop-count l = length l.bytes - l.count
