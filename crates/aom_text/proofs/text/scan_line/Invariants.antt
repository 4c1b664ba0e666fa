use Rattle.std.proofs.Common.{◌≡◌, ◌≤◌, ◌+◌, ◌-◌, ◌==◌, drop, length, take}
use Rattle.std.specs.List.{list_all, position_or_len}
use Rattle.aom_text.specs.Words.{is_plain}
use Rattle.aom_text.proofs.text.scan_line.Given as goal

abbrev pub invariant-loop-end : goal.invariant-loop-end
invariant-loop-end l = record {
  so_far : position_or_len (λ b. b == 10) l.text ≡ l.end + position_or_len (λ b. b == 10) (drop l.end l.text);
  plain : l.is_text ≡ list_all is_plain (take l.end l.text);
  within : l.end ≤ length l.text;
}

abbrev pub decreases-loop-end : goal.decreases-loop-end
decreases-loop-end l = length l.text - l.end
