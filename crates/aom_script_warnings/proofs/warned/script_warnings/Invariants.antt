-- What was found so far and what is left are all; no line has no byte.
use Rattle.std.proofs.Common.{◌≡◌, ◌≤◌, ◌+◌, ◌^◌, length}
use Rattle.aom_text.specs.Text.{lines_of}
use Rattle.aom_script_warnings.proofs.Lines.{IsAllOf}
use Rattle.aom_script_warnings.proofs.warned.script_warnings.Given as goal

abbrev pub invariant-loop-rest : goal.invariant-loop-rest
invariant-loop-rest l = record {
  all : IsAllOf l.image l.warnings.items l.number (lines_of l.rest) (lines_of l.fn.script);
  few : l.number + length l.rest ≤ 2 ^ 20;
}

abbrev pub decreases-loop-rest : goal.decreases-loop-rest
decreases-loop-rest l = length l.rest
