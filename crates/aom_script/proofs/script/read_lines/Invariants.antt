use Rattle.std.proofs.Common.{◌≤◌, length}
use Rattle.aom_text.specs.Text.{lines_of}
use Rattle.aom_script.proofs.Lines.{SoFar}
use Rattle.aom_script.proofs.script.read_lines.Given as goal

abbrev pub invariant-loop-rest : goal.invariant-loop-rest
invariant-loop-rest l = record {
  so_far : SoFar (lines_of l.fn.text) (lines_of l.rest) l.count l.script;
  few : l.count ≤ 65536;
}

abbrev pub decreases-loop-rest : goal.decreases-loop-rest
decreases-loop-rest l = length l.rest
