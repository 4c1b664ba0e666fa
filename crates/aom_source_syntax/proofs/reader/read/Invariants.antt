use Rattle.std.proofs.Common.{ℕ, ◌≡◌, ◌<◌, ◌+◌, ◌≤◌, ◌-◌, length}
use Rattle.aom_source_syntax.specs.Programs.{depth_at}
use Rattle.aom_source_syntax.specs.Reading.{Stands}
use Rattle.aom_source_syntax.proofs.reader.read.Given as goal

abbrev pub invariant-loop-reader : goal.invariant-loop-reader
invariant-loop-reader l = record {
  stands : Stands l.text l.reader.items.items l.reader.stack l.cursor.at;
  within : l.cursor.at ≤ length l.text;
  depth : l.cursor.depth ≡ depth_at l.text l.cursor.at;
  few : l.cursor.depth ≤ 64;
  shallow : (k : ℕ) → k < l.cursor.at + 1 → depth_at l.text k ≤ 64;
}

abbrev pub decreases-loop-reader : goal.decreases-loop-reader
decreases-loop-reader l = length l.text - l.cursor.at
