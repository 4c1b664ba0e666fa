-- The instructions so far have their lines, and no name is added.
use Rattle.std.proofs.Common.{◌≡◌, map, take}
use Rattle.aom_source.specs.Map.{Adds}
use Rattle.aom_source.proofs.writing.write_code.Given as goal

abbrev pub invariant-loop-at : goal.invariant-loop-at
invariant-loop-at l = record {
  lines : Adds l.fn.written l.written (map (λ line. line.token) (take l.at l.code.lines.items));
  names : l.written.names ≡ l.fn.written.names;
}
