-- What was read and what is left are shown as the whole is.
use Rattle.std.proofs.Common.{◌≡◌, ◌++◌, ◌≤◌, drop}
use Rattle.aom_source_commands.specs.Showing.{shown}
use Rattle.aom_source_commands.proofs.showing.interleaved.Given as goal

abbrev pub invariant-loop-byte : goal.invariant-loop-byte
invariant-loop-byte l = record {
  so_far : l.text.items ++ shown l.notes l.line (drop l.byte-index l.source) ≡ shown l.notes 0 l.source;
  few : l.line ≤ l.byte-index;
}
