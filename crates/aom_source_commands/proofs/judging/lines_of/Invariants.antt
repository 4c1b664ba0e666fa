-- The lines so far.
use Rattle.std.proofs.Common.{◌≡◌, take}
use Rattle.aom_source_commands.specs.Judging.{lines_in}
use Rattle.aom_source_commands.proofs.judging.lines_of.Given as goal

abbrev pub invariant-loop-origin : goal.invariant-loop-origin
invariant-loop-origin l = record { so_far : l.lines.items ≡ lines_in l.tokens (take l.origin-index l.origins) }
