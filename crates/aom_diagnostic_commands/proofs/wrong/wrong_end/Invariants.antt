-- So far no word of the line is refused so.
use Rattle.std.proofs.Common.{◌≡◌, ◌-◌, length}
use Rattle.aom_diagnostic_commands.proofs.Searching.{Looked, start_of}
use Rattle.aom_diagnostic_commands.proofs.wrong.wrong_end.Given as goal

abbrev pub invariant-loop-end : goal.invariant-loop-end
invariant-loop-end l = (l.start ≡ start_of l.text l.fault) × Looked l.text l.fault l.end

abbrev pub decreases-loop-end : goal.decreases-loop-end
decreases-loop-end l = length l.text - l.end
