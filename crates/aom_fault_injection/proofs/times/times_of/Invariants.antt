-- The times so far, with those of the lines that are left, are those of the transcript.
use Rattle.std.proofs.Common.{◌≡◌, length}
use Rattle.std.specs.List.{fold}
use Rattle.aom_text.specs.Text.{lines_of}
use Rattle.aom_fault_injection.specs.Planned.{marked, time_of_line, times_in}
use Rattle.aom_fault_injection.proofs.times.times_of.Given as goal

abbrev pub invariant-loop-rest : goal.invariant-loop-rest
invariant-loop-rest l = fold (λ times line. marked times (time_of_line line)) l.times.items (lines_of l.rest) ≡ times_in l.transcript

abbrev pub decreases-loop-rest : goal.decreases-loop-rest
decreases-loop-rest l = length l.rest
