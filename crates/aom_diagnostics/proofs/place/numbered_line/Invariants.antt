use Rattle.std.proofs.Common.{◌≡◌, [], length, slice_index_or}
use Rattle.aom_text.specs.Text.{lines_of}
use Rattle.aom_diagnostics.specs.Places.{numbered_line}
use Rattle.aom_diagnostics.proofs.place.numbered_line.Given as goal

-- the line is the one that has so many before it in what is left
abbrev pub invariant-loop-before : goal.invariant-loop-before
invariant-loop-before l = numbered_line l.fn.text l.fn.number ≡ slice_index_or (lines_of l.rest) l.before []

abbrev pub decreases-loop-before : goal.decreases-loop-before
decreases-loop-before l = length l.rest
