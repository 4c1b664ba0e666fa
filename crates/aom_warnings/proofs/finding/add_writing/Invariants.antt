-- What is so of those so far is told.
use Rattle.aom_warnings.specs.Warnings.{Adds, OfFirst, OfWriting}
use Rattle.aom_warnings.proofs.finding.add_writing.Given as goal

abbrev pub invariant-loop-place : goal.invariant-loop-place
invariant-loop-place l = Adds l.image (OfFirst (OfWriting l.number) l.place) l.initial.warnings.items l.warnings.items
