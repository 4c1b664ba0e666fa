-- What is so of those so far is told.
use Rattle.aom_warnings.specs.Warnings.{Adds, OfFirst, OfReach}
use Rattle.aom_warnings.proofs.finding.add_reach.Given as goal

abbrev pub invariant-loop-place : goal.invariant-loop-place
invariant-loop-place l = Adds l.image (OfFirst (OfReach l.number) l.place) l.initial.warnings.items l.warnings.items
