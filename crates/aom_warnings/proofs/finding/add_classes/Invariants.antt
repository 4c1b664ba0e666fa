-- What is so of those so far is told.
use Rattle.aom_warnings.specs.Warnings.{Adds, OfFirst, OfClass}
use Rattle.aom_warnings.proofs.finding.add_classes.Given as goal

abbrev pub invariant-loop-class : goal.invariant-loop-class
invariant-loop-class l = Adds l.image (OfFirst OfClass l.class) l.initial.warnings.items l.warnings.items
