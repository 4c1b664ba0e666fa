-- What is so of those so far is told.
use Rattle.aom_warnings.specs.Warnings.{Adds, OfFirst, OfMethod}
use Rattle.aom_warnings.proofs.finding.add_methods.Given as goal

abbrev pub invariant-loop-number : goal.invariant-loop-number
invariant-loop-number l = Adds l.image (OfFirst OfMethod l.number) l.initial.warnings.items l.warnings.items
