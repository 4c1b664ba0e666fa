-- What is so of those so far is told.
use Rattle.aom_warnings.specs.Warnings.{Adds, OfFirst, OfField}
use Rattle.aom_warnings.proofs.finding.add_fields.Given as goal

abbrev pub invariant-loop-field : goal.invariant-loop-field
invariant-loop-field l = Adds l.image (OfFirst (OfField l.class) l.field) l.initial.warnings.items l.warnings.items
