-- The classes below keep within what they declare.
use Rattle.aom_budget.specs.Figures.{ClassesWithin}
use Rattle.aom_budget.proofs.figures.Figures.keep_classes.Given as goal

abbrev pub invariant-loop-index : goal.invariant-loop-index
invariant-loop-index l = ClassesWithin l.linked l.self.prices l.index
