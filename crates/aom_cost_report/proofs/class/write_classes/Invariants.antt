use Rattle.std.proofs.Common.{◌≡◌, ◌++◌, take}
use Rattle.aom_cost_report.specs.Classes.{class_text}
use Rattle.aom_cost_report.specs.Each.{each}
use Rattle.aom_cost_report.proofs.class.write_classes.Given as goal

abbrev pub invariant-loop-index : goal.invariant-loop-index
invariant-loop-index l = l.out ≡ l.fn.out ++ each (class_text l.names l.linked l.figures.prices) 0 (take l.index l.classes)
