use Rattle.std.proofs.Common.{◌≡◌, ◌++◌, take}
use Rattle.aom_cost_report.specs.Methods.{method_text}
use Rattle.aom_cost_report.specs.Each.{each}
use Rattle.aom_cost_report.proofs.method.write_methods.Given as goal

abbrev pub invariant-loop-index : goal.invariant-loop-index
invariant-loop-index l = l.out ≡ l.fn.out ++ each (method_text l.names l.linked l.figures) 0 (take l.index l.methods)
