use Rattle.std.proofs.Common.{◌≡◌, ◌++◌, take}
use Rattle.aom_cost_report.specs.Edges.{code_text}
use Rattle.aom_cost_report.proofs.edge.write_code.Given as goal

abbrev pub invariant-loop-instr : goal.invariant-loop-instr
invariant-loop-instr l = l.out ≡ l.fn.out ++ code_text l.from (take l.instr-index l.code)
