use Rattle.std.proofs.Common.{◌≡◌, None, take}
use Rattle.aom_cost_report.specs.Way.{costliest}
use Rattle.aom_cost_report.proofs.way.costliest.Given as goal

abbrev pub invariant-loop-instr : goal.invariant-loop-instr
invariant-loop-instr l = l.best ≡ costliest l.figures.prices None (take l.instr-index l.code)
