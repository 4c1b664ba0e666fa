-- The dearest edge so far, and that of one more instruction.
use Rattle.std.proofs.Common.{◌∙◌, ap}
use Rattle.aom_cost_report.specs.Way.{costlier}
use Rattle.aom_cost_report.proofs.Going.{costliest_more}
use Rattle.aom_cost_report.proofs.way.costliest.Goals as goal

pub loop-instr-preserved : goal.loop-instr-preserved
loop-instr-preserved c = costliest_more c.args.figures.now.prices c.args.code.now c.loop-instr.instr-index c.instr-item.result _ _ c.loop-instr-test.true
    c.instr-item.is c.loop-instr.invariant (c.costlier-best.ensures ∙ ap (λ e. costlier c.args.figures.now.prices c.loop-instr.best e) c.of.ensures)
