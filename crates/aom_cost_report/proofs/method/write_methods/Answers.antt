-- Each method is written by its number.
use Rattle.aom_cost_report.specs.Methods.{method_text}
use Rattle.aom_cost_report.proofs.GraphGrowing.{each_more}
use Rattle.aom_cost_report.proofs.method.write_methods.Goals as goal

pub loop-index-preserved : goal.loop-index-preserved
loop-index-preserved c = each_more (method_text c.args.names.now c.args.linked.now c.args.figures.now)
    _ _ _ _ _ _ _ c.method_number.ensures c.loop-index-test.true c.index-methods-index.is c.loop-index.invariant c.in_ok-write_method.ensures
