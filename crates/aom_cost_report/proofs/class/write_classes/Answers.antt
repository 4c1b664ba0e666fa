-- Each class is written by its number.
use Rattle.aom_cost_report.specs.Classes.{class_text}
use Rattle.aom_cost_report.proofs.GraphGrowing.{each_more}
use Rattle.aom_cost_report.proofs.class.write_classes.Goals as goal

pub loop-index-preserved : goal.loop-index-preserved
loop-index-preserved c = each_more (class_text c.args.names.now c.args.linked.now c.args.figures.now.prices)
    _ _ _ _ _ _ _ c.class_number.ensures c.loop-index-test.true c.index-classes-index.is c.loop-index.invariant c.in_ok-write_class.ensures
