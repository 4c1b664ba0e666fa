use Rattle.std.proofs.Common.{rules}
use Rattle.aom_cost_report.proofs.most.most_of.Goals as goal

pub loop-index-preserved : goal.loop-index-preserved
loop-index-preserved c = search rules
