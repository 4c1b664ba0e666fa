use Rattle.std.proofs.lemmas.Grind.{common_steps}
use Rattle.std.proofs.Common.{arith}
use Rattle.aom_cost_report.proofs.edge.write_arrow.Goals as goal

pub returns : goal.returns
returns c = grind (arith, common_steps)
