use Rattle.std.proofs.Common.{arith}
use Rattle.std.proofs.lemmas.Grind.{common_steps}
use Rattle.aom_cost_report.proofs.writer.FigureWriter.budget_owner.Goals as goal

pub returns-in-Class : goal.returns-in-Class
returns-in-Class c = grind (arith, common_steps)
