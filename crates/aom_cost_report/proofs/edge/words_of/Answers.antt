use Rattle.std.proofs.Common.{rules}
use Rattle.aom_cost_report.proofs.edge.words_of.Goals as goal

pub returns-in-Trap : goal.returns-in-Trap
returns-in-Trap c = search rules
