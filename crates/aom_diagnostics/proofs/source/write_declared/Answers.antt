use Rattle.std.proofs.Common.{rules}
use Rattle.aom_diagnostics.proofs.source.write_declared.Goals as goal

pub returns-in-OverBudget : goal.returns-in-OverBudget
returns-in-OverBudget c = search rules
