use Rattle.std.proofs.Common.{rules}
use Rattle.aom_diagnostics.proofs.table.budget_entry.Goals as goal

pub returns-in-TooDeep : goal.returns-in-TooDeep
returns-in-TooDeep c = search rules
