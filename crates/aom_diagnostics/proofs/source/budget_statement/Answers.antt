use Rattle.std.proofs.Common.{rules}
use Rattle.aom_diagnostics.proofs.source.budget_statement.Goals as goal

pub returns-in-Main : goal.returns-in-Main
returns-in-Main c = search rules
