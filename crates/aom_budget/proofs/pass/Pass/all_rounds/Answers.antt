use Rattle.std.proofs.Common.{rules}
use Rattle.aom_budget.proofs.pass.Pass.all_rounds.Goals as goal

pub returns-clause-is : goal.returns-clause-is
returns-clause-is c = search rules
