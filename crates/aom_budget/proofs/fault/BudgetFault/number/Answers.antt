-- A number that an arm answers is that of the fault.
use Rattle.std.proofs.Common.{rules}
use Rattle.aom_budget.specs.Faults.{number_of}
use Rattle.aom_budget.proofs.fault.BudgetFault.number.Goals as goal

pub returns-in-TooDeep : goal.returns-in-TooDeep
unfolding number_of
returns-in-TooDeep c = search rules
