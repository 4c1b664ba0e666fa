use Rattle.std.proofs.Common.{rules}
use Rattle.aom_budget.proofs.prices.kind_price.Goals as goal

pub returns-in-Active : goal.returns-in-Active
returns-in-Active c = search rules
