use Rattle.std.proofs.Common.{rules}
use Rattle.aom_budget.proofs.prices.main_price.Goals as goal

pub returns : goal.returns
returns c = search rules
