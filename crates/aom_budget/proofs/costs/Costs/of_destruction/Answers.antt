-- The table says it of each class.
use Rattle.std.proofs.Common.{◌∙◌, ap, sym}
use Rattle.aom_roles.specs.Tables.{at}
use Rattle.aom_budget.specs.Pricing.{destruction_by}
use Rattle.aom_budget.proofs.costs.Costs.of_destruction.Goals as goal

pub returns-in-Object-clause-is : goal.returns-in-Object-clause-is
returns-in-Object-clause-is c = λ p are. c.at_or.ensures.is ∙ ap (at 1 c.args.self.now.destroyed) c.number.ensures.value ∙ are.destroyed.each c.in-Object.class
    ∙ ap (destruction_by p c.args.self.now.prices) (sym c.in-Object.is)
