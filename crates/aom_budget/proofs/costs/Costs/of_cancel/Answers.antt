-- The table says the most of what is listed.
use Rattle.std.proofs.Common.{◌∙◌, ap, sym}
use Rattle.aom_roles.specs.Tables.{at}
use Rattle.aom_budget.specs.Pricing.{cancel_by}
use Rattle.aom_budget.proofs.Destroyed.{cancels_most}
use Rattle.aom_budget.proofs.costs.Costs.of_cancel.Goals as goal

pub returns-in-Some-clause-is : goal.returns-in-Some-clause-is
returns-in-Some-clause-is c = λ p are. c.at.ensures.is ∙ ap (at 0 c.args.self.now.cancelled) c.number.ensures.value ∙ are.cancelled.each c.in-Some.class
    ∙ cancels_most p c.args.self.now.prices c.in-Some.class ∙ ap (cancel_by p c.args.self.now.prices) (sym c.in-Some.is)
