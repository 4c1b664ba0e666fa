-- The table says the most of what is listed.
use Rattle.std.proofs.Common.{◌∙◌, ap}
use Rattle.aom_roles.specs.Tables.{at}
use Rattle.aom_budget.proofs.Greatest.{bodies_most}
use Rattle.aom_budget.proofs.costs.Costs.of_call.Goals as goal

pub returns-clause-is : goal.returns-clause-is
returns-clause-is c = λ p are. c.at.ensures.is ∙ ap (at 0 c.args.self.now.called) c.number.ensures.value ∙ are.called.each c.args.method
    ∙ bodies_most p c.args.self.now.prices c.args.method
