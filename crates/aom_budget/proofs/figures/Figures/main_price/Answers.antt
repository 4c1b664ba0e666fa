-- The figures show the prices that it holds.
use Rattle.std.proofs.Common.{ap, ◌∙◌}
use Rattle.aom_budget.specs.Figures.{Figures, main_by}
use Rattle.aom_budget.proofs.figures.Figures.main_price.Goals as goal

pub returns : goal.returns
returns c = c.main_price.ensures ∙ ap (λ (f : Figures). main_by c.args.linked.now f.prices) c.self.view_is
