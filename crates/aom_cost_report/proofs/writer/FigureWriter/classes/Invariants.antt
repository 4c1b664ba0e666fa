use Rattle.std.proofs.Common.{◌≡◌, ◌++◌}
use Rattle.aom_budget.specs.declared.fault.BudgetOwner.TheVariants.{Class}
use Rattle.aom_cost_report.specs.Text.{by_number, budget_owner_lines}
use Rattle.aom_cost_report.proofs.writer.FigureWriter.classes.Given as goal

abbrev pub invariant-loop-index : goal.invariant-loop-index
invariant-loop-index l = l.self ≡ l.fn.self ++ by_number (λ k. budget_owner_lines l.names l.linked l.figures.prices (Class k)) l.index
