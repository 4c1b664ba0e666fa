-- The explanation begins where the line has ended.
use Rattle.aom_diagnostic_commands.proofs.Behind.{reported_first}
use Rattle.aom_diagnostic_commands.proofs.reporting.report_explained.Goals as goal

pub returns : goal.returns
returns g c = reported_first c.explanation.result (λ v. v.items) _ _ _ _ _ _ _ c.report-status.ensures c.explanation.ensures c.explain.ensures.ok c.explain.ensures.err
