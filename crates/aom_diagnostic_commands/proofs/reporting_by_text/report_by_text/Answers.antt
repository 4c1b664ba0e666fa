-- The explanation begins where the line has ended.
use Rattle.aom_diagnostic_commands.proofs.Behind.{reported_first}
use Rattle.aom_diagnostic_commands.proofs.reporting_by_text.report_by_text.Goals as goal

pub returns : goal.returns
returns g c = reported_first c.explanation_by_text.result (λ v. v.items) _ _ _ _ _ _ _ c.report-status.ensures c.explanation_by_text.ensures
    c.explain.ensures.ok c.explain.ensures.err
