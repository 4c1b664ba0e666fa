-- The explanation begins where the line has ended.
use Rattle.aom_diagnostic_commands.proofs.Behind.{reported_first}
use Rattle.aom_diagnostic_commands.proofs.unread.report_unread.Goals as goal

pub returns : goal.returns
returns g c = reported_first c.unread_text.result (λ v. v.items) _ _ _ _ _ _ _ c.report-status.ensures c.unread_text.ensures c.explain.ensures.ok c.explain.ensures.err
