-- Of a text that denotes another image that is told.
use Rattle.std.proofs.Common.{rules}
use Rattle.aom_diagnostic_commands.proofs.reporting_by_text.report_text_refusal.Goals as goal

pub returns-in-Other : goal.returns-in-Other
returns-in-Other g c = search rules
