-- The fault is told with the line that was found.
use Rattle.aom_diagnostic_commands.specs.AsLine.LinesFault.{placed}
use Rattle.aom_diagnostic_commands.proofs.one_line.report_placed.Goals as goal

pub returns-in-Ok-clause-reported : goal.returns-in-Ok-clause-reported
returns-in-Ok-clause-reported g c = placed c.in-Ok.line c.in-Ok.ensures c.report_as_line.ensures.reported
