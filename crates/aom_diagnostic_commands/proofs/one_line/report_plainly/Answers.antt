-- The line of want of memory begins where the fault's has ended.
use Rattle.std.proofs.Common.{refl}
use Rattle.aom_diagnostic_commands.proofs.one_line.report_plainly.Goals as goal

pub returns-clause-reported : goal.returns-clause-reported
returns-clause-reported g c = record { line = _; begins = refl; reported = c.report-status.ensures.1; memory = c.report.ensures.1 }
