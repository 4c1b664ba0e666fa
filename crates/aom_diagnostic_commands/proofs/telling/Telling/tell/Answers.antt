-- In one line of a file the fault is told with its status.
use Rattle.aom_diagnostic_commands.proofs.telling.Telling.tell.Goals as goal

pub returns-in-AsLine : goal.returns-in-AsLine
returns-in-AsLine g c = rw c.in-AsLine.is (c.line_fault.ensures.status, c.line_fault.ensures.told)
