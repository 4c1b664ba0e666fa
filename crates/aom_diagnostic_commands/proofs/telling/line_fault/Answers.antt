-- The line is one of the text that is there, or the fault's own.
use Rattle.std.proofs.Common.{◌≡◌, Some, sym}
use Rattle.aom_diagnostic_commands.specs.AsLine.LinesFault.{placed}
use Rattle.aom_diagnostic_commands.proofs.telling.line_fault.Goals as goal

pub returns-in-Some-clause-told : goal.returns-in-Some-clause-told
returns-in-Some-clause-told g c =
    let there : c.args.program.now.text ≡ Some c.in-Some.text.now = sym (rw c.in-Some.is at c.text.ensures) in
    rw there (rw c.image.ensures at c.report_placed.ensures.reported)

pub returns-in-None-clause-told : goal.returns-in-None-clause-told
returns-in-None-clause-told g c =
    let none = sym (rw c.in-None.is at c.text.ensures) in
    rw none (placed c.own_line.result c.own_line.ensures c.report_as_line.ensures.reported)
