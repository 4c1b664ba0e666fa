-- All that was found of the decoded image is told.
use Rattle.std.proofs.Common.{◌∙◌, ap}
use Rattle.aom_diagnostic_commands.specs.Warned.{warning_line, warning_lines}
use Rattle.aom_diagnostic_commands.proofs.Warning.{warned}
use Rattle.aom_diagnostic_commands.proofs.warned.warned_text.Goals as goal

pub returns-clause-ok : goal.returns-clause-ok
returns-clause-ok c =
    let line = warning_line c.args.telling c.args.program.now.text in
    let found = rw c.image.ensures at c.in_ok-image.ensures.found in
    warned line c.args.program.now.image _ c.in_ok-image.image c.in_ok-warnings.warnings.items found.0 found.1 c.in_ok-warnings.ensures
    (c.in_ok-lines_of.ensures ∙ ap (warning_lines line) c.deref.ensures.value)
