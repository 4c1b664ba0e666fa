-- A line more is written.
use Rattle.aom_diagnostic_commands.specs.Warned.{warning_line}
use Rattle.aom_diagnostic_commands.proofs.Warning.{line_more}
use Rattle.aom_diagnostic_commands.proofs.warned.write_warnings.Goals as goal

pub loop-warning-preserved : goal.loop-warning-preserved
loop-warning-preserved c =
    let added = rw (c.line_in-line.ensures, c.requires.classes, c.requires.methods) at c.in_ok-write_warning.ensures in
    line_more (warning_line c.args.telling c.args.program.now.text) c.args.warnings.now c.loop-warning.warning-index _ _ _ _ c.loop-warning-test.true c.warning-item.is
    c.loop-warning.invariant added
