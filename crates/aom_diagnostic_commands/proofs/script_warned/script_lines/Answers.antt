-- A line more is written.
use Rattle.std.proofs.Common.{map, []}
use Rattle.aom_diagnostic_commands.specs.Warned.{script_line}
use Rattle.aom_diagnostic_commands.proofs.Warning.{line_more, one_there}
use Rattle.aom_diagnostic_commands.proofs.script_warned.script_lines.Goals as goal

pub loop-warning-preserved : goal.loop-warning-preserved
loop-warning-preserved c =
    line_more (script_line (map (λ w. w.now) c.args.classes.now)) c.args.warnings.now c.loop-warning.warning-index _ [] _ _ c.loop-warning-test.true
    (one_there c.args.warnings.now c.loop-warning.warning-index _ _ c.loop-warning-test.true) c.loop-warning.invariant c.in_ok-write_script_line.ensures
