-- Those so far are written.
use Rattle.std.proofs.Common.{◌≡◌, ◌++◌, take}
use Rattle.aom_diagnostic_commands.specs.Warned.{warning_line, warning_lines}
use Rattle.aom_diagnostic_commands.proofs.warned.write_warnings.Given as goal

abbrev pub invariant-loop-warning : goal.invariant-loop-warning
invariant-loop-warning l = l.out ≡ l.fn.out ++ warning_lines (warning_line l.telling l.program.text) (take l.warning-index l.warnings)
