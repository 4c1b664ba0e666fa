-- Those so far are written.
use Rattle.std.proofs.Common.{◌≡◌, map, take}
use Rattle.aom_diagnostic_commands.specs.Warned.{script_line, warning_lines}
use Rattle.aom_diagnostic_commands.proofs.script_warned.script_lines.Given as goal

abbrev pub invariant-loop-warning : goal.invariant-loop-warning
invariant-loop-warning l = l.out ≡ warning_lines (script_line (map (λ w. w.now) l.classes)) (take l.warning-index l.warnings)
