-- Behind the bytes so far the line begins where it does in the text.
use Rattle.std.proofs.Common.{◌≡◌, ◌≤◌, ◌+◌, ◌-◌, drop, length}
use Rattle.aom_diagnostic_commands.specs.Wrong.{line_start}
use Rattle.aom_diagnostic_commands.proofs.wrong.line_start.Given as goal

abbrev pub invariant-loop-before : goal.invariant-loop-before
invariant-loop-before l = (l.start + line_start (drop l.start l.text) l.before ≡ line_start l.text l.fn.before) × (l.start ≤ length l.text)

abbrev pub decreases-loop-before : goal.decreases-loop-before
decreases-loop-before l = length l.text - l.start
