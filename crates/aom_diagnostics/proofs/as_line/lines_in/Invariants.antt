-- The lines so far, and behind them those of what is left, are those of the text.
use Rattle.std.proofs.Common.{◌≡◌, ◌++◌, length}
use Rattle.aom_diagnostics.specs.Lines.{lines_in}
use Rattle.aom_diagnostics.proofs.as_line.lines_in.Given as goal

abbrev pub invariant-loop-statement : goal.invariant-loop-statement
invariant-loop-statement l = l.lines.items ++ lines_in l.fn.key l.text ≡ lines_in l.fn.key l.fn.text

abbrev pub decreases-loop-statement : goal.decreases-loop-statement
decreases-loop-statement l = length l.text
