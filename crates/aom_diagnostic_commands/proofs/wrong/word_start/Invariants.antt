-- The word begins where the one does that ends where the search has come.
use Rattle.std.proofs.Common.{◌≡◌, ◌≤◌}
use Rattle.aom_diagnostic_commands.specs.Wrong.{word_start}
use Rattle.aom_diagnostic_commands.proofs.wrong.word_start.Given as goal

abbrev pub invariant-loop-start : goal.invariant-loop-start
invariant-loop-start l = (word_start l.text l.start ≡ word_start l.text l.fn.end) × (l.start ≤ l.fn.end)

abbrev pub decreases-loop-start : goal.decreases-loop-start
decreases-loop-start l = l.start
