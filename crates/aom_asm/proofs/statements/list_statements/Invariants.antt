use Rattle.std.proofs.Common.{◌≡◌, ◌++◌, length}
use Rattle.aom_asm.proofs.statements.list_statements.Given as goal

abbrev pub invariant-loop-statement : goal.invariant-loop-statement
invariant-loop-statement l = l.statements.items ++ l.text ≡ l.fn.text

abbrev pub decreases-loop-statement : goal.decreases-loop-statement
decreases-loop-statement l = length l.text
