-- The names so far, and behind them those of what is left, are those of the text.
use Rattle.std.proofs.Common.{◌≡◌, ◌++◌, ℕ, List, length, map}
use Rattle.std.specs.Borrow.{Bor}
use Rattle.aom_diagnostics.specs.Declarations.{names_in}
use Rattle.aom_diagnostics.proofs.naming.names_in.Given as goal

abbrev pub invariant-loop-statement : goal.invariant-loop-statement
invariant-loop-statement l = map (λ (n : Bor (List ℕ)). n.now) l.names.items ++ names_in l.fn.key l.text ≡ names_in l.fn.key l.fn.text

abbrev pub decreases-loop-statement : goal.decreases-loop-statement
decreases-loop-statement l = length l.text
