-- The lines so far, and behind them those of what is left, are those of the text.
use Rattle.std.proofs.Common.{◌≡◌, ◌++◌, ℕ, List, length, map}
use Rattle.std.specs.Borrow.{Bor}
use Rattle.aom_text.specs.Text.{lines_of}
use Rattle.aom_source_listing.proofs.lines.lines_of.Given as goal

abbrev pub invariant-loop-rest : goal.invariant-loop-rest
invariant-loop-rest l = map (λ (x : Bor (List ℕ)). x.now) l.lines.items ++ lines_of l.rest ≡ lines_of l.fn.text

abbrev pub decreases-loop-rest : goal.decreases-loop-rest
decreases-loop-rest l = length l.rest
