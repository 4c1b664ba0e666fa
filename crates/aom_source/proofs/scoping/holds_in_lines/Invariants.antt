-- The name holds in the lines so far.
use Rattle.std.proofs.Common.{◌≡◌, ◌≤◌, ◌<◌, ℕ, get_or, true}
use Rattle.aom_source_scopes.specs.Scopes.{holds_at}
use Rattle.aom_source.specs.Map.{tokens_of}
use Rattle.aom_source.proofs.scoping.holds_in_lines.Given as goal

abbrev pub invariant-loop-line : goal.invariant-loop-line
invariant-loop-line l = (line : ℕ) → l.named.from ≤ line → line < l.line → holds_at l.scopes l.named.token (get_or (tokens_of l.origins.items) line 0) ≡ true
