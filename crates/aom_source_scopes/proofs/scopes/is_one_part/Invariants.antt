-- The tokens so far are of one part.
use Rattle.std.proofs.Common.{◌≡◌}
use Rattle.aom_source_scopes.specs.Scopes.{is_one_part}
use Rattle.aom_source_scopes.proofs.scopes.is_one_part.Given as goal

abbrev pub invariant-loop-at : goal.invariant-loop-at
invariant-loop-at l = record { so_far : l.is_one ≡ is_one_part l.tokens l.first l.at }
