-- The declarations among the tokens so far.
use Rattle.std.proofs.Common.{◌≡◌}
use Rattle.aom_source_names.specs.Meanings.{declarations_in}
use Rattle.aom_source_names.proofs.names.Names.declarations.Given as goal

abbrev pub invariant-loop-at : goal.invariant-loop-at
invariant-loop-at l = record { so_far : l.found.items ≡ declarations_in l.self l.at }
