-- Whether the tokens so far have the name.
use Rattle.std.proofs.Common.{◌≡◌}
use Rattle.aom_source_names.specs.Meanings.{has_name}
use Rattle.aom_source_names.proofs.names.Names.has.Given as goal

abbrev pub invariant-loop-at : goal.invariant-loop-at
invariant-loop-at l = record { so_far : l.has ≡ has_name l.name l.at l.self }
