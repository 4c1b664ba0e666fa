-- The places among the tokens so far.
use Rattle.std.proofs.Common.{◌≡◌}
use Rattle.aom_source_names.specs.Meanings.{places_in}
use Rattle.aom_source_names.proofs.names.Names.places.Given as goal

abbrev pub invariant-loop-other : goal.invariant-loop-other
invariant-loop-other l = record { so_far : l.found.items ≡ places_in l.self l.fn.at l.meant l.other }
