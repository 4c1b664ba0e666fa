-- The tokens so far stand there.
use Rattle.std.proofs.Common.{◌≡◌}
use Rattle.aom_source_names.specs.Spots.{spots_up_to}
use Rattle.aom_source_names.proofs.spot.spots_of.Given as goal

abbrev pub invariant-loop-at : goal.invariant-loop-at
invariant-loop-at l = record { so_far : l.spots.items ≡ spots_up_to l.tokens l.at }
