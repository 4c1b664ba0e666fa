-- The places so far.
use Rattle.std.proofs.Common.{◌≡◌, map, take}
use Rattle.serde_json.specs.View.{view}
use Rattle.aom_language_answers.specs.Places.{location_data}
use Rattle.aom_language_answers.proofs.places.locations.Given as goal

abbrev pub invariant-loop-declared : goal.invariant-loop-declared
invariant-loop-declared l = record { same : l.ruler ≡ l.initial.ruler; so_far : map view l.locations.items ≡ map (location_data l.uri l.names l.ruler) (take l.declared-index l.found) }
