-- The edits so far.
use Rattle.std.proofs.Common.{◌≡◌, map, take}
use Rattle.serde_json.specs.View.{view}
use Rattle.aom_language_answers.specs.Renaming.{edit_data}
use Rattle.aom_language_answers.proofs.renaming.edits_of.Given as goal

abbrev pub invariant-loop-place : goal.invariant-loop-place
invariant-loop-place l = record { same : l.ruler ≡ l.initial.ruler; so_far : map view l.edits.items ≡ map (edit_data l.new_name l.names l.ruler) (take l.place-index l.places) }
