-- The symbols so far.
use Rattle.std.proofs.Common.{◌≡◌, map, take}
use Rattle.serde_json.specs.View.{view}
use Rattle.aom_language_answers.specs.Outline.{inner_data}
use Rattle.aom_language_answers.proofs.outline.inner_symbols.Given as goal

abbrev pub invariant-loop-at : goal.invariant-loop-at
invariant-loop-at l = record { same : l.ruler ≡ l.initial.ruler; so_far : map view l.symbols.items ≡ map (inner_data l.names l.ruler) (take l.at-index l.inner) }
