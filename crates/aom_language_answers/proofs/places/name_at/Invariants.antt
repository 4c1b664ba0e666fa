-- The tokens so far.
use Rattle.std.proofs.Common.{◌≡◌}
use Rattle.aom_language_answers.specs.Places.{first_name_in}
use Rattle.aom_language_answers.proofs.places.name_at.Given as goal

abbrev pub invariant-loop-at : goal.invariant-loop-at
invariant-loop-at l = record { same : l.ruler ≡ l.initial.ruler; so_far : l.found ≡ first_name_in l.names l.ruler l.wanted l.at }
