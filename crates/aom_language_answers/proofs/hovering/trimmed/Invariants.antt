-- The bytes so far.
use Rattle.std.proofs.Common.{◌≡◌, ◌≤◌}
use Rattle.aom_language_answers.specs.Hovers.{trimmed_size}
use Rattle.aom_language_answers.proofs.hovering.trimmed.Given as goal

abbrev pub invariant-loop-at : goal.invariant-loop-at
invariant-loop-at l = record { within : l.size ≤ l.at; so_far : l.size ≡ trimmed_size l.text l.at }
