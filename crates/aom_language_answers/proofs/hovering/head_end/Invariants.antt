-- The tokens so far.
use Rattle.std.proofs.Common.{◌≡◌, ◌≤◌, ◌-◌}
use Rattle.aom_language_answers.specs.Hovers.{first_end}
use Rattle.aom_language_answers.proofs.hovering.head_end.Given as goal

abbrev pub invariant-loop-at : goal.invariant-loop-at
invariant-loop-at l = record { within : l.at - l.declared ≤ l.count - l.declared; so_far : l.end ≡ first_end l.names l.declared (l.at - l.declared) }
