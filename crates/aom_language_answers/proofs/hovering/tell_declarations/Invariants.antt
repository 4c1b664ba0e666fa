-- The declarations so far are told.
use Rattle.std.proofs.Common.{◌≡◌, ◌++◌, map, take}
use Rattle.aom_language_answers.specs.Hovers.{declarations_text}
use Rattle.aom_language_answers.proofs.hovering.tell_declarations.Given as goal

abbrev pub invariant-loop-declared : goal.invariant-loop-declared
invariant-loop-declared l = record { so_far : l.told.items ≡ l.initial.told.items ++ declarations_text l.names (map (λ note. note.items) l.notes) (take l.declared-index l.found) }
