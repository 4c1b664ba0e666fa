-- What is told so far begins with a place.
use Rattle.std.proofs.Common.{◌≡◌, ◌⊎◌, [], All}
use Rattle.aom_source.specs.Refusals.{IsToldIn}
use Rattle.aom_source_commands.specs.Telling.{TellsPlace}
use Rattle.aom_source_commands.proofs.telling.tell_refusals.Given as goal

abbrev pub invariant-loop-refusal : goal.invariant-loop-refusal
invariant-loop-refusal l = All (IsToldIn l.source) l.refusals → (l.told.items ≡ []) ⊎ TellsPlace l.name l.source l.told.items
