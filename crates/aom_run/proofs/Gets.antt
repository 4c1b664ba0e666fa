-- The event that comes next is that of the list.
use Rattle.std.proofs.lemmas.Bool.Decides.{nat_tests}
use Rattle.std.proofs.Common.{arith, ◌≡◌, ◌∙◌, ℕ, zero, suc, List, [], ◌∷◌, Some, refl}
use Rattle.std.specs.Prelude.{All, slice_get}
use Rattle.aom_run.proofs.LinkConditionsLemmas.{all_there}
use Rattle.aom_semantics.specs.World.{event_at}
use Rattle.std.proofs.lemmas.List.Elements.{All-weaker}
use Rattle.aom_run.specs.Calls.{EventInRange}
use Rattle.aom_script.specs.Script.{InRange, IsTimely}
use Rattle.aom_transcript.specs.declared.event.TimedEvent.{TimedEvent}

pub event_got : (es : List TimedEvent) (k : ℕ) → slice_get es k ≡ event_at es k
event_got [] k = refl
event_got (e ∷ es) zero = refl
event_got (e ∷ es) (suc k) = event_got es k

-- what is so of all is so of it
pub all_got : (P : TimedEvent → Type 0) (es : List TimedEvent) (k : ℕ) (e : TimedEvent) → All P es → event_at es k ≡ Some e → P e
all_got P es k e all is = all_there P es k e all (event_got es k ∙ is)

-- the numbers of a script's events are as a machine needs them
pub ranged : (es : List TimedEvent) → IsTimely es → All (λ e. EventInRange e.event) es
ranged es timely = grind (arith, nat_tests, All-weaker InRange)
