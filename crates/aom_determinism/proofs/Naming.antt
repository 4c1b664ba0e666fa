-- A turn makes something under the name that is heard, and nothing else of it looks at that name: it polls and writes the same under any.
use Rattle.std.proofs.lemmas.Bool.Decides.{nat_tests}
use Rattle.std.proofs.Common.{arith, Option, ℕ, ◌≡◌}
use Rattle.aom_image.specs.Image.{Image}
use Rattle.aom_semantics.specs.State.{State}
use Rattle.aom_semantics.specs.World.{Observed, Executes, Environment, Turning, by_event, turning, written_by}
use Rattle.aom_transcript.specs.declared.event.TimedEvent.{TimedEvent}
use Rattle.aom_determinism.proofs.NamedCells.{cond_applied}
use Rattle.aom_determinism.specs.Observing.{is_polling}

-- the turn, whatever its name
abbrev unnamed : Turning → Turning
unnamed (Executes client command name) = Executes client command 0
unnamed t = t

module _ (outside : Environment) (a b : ℕ) (s : State) where
  unnamed_event : (e : Option TimedEvent) (after : Turning) → unnamed (by_event outside a s e after) ≡ unnamed (by_event outside b s e after)
  unnamed_event x after = grind (arith, nat_tests, cond_applied)

unnamed_turning : (outside : Environment) (observed : Observed) (a : ℕ) (s : State) →
    unnamed (turning outside (record observed { name = a }) s) ≡ unnamed (turning outside observed s)
unnamed_turning outside observed a s = grind (arith, nat_tests, cond_applied, unnamed_event outside a observed.name s)

-- ---- what does not look at it

pub polling_named : (outside : Environment) (observed : Observed) (a : ℕ) (s : State) →
    is_polling (turning outside (record observed { name = a }) s) ≡ is_polling (turning outside observed s)
polling_named outside observed a s = grind (arith, nat_tests, unnamed_turning outside observed a s)

pub written_named : (p : Image) (outside : Environment) (observed : Observed) (a : ℕ) (s : State) →
    written_by p s (turning outside (record observed { name = a }) s) ≡ written_by p s (turning outside observed s)
written_named p outside observed a s = grind (arith, nat_tests, unnamed_turning outside observed a s)
