-- What a turn is, by what is due, what has come, what is left to poll and what is ready.
use Rattle.std.proofs.lemmas.Bool.Decides.{nat_tests}
use Rattle.std.proofs.Common.{arith, ◌≡◌, ◌<◌, ◌≤◌, ◌-◌, ◌+◌, ℕ, Bool, true, false, Option, Some, cond, refl}
use Rattle.std.specs.Prelude.{nat_le}
use Rattle.std.proofs.lemmas.Bool.{leb-false}
use Rattle.aom_semantics.specs.State.{State}
use Rattle.aom_semantics.specs.World.{Candidate, Completes, Completion, Cuts, Observed, Observes, Kills, Executes, Environment, Passes, Picks}
use Rattle.aom_semantics.specs.World.{Polls, Strays, Timed, Turning, Waits, by_event, by_timer, due_of, first_due, first_ready}
use Rattle.aom_semantics.specs.World.{has_signal, next_event, next_native, next_time, picks, polls, time_of, turning}
use Rattle.aom_transcript.specs.declared.event.ClientCommand.{ClientCommand}
use Rattle.aom_transcript.specs.declared.event.TimedEvent.{TimedEvent}
use Rattle.aom_determinism.proofs.Remainders.{early_both, is_late, living_within, reached}

pub data Kind (outside : Environment) (s : State) : Turning → Type 0 where
  cuts : Kind outside s Cuts
  completes_one : (x : Timed) → first_due s.cells ≡ Some x → Kind outside s (Completes x.object)
  observes_one : (e : TimedEvent) → next_event outside s ≡ Some e → Kind outside s Observes
  kills_one : (e : TimedEvent) (n : ℕ) → next_event outside s ≡ Some e → Kind outside s (Kills n)
  executes_one : (e : TimedEvent) (c : ℕ) (command : ClientCommand) (name : ℕ) → next_event outside s ≡ Some e → Kind outside s (Executes c command name)
  polls_one : (n : ℕ) (answer : Option Completion) → s.rest.polled ≤ n → n < s.rest.polled + (outside.natives - s.rest.polled) → is_late outside s ≡ false →
      Kind outside s (Polls n answer)
  picks_one : (x : Candidate) → s.rest.dispatches < outside.limit → Kind outside s (Picks x.owned_object)
  strays : Kind outside s Strays
  passes_on : (time : ℕ) → next_time outside s ≡ Some time → is_late outside s ≡ false → Kind outside s (Passes time)
  waits : Kind outside s Waits

module _ (outside : Environment) (s : State) where
  -- of what waits, whether it has come
  abbrev timer_early : Type 0
  timer_early = reached (due_of (first_due s.cells)) s.rest.clock ≡ false

  abbrev event_early : Type 0
  event_early = reached (time_of (next_event outside s)) s.rest.clock ≡ false

  picks_kind : (b : Bool) (ready : Option Candidate) (next : Option ℕ) → s.rest.dispatches < outside.limit → next_time outside s ≡ next →
      is_late outside s ≡ false → Kind outside s (picks b ready next)
  picks_kind x ready next below is early = grind (arith, nat_tests, strays, picks_one, waits, passes_on)

  polls_kind : (n : Option ℕ) → next_native outside s ≡ n → (answer : Option Completion) (after : Turning) → is_late outside s ≡ false → Kind outside s after →
      Kind outside s (polls n answer after)
  polls_kind x is answer after early then = grind (arith, nat_tests, living_within s.killed (outside.natives - s.rest.polled) s.rest.polled, polls_one)

  event_kind : (name : ℕ) (next : Option TimedEvent) → next_event outside s ≡ next → (after : Turning) → (event_early → Kind outside s after) →
      Kind outside s (by_event outside name s next after)
  event_kind name x is after then = grind (arith, nat_tests, reached, observes_one, kills_one, executes_one)

  timer_kind : (next : Option Timed) → first_due s.cells ≡ next → (after : Turning) → (timer_early → Kind outside s after) → Kind outside s (by_timer s next after)
  timer_kind x is after then = grind (arith, nat_tests, reached, completes_one)

  pub kind_of : (observed : Observed) → Kind outside s (turning outside observed s)
  kind_of observed = go (nat_le outside.limit s.rest.dispatches) refl
    where
      go : (b : Bool) → nat_le outside.limit s.rest.dispatches ≡ b → Kind outside s (cond b Cuts (by_timer s (first_due s.cells) (by_event outside observed.name s
          (next_event outside s) (polls (next_native outside s) observed.completion (picks (has_signal s.cells) (first_ready s.cells) (next_time outside s))))))
      go true at = cuts
      go false at = timer_kind (first_due s.cells) refl _ (λ timer. event_kind observed.name (next_event outside s) refl _
          (λ event. polls_kind (next_native outside s) refl observed.completion _ (early_both outside s timer event) (picks_kind (has_signal s.cells)
          (first_ready s.cells) (next_time outside s) (leb-false outside.limit s.rest.dispatches at) refl (early_both outside s timer event))))
