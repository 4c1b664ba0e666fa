-- Which turn is next: by the limit, by what is due, by what has come, by what is polled, and by what is ready.
use Rattle.std.proofs.lemmas.Bool.Decides.{nat_tests}
use Rattle.std.proofs.Common.{arith, ◌≡◌, ◌<◌, ◌≤◌, ℕ, true, false, Option, Some, None, ap, cond, refl, ◌∙◌}
use Rattle.std.proofs.lemmas.Bool.{le-leb, lt-leb}
use Rattle.aom_machine.specs.Turns.{NoneDue}
use Rattle.aom_semantics.specs.State.{State}
use Rattle.aom_semantics.specs.World.{Candidate, Completes, Completion, Cuts, Observed, Environment, Passes, Picks, Polls, Timed, Turning, Waits, by_event}
use Rattle.aom_semantics.specs.World.{by_timer, delivers, first_due, first_ready, has_signal, next_event, next_native, next_time, passes, picks, polls}
use Rattle.aom_semantics.specs.World.{turning}
use Rattle.aom_transcript.specs.declared.event.TimedEvent.{TimedEvent}

-- the next event comes later, if there is one
abbrev pub NoneCome : Environment → State → Type 0
NoneCome outside s = (e : TimedEvent) → next_event outside s ≡ Some e → s.rest.clock < e.time

module _ (outside : Environment) (s : State) where
  -- all that comes after the timers, the events and the natives
  abbrev at_last : Turning
  at_last = picks (has_signal s.cells) (first_ready s.cells) (next_time outside s)

  abbrev then_natives : Option Completion → Turning
  then_natives answer = polls (next_native outside s) answer at_last

  abbrev then_events : Observed → Turning
  then_events observed = by_event outside observed.name s (next_event outside s) (then_natives observed.completion)

  pub cuts_so : outside.limit ≤ s.rest.dispatches → (observed : Observed) → turning outside observed s ≡ Cuts
  cuts_so at observed = ap (λ b. cond b Cuts (by_timer s (first_due s.cells) (then_events observed))) (le-leb outside.limit s.rest.dispatches at)

  module _ (below : s.rest.dispatches < outside.limit) where
    by_first : (observed : Observed) (next : Option Timed) → first_due s.cells ≡ next → turning outside observed s ≡ by_timer s next (then_events observed)
    by_first observed next first = grind (arith, nat_tests, lt-leb outside.limit s.rest.dispatches below)

    pub completes_so : (x : Timed) → first_due s.cells ≡ Some x → x.timer.due ≤ s.rest.clock → (observed : Observed) → turning outside observed s ≡ Completes x.object
    completes_so x first late observed = grind (arith, nat_tests, by_first, le-leb)

    -- nothing is due
    module _ (none : NoneDue s) where
      early : (after : Turning) (next : Option Timed) → first_due s.cells ≡ next → by_timer s next after ≡ after
      early after x first = grind (arith, nat_tests, lt-leb)

      by_next : (observed : Observed) (next : Option TimedEvent) → next_event outside s ≡ next →
          turning outside observed s ≡ by_event outside observed.name s next (then_natives observed.completion)
      by_next observed next is = grind (arith, nat_tests, by_first observed, early)

      pub delivers_so : (e : TimedEvent) → next_event outside s ≡ Some e → e.time ≤ s.rest.clock → (observed : Observed) →
          turning outside observed s ≡ delivers outside observed.name s e.event
      delivers_so e is come observed = grind (arith, nat_tests, by_next observed (Some e) is, le-leb e.time s.rest.clock come)

      -- and nothing has come
      module _ (none_come : NoneCome outside s) where
        later : (name : ℕ) (after : Turning) (next : Option TimedEvent) → next_event outside s ≡ next → by_event outside name s next after ≡ after
        later name after x is = grind (arith, nat_tests, lt-leb)

        settled : (observed : Observed) → turning outside observed s ≡ then_natives observed.completion
        settled observed = by_next observed (next_event outside s) refl ∙ later observed.name (then_natives observed.completion) (next_event outside s) refl

        pub polls_so : (observed : Observed) (n : ℕ) → next_native outside s ≡ Some n → turning outside observed s ≡ Polls n observed.completion
        polls_so observed n next = settled observed ∙ ap (λ k. polls k observed.completion at_last) next

        -- and all natives are polled
        module _ (polled : next_native outside s ≡ None) where
          last_is : (observed : Observed) → turning outside observed s ≡ at_last
          last_is observed = settled observed ∙ ap (λ k. polls k observed.completion at_last) polled

          pub picks_so : (x : Candidate) → has_signal s.cells ≡ true → first_ready s.cells ≡ Some x → (observed : Observed) → turning outside observed s ≡ Picks x.owned_object
          picks_so x signal ready observed = grind (arith, nat_tests, last_is observed)

          quiet : has_signal s.cells ≡ false → (next : Option ℕ) → next_time outside s ≡ next → (observed : Observed) → turning outside observed s ≡ passes next
          quiet no_signal next is observed = grind (arith, nat_tests, last_is observed)

          pub passes_so : has_signal s.cells ≡ false → (time : ℕ) → next_time outside s ≡ Some time → (observed : Observed) → turning outside observed s ≡ Passes time
          passes_so no_signal time is observed = quiet no_signal (Some time) is observed

          pub waits_so : has_signal s.cells ≡ false → next_time outside s ≡ None → (observed : Observed) → turning outside observed s ≡ Waits
          waits_so no_signal is observed = quiet no_signal None is observed
