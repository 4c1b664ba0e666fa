-- Turns of the machine, one after another: what is due completes requests, events are heard, natives are polled, and time passes, until an object is
-- dispatched, an event is told by a line, or the run ends.
use Rattle.std.proofs.lemmas.Bool.Decides.{nat_tests}
use Rattle.std.proofs.Common.{◌≡◌, ◌⊎◌, ◌<◌, ◌≤◌, ℕ, ℤ, suc, Bool, true, false, List, [], Option, Some, None, length, ap, append-nil, arith, refl, subst, sym}
use Rattle.std.proofs.Common.{◌∙◌}
use Rattle.std.proofs.lemmas.List.{append_cancel_left}
use Rattle.aom_run.proofs.MachineLemmas.{is_as_far}
use Rattle.aom_machine_state.specs.declared.progress.Progress.TheVariants.{Turned}
use Rattle.aom_machine.specs.Steps.{progress, timers}
use Rattle.aom_machine_state.specs.declared.counters.Counters.{Counters}
use Rattle.aom_machine_state.specs.LineBuffer.{LineBuffer}
use Rattle.aom_run.specs.Calls.{Completed as Completes_one, Delivered, NoneIsDue, Polled, Stands, RefinesWithNatives, Takes, natives_of}
use Rattle.aom_run.specs.declared.machine.HostedMachine.{HostedMachine}
use Rattle.aom_semantics.specs.Places.{named}
use Rattle.aom_semantics.specs.State.{Goes, State}
use Rattle.aom_semantics.specs.World.{Completes, IsBetween, Environment, Reaches, Turning, begins, delivers, event_at, turned, written_by}
use Rattle.aom_transcript.specs.declared.line.Line.{Line}
use Rattle.aom_transcript.specs.declared.event.TimedEvent.{TimedEvent}
use Rattle.aom_run.proofs.DeterminismLemmas.{event_there}
use Rattle.aom_run.proofs.Parts.{completed_same, delivers_alike, delivers_by, delivers_well, no_lines, polled_same, polls_by, still_between}
use Rattle.aom_run.proofs.Parts.{turns_by}
use Rattle.aom_run.proofs.Reaching.{reaches_both}
use Rattle.aom_run.proofs.Turnings.{NoneCome, completes_so, delivers_so, polls_so}
use Rattle.aom_run.specs.Turns.{AllPolled, CompletesDue, HasCome, IsDue, IsLate, NoneHasCome, Settles, ReportsEnd, observing, to_come, waiting}

module _ {X : Type 0} {B : X → Type 0} where
  -- a state between dispatches
  pub turned_far : (m : HostedMachine X B) (s : State) → RefinesWithNatives m s → IsBetween s → progress m.core ≡ Turned
  turned_far m s stands between = grind (arith, nat_tests, is_as_far m.core s stands.stands)

  -- ---- what is due

  pub none_completed : (m : HostedMachine X B) → CompletesDue m m
  none_completed m s stands = (s, λ outside below. begins, refl, stands)

  module _ (old m new : HostedMachine X B) (so_far : CompletesDue old m) (image : m.core.image ≡ old.core.image) (one : Completes_one m true new) where
    pub one_completed : CompletesDue old new
    one_completed s stands =
        let w = so_far s stands in
        let x = one no_lines w.0 w.3 in
        let t = x.3 in
        let on : (outside : Environment) → s.rest.dispatches < outside.limit → Reaches old.core.image outside s [] t.state = λ outside below.
        let still : w.0.rest.dispatches < outside.limit = subst (λ r. r < outside.limit) (sym (ap (λ r. r.dispatches) w.2)) below in
        turns_by old.core.image outside s [] w.0 t.state (Completes x.0.object) (w.1 outside below) t.between
        (completes_so outside w.0 still x.0 x.1 x.2) tt (subst (λ q. turned q w.0 (Completes x.0.object) ≡ Goes t.state) image t.goes) in
        (t.state, on, (completed_same m.core.image w.0 t.state x.0.object t.goes).1 ∙ w.2, t.stands)

    pub completed_far : Stands m → progress new.core ≡ Turned
    completed_far stands =
        let x = one no_lines stands.0 stands.1 in
        let t = x.3 in
        let same = completed_same m.core.image stands.0 t.state x.0.object t.goes in
        turned_far new t.state t.stands (still_between stands.0 t.state same.0 (ap (λ r. r.ended) same.1) t.between)

    pub completed_stands : Stands m → Stands new
    completed_stands stands = let t = (one no_lines stands.0 stands.1).3 in (t.state, t.stands)

  pub fewer_then : (old m new : HostedMachine X B) → (m ≡ old) ⊎ (timers m.core < timers old.core) → timers new.core < timers m.core → timers new.core < timers old.core
  fewer_then old m new x fewer = grind arith

  -- no more of them run
  pub no_more_then : (old m new : HostedMachine X B) → (m ≡ old) ⊎ (timers m.core < timers old.core) → new ≡ m → timers new.core ≤ timers old.core
  no_more_then old m new x is = grind arith

  -- where none is due nothing changes
  pub none_still : (m new : HostedMachine X B) → new ≡ m → NoneIsDue m → NoneIsDue new
  none_still m new is none = subst NoneIsDue (sym is) none

  -- what was due was completed
  pub was_due : (old m : HostedMachine X B) → (m ≡ old) ⊎ (timers m.core < timers old.core) → NoneIsDue m → IsDue old → timers m.core < timers old.core
  was_due old m x none due = grind arith

  -- what no place tells is as it was
  pub rest_after : (old new : HostedMachine X B) → CompletesDue old new → Stands old → new.core.parts.rest ≡ old.core.parts.rest
  rest_after old new completed stands = grind (arith, nat_tests)

  -- ---- what is polled

  pub polled_so : (m new : HostedMachine X B) (may : ℕ → Option (ℕ × ℤ) → Type 0) (b : Bool) → b ≡ true → Polled may m b new → Polled may m true new
  polled_so m new may b is polled = subst (λ x. Polled may m x new) is polled

  -- there is none to poll any more
  pub all_polled : (m new : HostedMachine X B) (may : ℕ → Option (ℕ × ℤ) → Type 0) (b : Bool) → b ≡ false → Polled may m b new → (new ≡ m) × AllPolled new
  all_polled m new may b is polled = grind (arith, nat_tests)

  pub still_rest : (old m new : HostedMachine X B) → m.core.parts.rest ≡ record old.core.parts.rest { polled = m.core.parts.rest.polled } →
      new.core.parts.rest ≡ record m.core.parts.rest { polled = new.core.parts.rest.polled } →
      new.core.parts.rest ≡ record old.core.parts.rest { polled = new.core.parts.rest.polled }
  still_rest old m new was is = is ∙ ap (λ (r : Counters). record r { polled = new.core.parts.rest.polled }) was

  module _ (m new : HostedMachine X B) (may : ℕ → Option (ℕ × ℤ) → Type 0) (polled : Polled may m true new) where
    pub polled_far : Stands m → progress new.core ≡ Turned
    polled_far stands =
        let x = polled stands.0 stands.1 in
        let t = x.7 no_lines in
        let same = polled_same m.core.image stands.0 t.state x.0 x.2 t.goes in
        turned_far new t.state t.stands (still_between stands.0 t.state same.0 (ap (λ r. r.ended) same.1) t.between)

    pub polled_stands : Stands m → Stands new
    polled_stands stands = let t = (polled stands.0 stands.1).7 no_lines in (t.state, t.stands)

  -- ---- what has come

  module _ (events : List TimedEvent) where
    -- an event that has come is one of those to come
    pub come_within : (m : HostedMachine X B) → HasCome events m → m.core.parts.rest.delivered < length events
    come_within m come = event_there events m.core.parts.rest.delivered come.0 come.1

    -- what the machine tells of events is so of each state that it stands for
    pub none_now : (refused : List ℕ) (limit : ℕ) (m : HostedMachine X B) → NoneHasCome events m → (s : State) → RefinesWithNatives m s →
        NoneCome (observing refused limit (natives_of m) events) s
    none_now refused limit m none s stands e is = grind (arith, nat_tests)

    pub none_settles : (m : HostedMachine X B) → Settles events m m
    none_settles m s stands = (s, λ refused limit below. begins, refl, omega arith, stands)

    pub completed_settles : (old new : HostedMachine X B) → CompletesDue old new → Settles events old new
    completed_settles old new completed s stands = grind (arith, nat_tests)

    -- a poll delivers nothing, and takes no time
    pub kept_come : (old m : HostedMachine X B) → m.core.parts.rest ≡ record old.core.parts.rest { polled = m.core.parts.rest.polled } →
        NoneHasCome events old → NoneHasCome events m
    kept_come old m rest none e is = grind (arith, nat_tests)

    -- one after the other
    module _ (old m : HostedMachine X B) (image : m.core.image ≡ old.core.image) (natives : natives_of m ≡ natives_of old) (first : Settles events old m) where
      further : (s w u : State) (lines : List Line) → w.rest.dispatches ≡ s.rest.dispatches
          → ((refused : List ℕ) (limit : ℕ) → s.rest.dispatches < limit → Reaches old.core.image (observing refused limit (natives_of old) events) s [] w)
          → ((refused : List ℕ) (limit : ℕ) → w.rest.dispatches < limit → Reaches m.core.image (observing refused limit (natives_of m) events) w lines u)
          → (refused : List ℕ) (limit : ℕ) → s.rest.dispatches < limit → Reaches old.core.image (observing refused limit (natives_of old) events) s lines u
      further s w u lines same so_far then refused limit below =
          let still : w.rest.dispatches < limit = subst (λ n. n < limit) (sym same) below in
          reaches_both old.core.image (observing refused limit (natives_of old) events) s [] w lines u (so_far refused limit below) (grind (arith, nat_tests))

      pub settles_both : (new : HostedMachine X B) → Settles events m new → Settles events old new
      settles_both new then s stands =
          let w = first s stands in
          let x = then w.0 w.4 in
          let before = w.3 in
          let later = x.3 in
          (x.0, further s w.0 x.0 [] w.2 w.1 x.1, x.2 ∙ w.2, omega (arith, before, later), x.4)

      pub reports_after : (reported now : LineBuffer) (new : HostedMachine X B) → ReportsEnd events m reported now new → ReportsEnd events old reported now new
      reports_after reported now new then s stands =
          let w = first s stands in
          let x = then w.0 w.4 in
          let before = w.3 in
          let fewer = x.6.1 in
          (x.0, x.1, further s w.0 x.1 x.0 w.2 w.1 x.2, x.3, x.4, x.5 ∙ w.2, (x.6.0, omega (arith, before, fewer)), x.7)

    pub stands_settled : (old new : HostedMachine X B) → Settles events old new → Stands old → Stands new
    stands_settled old new settled stands = let x = settled stands.0 stands.1 in (x.0, x.4)

    -- an event is delivered
    module _ (m new : HostedMachine X B) (reported now : LineBuffer) (none : NoneIsDue m) (come : HasCome events m) (takes : Delivered m come.0.event reported now new)
        (rest : new.core.parts.rest ≡ record m.core.parts.rest { delivered = suc m.core.parts.rest.delivered }) where
      -- with the name for what is sent
      name : (s : State) → RefinesWithNatives m s → ℕ
      name s stands = (takes (observing [] 0 (natives_of m) events) refl s stands).0

      free : (s : State) (stands : RefinesWithNatives m s) → named s.cells (name s stands) ≡ None
      unfolding name
      free s stands = (takes (observing [] 0 (natives_of m) events) refl s stands).1

      part : (s : State) → RefinesWithNatives m s → Turning
      part s stands = delivers (observing [] 0 (natives_of m) events) (name s stands) s come.0.event

      taken : (s : State) (stands : RefinesWithNatives m s) → Takes m s (part s stands) reported now new
      unfolding part name
      taken s stands = (takes (observing [] 0 (natives_of m) events) refl s stands).2

      same_after : (s : State) (stands : RefinesWithNatives m s) →
          ((taken s stands).state.tasks ≡ s.tasks) × ((taken s stands).state.rest ≡ record s.rest { delivered = suc s.rest.delivered })
      unfolding part
      same_after s stands = grind arith

      far_after : (s : State) (stands : RefinesWithNatives m s) → IsBetween (taken s stands).state
      far_after s stands = let same = same_after s stands in still_between s (taken s stands).state same.0 (ap (λ r. r.ended) same.1) (taken s stands).between

      on : (s : State) (stands : RefinesWithNatives m s) (refused : List ℕ) (limit : ℕ) → s.rest.dispatches < limit →
          Reaches m.core.image (observing refused limit (natives_of m) events) s (written_by m.core.image s (part s stands)) (taken s stands).state
      unfolding part
      on s stands refused limit below =
          let outside = observing refused limit (natives_of m) events in
          let is = subst (λ r. event_at events r.delivered ≡ Some come.0) stands.stands.agrees.rest come.1 in
          let at = subst (λ r. come.0.time ≤ r.clock) stands.stands.agrees.rest come.2 in
          let next = delivers_so outside s below (none s stands.stands) come.0 is at in
          let same = delivers_alike outside (observing [] 0 (natives_of m) events) refl (name s stands) s come.0.event in
          let goes = ap (turned m.core.image s) same ∙ (taken s stands).goes in
          subst (λ x. Reaches m.core.image outside s (written_by m.core.image s x) (taken s stands).state) same (delivers_by m.core.image outside s [] s
          (taken s stands).state come.0.event (name s stands) begins (taken s stands).between next (free s stands) goes)

      within : m.core.parts.rest.delivered < length events
      within = come_within m come

      -- it writes nothing
      pub observed_settles : now ≡ reported → Settles events m new
      observed_settles quiet s stands =
          let t = taken s stands in
          let same = same_after s stands in
          let none : written_by m.core.image s (part s stands) ≡ [] = append_cancel_left reported.lines (written_by m.core.image s (part s stands)) []
          (sym (ap (λ (x : LineBuffer). x.lines) t.lines) ∙ ap (λ (x : LineBuffer). x.lines) quiet ∙ sym (append-nil _)) in
          let one = ap (λ r. r.delivered) same.1 in (
            t.state,
            grind (arith, nat_tests, on s stands),
            ap (λ r. r.dispatches) same.1,
            omega (arith, one),
            t.stands,
          )

      -- it writes a line
      pub observed_reports : ReportsEnd events m reported now new
      unfolding part
      observed_reports s stands = grind (
        arith,
        nat_tests,
        taken s stands,
        same_after s stands,
        within,
        part s stands,
        on s stands,
        delivers_well m.core.image,
        name s stands,
        far_after s stands,
      )

      pub observed_far : Stands m → progress new.core ≡ Turned
      observed_far stands = turned_far new (taken stands.0 stands.1).state (taken stands.0 stands.1).stands (far_after stands.0 stands.1)

      pub observed_stands : Stands m → Stands new
      observed_stands stands = ((taken stands.0 stands.1).state, (taken stands.0 stands.1).stands)

      pub observed_fewer : to_come events new < to_come events m
      observed_fewer = grind (arith, nat_tests, within)

    -- a native is polled
    module _ (m new : HostedMachine X B) (may : ℕ → Option (ℕ × ℤ) → Type 0) (none : NoneIsDue m) (none_come : NoneHasCome events m) (polled : Polled may m true new) where
      pub polled_settles : Settles events m new
      polled_settles s stands =
          let x = polled s stands in
          let t = x.7 no_lines in
          let same = polled_same m.core.image s t.state x.0 x.2 t.goes in
          let late = ap (λ r. r.delivered) same.1 in
          let still : (refused : List ℕ) (limit : ℕ) → s.rest.dispatches < limit →
          Reaches m.core.image (observing refused limit (natives_of m) events) s [] t.state = λ refused limit below.
          let outside = observing refused limit (natives_of m) events in
          polls_by m.core.image outside s s t.state x.0 x.2 begins t.between
          (λ observed. polls_so outside s below (none s stands.stands) (none_now refused limit m none_come s stands) observed x.0 x.3) x.6 t.goes in
          (t.state, still, ap (λ r. r.dispatches) same.1, omega (arith, late), t.stands)

    pub less_to_come : (old m new : HostedMachine X B) → (m ≡ old) ⊎ (to_come events m < to_come events old) → to_come events new < to_come events m →
        to_come events new < to_come events old
    less_to_come old m new x fewer = grind arith

    pub at_most_to_come : (old m : HostedMachine X B) → (m ≡ old) ⊎ (to_come events m < to_come events old) → to_come events m ≤ to_come events old
    at_most_to_come old m x = grind arith

    -- what had come was heard
    pub had_come : (old m : HostedMachine X B) → (m ≡ old) ⊎ (to_come events m < to_come events old) → NoneHasCome events m → HasCome events old →
        to_come events m < to_come events old
    had_come old m x none come = grind arith

    -- after both less is waited for
    pub late_falls : (old m new : HostedMachine X B) → m.core.parts.rest ≡ old.core.parts.rest → timers m.core ≤ timers old.core →
        (IsDue old → timers m.core < timers old.core) → timers new.core ≡ timers m.core → to_come events new ≤ to_come events m →
        (HasCome events m → to_come events new < to_come events m) → IsLate events old → waiting events new < waiting events old
    late_falls old m new rest most due_falls same most_events come_falls x = grind arith
