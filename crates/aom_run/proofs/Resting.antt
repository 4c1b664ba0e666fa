-- The machine rests between dispatches, with all that is due by now settled: an object is dispatched, or time passes, or the run ends.
use Rattle.std.proofs.lemmas.Bool.Decides.{nat_tests}
use Rattle.std.proofs.Common.{◌≡◌, ◌⊎◌, inl, inr, ◌<◌, ◌≤◌, ◌-◌, ℕ, min, Bool, true, false, cond, List, [], ◌∷◌, ◌++◌, Option, Some, None, length, ap, arith}
use Rattle.std.proofs.Common.{refl, subst, sym, ◌∙◌}
use Rattle.std.proofs.lemmas.Bool.{cases_lt}
use Rattle.aom_machine_state.specs.declared.progress.Progress.TheVariants.{Turned}
use Rattle.aom_machine.specs.Steps.{progress}
use Rattle.aom_image.specs.declared.method.Thing.{Thing}
use Rattle.aom_image.specs.declared.method.Thing.TheVariants.{Message, Object as An_object_of}
use Rattle.aom_machine_state.specs.LineBuffer.{LineBuffer}
use Rattle.aom_run.specs.Calls.{NoneIsDue, Picked, Stands, RefinesWithNatives, Takes, TakesAll, natives_of}
use Rattle.aom_run.specs.declared.machine.HostedMachine.{HostedMachine}
use Rattle.aom_run.proofs.SafetyLemmas.{dispatches_are_counted, goes_same}
use Rattle.aom_semantics.specs.Lines.{serve_line}
use Rattle.aom_semantics.specs.Places.{Asked, Object, service_of}
use Rattle.aom_semantics.specs.Servers.{is_server}
use Rattle.aom_semantics.specs.State.{Goes, State}
use Rattle.aom_semantics.specs.World.{AnswersWell, Cuts, IsBetween, Environment, Passes, Picks, Reaches, Timed, Turning, Waits, begins, due_of, event_at}
use Rattle.aom_semantics.specs.World.{first_due, first_living, has_signal, Observed, nearer, next_event, next_native, next_time, nothing_observed, pick_line}
use Rattle.aom_semantics.specs.World.{run_line, time_of, turned, turning, written_by}
use Rattle.aom_transcript.specs.declared.line.Ending.TheVariants.{Limit, Waiting}
use Rattle.aom_transcript.specs.declared.event.TimedEvent.{TimedEvent}
use Rattle.aom_run.proofs.DeterminismLemmas.{picked_pays}
use Rattle.aom_run.proofs.Between.{none_now, settles_both, stands_settled, reports_after, turned_far}
use Rattle.aom_run.proofs.Parts.{no_lines, still_between, turns_by}
use Rattle.aom_run.proofs.Turnings.{NoneCome, cuts_so, passes_so, picks_so, waits_so}
use Rattle.aom_run.specs.Turns.{AllPolled, IsLate, NoneHasCome, Settles, TakesTurns, ReportsEnd, observing, to_come}

-- the nearer of two times is one of them
nearer_is : (a b : Option ℕ) (time : ℕ) → nearer a b ≡ Some time → ((x : ℕ) × (a ≡ Some x) × (x ≤ time)) ⊎ ((x : ℕ) × (b ≡ Some x) × (x ≤ time))
nearer_is (Some a) (Some b) time e = let same : min a b ≡ time = cc in go (cases_lt a b) same
  where
    go : (a < b) ⊎ (b ≤ a) → min a b ≡ time → ((x : ℕ) × (Some a ≡ Some x) × (x ≤ time)) ⊎ ((x : ℕ) × (Some b ≡ Some x) × (x ≤ time))
    go (inl less) same = inl (a, refl, omega (arith, less, same))
    go (inr most) same = inr (b, refl, omega (arith, most, same))
nearer_is x y time e = grind arith

-- what has that time is there
timed_is : {A : Type 0} (of : Option A → Option ℕ) (time : A → ℕ) →
    of None ≡ None → ((a : A) → of (Some a) ≡ Some (time a)) → (o : Option A) (x : ℕ) → of o ≡ Some x → (a : A) × (o ≡ Some a) × (time a ≡ x)
timed_is of time none some y x e = grind arith

due_is : (o : Option Timed) (x : ℕ) → due_of o ≡ Some x → (t : Timed) × (o ≡ Some t) × (t.timer.due ≡ x)
due_is = timed_is due_of (λ t. t.timer.due) refl (λ t. refl)

time_is : (o : Option TimedEvent) (x : ℕ) → time_of o ≡ Some x → (e : TimedEvent) × (o ≡ Some e) × (e.time ≡ x)
time_is = timed_is time_of (λ e. e.time) refl (λ e. refl)

module _ {X : Type 0} {B : X → Type 0} where
  -- ---- turns that dispatch nothing

  -- there may be more dispatches
  abbrev pub Below : HostedMachine X B → ℕ → Type 0
  Below m limit = m.core.parts.rest.dispatches < limit

  below_so : (m : HostedMachine X B) (limit : ℕ) (s : State) → RefinesWithNatives m s → Below m limit → s.rest.dispatches < limit
  below_so m limit s stands below = subst (λ r. r.dispatches < limit) stands.stands.agrees.rest below

  -- an event is told by a line
  pub ends_reported : (old new : HostedMachine X B) (events : List TimedEvent) (refused : List ℕ) (limit : ℕ) (reported now : LineBuffer) →
      Below old limit → ReportsEnd events old reported now new → TakesTurns old (observing refused limit (natives_of old) events) None reported now new
  ends_reported old new events refused limit reported now below reports s stands = grind (arith, nat_tests, below_so old limit s stands below)

  -- the machine is between dispatches, there may be more of them, nothing is due, nothing has come, and all natives are polled
  pub record Rests (old : HostedMachine X B) (events : List TimedEvent) (limit : ℕ) (m : HostedMachine X B) : Type 0 where
    pub below : Below old limit
    pub far : Settles events old m
    pub stands : Stands m
    pub between : progress m.core ≡ Turned
    pub none_due : NoneIsDue m
    pub none_come : NoneHasCome events m
    pub polled : AllPolled m
    pub image : m.core.image ≡ old.core.image
    pub natives : natives_of m ≡ natives_of old

  -- where nothing signals nothing changes
  pub none_picked : {events : List TimedEvent} {limit : ℕ} (old m new : HostedMachine X B) (reported now : LineBuffer) (result : Bool) → Rests old events limit m → result ≡ false → Picked m result reported now new
      → Rests old events limit new × (now ≡ reported) × ((s : State) → RefinesWithNatives new s → has_signal s.cells ≡ false) × (new ≡ m)
  none_picked {events} {limit} old m new reported now result rests none picked =
      let it = subst (λ b. Picked m b reported now new) none picked in
      (subst (λ x. Rests old events limit x) (sym it.0) rests, it.1, λ s stands. it.2 s (subst (λ x. RefinesWithNatives x s) it.0 stands), it.0)

  module _ (old m : HostedMachine X B) (events : List TimedEvent) (refused : List ℕ) (limit : ℕ) (rests : Rests old events limit m) where
    abbrev outside : Environment
    outside = observing refused limit (natives_of old) events

    still_below : (s : State) (stands : RefinesWithNatives old s) → (rests.far s stands).0.rest.dispatches < limit
    still_below s stands = subst (λ n. n < limit) (sym (rests.far s stands).2) (below_so old limit s stands rests.below)

    early : (s : State) → RefinesWithNatives m s → NoneCome outside s
    early s stands = none_now events refused limit m rests.none_come s stands

    all_polled : (s : State) → RefinesWithNatives m s → next_native outside s ≡ None
    all_polled s stands = ap (λ n. first_living s.killed (n - s.rest.polled) s.rest.polled) (sym rests.natives) ∙ rests.polled s stands

    -- a part of a turn
    one_part : (s : State) (stands : RefinesWithNatives old s) (x : Turning) (u : State) → ((observed : Observed) → turning outside observed (rests.far s stands).0 ≡ x) →
        AnswersWell old.core.image (rests.far s stands).0 x → IsBetween (rests.far s stands).0
        → turned m.core.image (rests.far s stands).0 x ≡ Goes u → Reaches old.core.image outside s (written_by old.core.image (rests.far s stands).0 x) u
    one_part s stands x u is owed between goes =
        let w = rests.far s stands in
        turns_by old.core.image outside s [] w.0 u x (w.1 refused limit (below_so old limit s stands rests.below)) between is owed
        (subst (λ q. turned q w.0 x ≡ Goes u) rests.image goes)

    one_run : (o : Object) (s : State) → length (run_line s o) ≤ 1
    one_run o s = grind (arith, nat_tests)

    one_serve : (time : ℕ) (t : Thing) (es : List Asked) → length (serve_line time t es) ≤ 1
    one_serve time (An_object_of class) [] = omega arith
    one_serve time (An_object_of class) (e ∷ es) = omega arith
    one_serve time Message es = omega arith

    one_line : (o : Object) (s : State) → length (pick_line old.core.image s o) ≤ 1
    one_line o s = go (is_server old.core.image o.thing)
      where
        go : (b : Bool) → length (cond b (serve_line s.rest.clock o.thing (service_of s.cells o.name).queue) (run_line s o)) ≤ 1
        go x = grind (arith, nat_tests, one_serve, one_run)

    -- an object is dispatched, or a server
    pub dispatches_one : (reported now : LineBuffer) (new : HostedMachine X B) → Picked m true reported now new → TakesTurns old outside None reported now new
    dispatches_one reported now new picked s stands =
        let w = rests.far s stands in
        let x = picked w.0 w.4 in
        let t = x.3 in
        let is = picks_so outside w.0 (still_below s stands) (rests.none_due w.0 w.4.stands) (early w.0 w.4) (all_polled w.0 w.4) x.0 x.2 x.1 in
        let same = dispatches_are_counted.turns m.core.image outside nothing_observed w.0 t.state (ap (turned m.core.image w.0) (is nothing_observed) ∙ t.goes) in (
          pick_line old.core.image w.0 x.0.owned_object.object,
          t.state,
          one_part s stands (Picks x.0.owned_object) t.state is tt t.between t.goes,
          t.lines ∙ ap (λ q. record reported { lines = reported.lines ++ pick_line q w.0 x.0.owned_object.object }) rests.image,
          (one_line x.0.owned_object.object w.0, below_so old limit s stands rests.below, same ∙ w.2, inl (picked_pays m.core.image w.0 t.state x.0.owned_object t.goes)),
          t.stands,
        )

    module _ (quiet : (s : State) → RefinesWithNatives m s → has_signal s.cells ≡ false) (next : Option ℕ)
        (reported_so : (s : State) → RefinesWithNatives m s → next ≡ next_time outside s) where
      -- nothing comes any more, and the run is over
      pub waits_on : next ≡ None → (reported : LineBuffer) (new : HostedMachine X B) → TakesAll m Waits new → TakesTurns old outside (Some Waiting) reported reported new
      waits_on e reported new takes s stands =
          let w = rests.far s stands in
          let t = takes reported w.0 w.4 in
          let is = waits_so outside w.0 (still_below s stands) (rests.none_due w.0 w.4.stands) (early w.0 w.4) (all_polled w.0 w.4) (quiet w.0 w.4)
          (sym (reported_so w.0 w.4) ∙ e) in
          ([], t.state, one_part s stands Waits t.state is tt t.between t.goes, t.lines, (refl, ap (λ (v : State). v.rest.ended) (sym (goes_same _ t.state t.goes))), t.stands)

      -- time passes
      module _ (time : ℕ) (e : next ≡ Some time) (passed : HostedMachine X B) (again : passed.core.image ≡ m.core.image) (takes : TakesAll m (Passes time) passed) where
        at_time : (s : State) (stands : RefinesWithNatives m s) → Takes m s (Passes time) no_lines no_lines passed
        at_time s stands = takes no_lines s stands

        pub passes_on : Settles events old passed
        passes_on s stands =
            let w = rests.far s stands in
            let t = at_time w.0 w.4 in
            let on : (refused : List ℕ) (limit : ℕ) → s.rest.dispatches < limit →
            Reaches old.core.image (observing refused limit (natives_of old) events) s [] t.state = λ others most below.
            let still : w.0.rest.dispatches < most = subst (λ n. n < most) (sym w.2) below in
            let is = passes_so (observing others most (natives_of old) events) w.0 still
            (rests.none_due w.0 w.4.stands) (early w.0 w.4) (all_polled w.0 w.4) (quiet w.0 w.4) time (sym (reported_so w.0 w.4) ∙ e) in
            turns_by old.core.image (observing others most (natives_of old) events) s [] w.0 t.state
            (Passes time) (w.1 others most below) t.between is tt (subst (λ q. turned q w.0 (Passes time) ≡ Goes t.state) rests.image t.goes) in
            let same = sym (goes_same _ t.state t.goes) in
            let before = w.3 in
            let kept = ap (λ (v : State). v.rest.delivered) same in
            (t.state, on, ap (λ (v : State). v.rest.dispatches) same ∙ w.2, omega (arith, before, kept), t.stands)

        pub passed_stands : Stands passed
        passed_stands = let t = at_time rests.stands.0 rests.stands.1 in (t.state, t.stands)

        pub passed_far : progress passed.core ≡ Turned
        passed_far = grind (arith, nat_tests, at_time rests.stands.0 rests.stands.1, goes_same, turned_far passed, still_between rests.stands.0)

        -- no event is delivered by that
        pub passed_to_come : to_come events passed ≡ to_come events m
        passed_to_come = grind (arith, nat_tests, at_time rests.stands.0 rests.stands.1, goes_same)

        -- what it passes to has come then
        pub passed_late : IsLate events passed
        passed_late = go (nearer_is (due_of (first_due s.cells)) (time_of (next_event outside s)) time (sym (reported_so s rests.stands.1) ∙ e))
          where
            s : State
            s = rests.stands.0

            t : Takes m s (Passes time) no_lines no_lines passed
            t = at_time s rests.stands.1

            same : t.state ≡ record s { rest = record s.rest { clock = time; polled = 0 } }
            same = sym (goes_same _ t.state t.goes)

            rest : passed.core.parts.rest ≡ record s.rest { clock = time; polled = 0 }
            rest = t.stands.stands.agrees.rest ∙ ap (λ (v : State). v.rest) same

            go : ((x : ℕ) × (due_of (first_due s.cells) ≡ Some x) × (x ≤ time))
                ⊎ ((x : ℕ) × (time_of (next_event outside s) ≡ Some x) × (x ≤ time)) → IsLate events passed
            go (inl due) =
                let x = due_is (first_due s.cells) due.0 due.1 in
                let at = x.2 in
                let by = due.2 in
                let clock = ap (λ (v : State). v.rest.clock) same in
                inl (t.state, t.stands, (x.0, ap (λ (v : State). first_due v.cells) same ∙ x.1, omega (arith, at, by, clock)))
            go (inr come) =
                let x = time_is (next_event outside s) come.0 come.1 in
                let at = x.2 in
                let by = come.2 in
                let clock = ap (λ r. r.clock) rest in
                inr (x.0, ap (λ r. event_at events r.delivered) rest ∙ x.1, omega (arith, at, by, clock))

        module _ (all : natives_of passed ≡ natives_of m) (new : HostedMachine X B) where
          -- an event is told by a line then
          pub reports_on : (reported now : LineBuffer) → ReportsEnd events passed reported now new → TakesTurns old outside None reported now new
          reports_on reported now reports = ends_reported old new events refused limit reported now rests.below
              (reports_after events old passed (again ∙ rests.image) (all ∙ rests.natives) passes_on reported now new reports)

          -- or all that is due then is settled
          pub rests_on : Settles events passed new → progress new.core ≡ Turned → NoneIsDue new →
              NoneHasCome events new → AllPolled new → new.core.image ≡ passed.core.image → natives_of new ≡ natives_of passed → Rests old events limit new
          rests_on settled between none_due none_come polled same count = record {
            below = rests.below;
            far = settles_both events old passed (again ∙ rests.image) (all ∙ rests.natives) passes_on new settled;
            stands = stands_settled events passed new settled passed_stands;
            between = between;
            none_due = none_due;
            none_come = none_come;
            polled = polled;
            image = same ∙ again ∙ rests.image;
            natives = count ∙ all ∙ rests.natives;
          }

      -- time does not go back
      pub no_earlier : (time : ℕ) → next ≡ Some time → m.core.parts.rest.clock ≤ time
      no_earlier time e = go (nearest (due_of (first_due s.cells)) (time_of (next_event outside s)) time (sym (reported_so s rests.stands.1) ∙ e))
        where
          s : State
          s = rests.stands.0

          clock : m.core.parts.rest.clock ≡ s.rest.clock
          clock = ap (λ r. r.clock) rests.stands.1.stands.agrees.rest

          nearest : (a b : Option ℕ) (time : ℕ) → nearer a b ≡ Some time → (a ≡ Some time) ⊎ (b ≡ Some time)
          nearest x b y z = grind (arith, nat_tests, cases_lt)

          go : (due_of (first_due s.cells) ≡ Some time) ⊎ (time_of (next_event outside s) ≡ Some time) → m.core.parts.rest.clock ≤ time
          go (inl due) =
              let x = due_is (first_due s.cells) time due in
              let early = rests.none_due s rests.stands.1.stands x.0 x.1 in
              let at = x.2 in
              omega (arith, early, at, clock)
          go (inr come) =
              let x = time_is (next_event outside s) time come in
              let early = early s rests.stands.1 x.0 x.1 in
              let at = x.2 in
              omega (arith, early, at, clock)

  -- ---- the limit

  pub limit_cuts : (old : HostedMachine X B) (outside : Environment) → outside.limit ≤ old.core.parts.rest.dispatches →
      (reported : LineBuffer) (new : HostedMachine X B) → TakesAll old Cuts new → TakesTurns old outside (Some Limit) reported reported new
  limit_cuts old outside at reported new takes s stands =
      let t = takes reported s stands in
      let is = cuts_so outside s (subst (λ r. outside.limit ≤ r.dispatches) stands.stands.agrees.rest at) in
      ([], t.state, turns_by old.core.image outside s [] s t.state Cuts begins t.between is tt t.goes, t.lines, (refl, ap (λ (v : State). v.rest.ended) (sym (goes_same _ t.state t.goes))), t.stands)
