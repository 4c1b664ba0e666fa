-- The machine's timers are those that run in each state that it stands for, in the order of time.
use Rattle.std.proofs.lemmas.Bool.Decides.{nat_tests}
use Rattle.std.proofs.Common.{◌≡◌, ◌∙◌, ℕ, Bool, true, false, List, [], ◌∷◌, Option, Some, None, IsSome, get_or, length, slice_get, take, refl, sym, ap}
use Rattle.std.proofs.Common.{suc, arith}
use Rattle.std.specs.List.{Contains}
use Rattle.std.specs.Prelude.{All, is_some, map, ◌==◌, if◌then◌else◌}
use Rattle.std.proofs.lemmas.Bool.{eqb-true, false≢true}
use Rattle.std.proofs.lemmas.List.Elements.{All-map}
use Rattle.aom_cells.specs.Heap.{class_at}
use Rattle.aom_image.specs.Image.{Image}
use Rattle.aom_scheduler.specs.Pending.{due_of}
use Rattle.aom_scheduler.specs.declared.timer.Timer.{Timer}
use Rattle.aom_active_objects.specs.Agrees.{IsSooner, due_in}
use Rattle.aom_semantics.specs.Places.{requested}
use Rattle.aom_semantics.specs.State.{State}
use Rattle.aom_machine_state.specs.declared.parts.Parts.{Parts}
use Rattle.aom_machine_state.specs.Stands.{MachineModel, Refines}
use Rattle.aom_transcript.specs.Sinks.{after}
use Rattle.aom_debug_protocol.specs.declared.fault.DebugFault.{DebugFault}
use Rattle.aom_debug_protocol.specs.declared.answer.Answer.TheVariants.{Timer as Timer_answer}
use Rattle.aom_debug_symbols.specs.NameLists.{NameLists}
use Rattle.aom_debug_views.specs.Reporting.{Reports, ReportsPart, gathered}
use Rattle.aom_debug_views.specs.Seeking.{Placed, placed_by}
use Rattle.aom_debug_views.specs.Timers.{InOrderOfTime, ReportsTimers, ReportsTimersPart, timer_answer, timer_of, timer_placed, timers_placed}
use Rattle.aom_debug_views.proofs.Enlisted.{pairs_by}
use Rattle.aom_debug_views.proofs.Showing.{class_named}
use Rattle.aom_debug_views.proofs.Reporting.{gathered_items}

-- ---- one timer

module _ (p : Image) (m : Parts) (s : State) (st : Refines (record { image = p; parts = m }) s) (n : ℕ) where
  no_timer : (due : Option ℕ) → None ≡ timer_of None due
  no_timer x = grind arith

  pub classless_reported : None ≡ class_at m.cells n → None ≡ timer_answer s.cells n
  classless_reported none = grind (arith, nat_tests, no_timer, class_named p m s st n)

  pub timer_reported : (class due : ℕ) → Some class ≡ class_at m.cells n → due_in (requested s.cells n) ≡ Some due →
      Some (Timer_answer class due) ≡ timer_answer s.cells n
  timer_reported class due reported is = grind (arith, nat_tests, class_named p m s st n)

-- ---- all timers

abbrev pub names_of : Parts → List ℕ
names_of m = map (λ t. t.id) m.active.pending.timers

-- whose timer is found is on the list
found : (n : ℕ) (ts : List Timer) → IsSome (due_of n ts) → Contains (map (λ t. t.id) ts) n
found n [] some = absurd (false≢true some)
found n (t ∷ ts) some = go (t.id == n) refl (λ later. found n ts later) some
  where
    go : (b : Bool) → (t.id == n) ≡ b → (IsSome (due_of n ts) → Contains (map (λ t. t.id) ts) n) → IsSome (if b then Some t.due else due_of n ts) →
        Contains (t.id ∷ map (λ t. t.id) ts) n
    go true is later some = (0, omega arith, eqb-true t.id n is)
    go false other later some = let there = later some in let within = there.1 in (suc there.0, omega (arith, within), there.2)

-- each has a due time, since it is sooner than another or is found
module _ (m : MachineModel) (each : All (λ t. due_of t.id m.parts.active.pending.timers ≡ Some t.due) m.parts.active.pending.timers) where
  -- they are the timers that run, in the order of time
  pub in_order : (s : State) → Refines m s → InOrderOfTime s.cells (names_of m.parts)
  in_order s st = record {
    runs = All-map (λ n. IsSome (due_in (requested s.cells n))) (λ t. t.id) m.parts.active.pending.timers
        (λ k d within. ap is_some (sym (st.agrees.requests.stands.due_times (get_or m.parts.active.pending.timers k d).id) ∙ each k d within));
    all = λ n some. found n m.parts.active.pending.timers (ap is_some (st.agrees.requests.stands.due_times n) ∙ some);
    order = pairs_by (λ n k. IsSooner (requested s.cells n) (requested s.cells k)) (λ t. t.id) m.parts.active.pending.timers st.agrees.requests.stands.sooner;
  }

  -- what is told of the first so many
  abbrev pub reported_to : NameLists → State → ℕ → List Placed
  reported_to ns s n = gathered (λ k. timer_placed ns s (slice_get (names_of m.parts) k)) n

  all_reported : (ns : NameLists) (s : State) → reported_to ns s (length (names_of m.parts)) ≡ timers_placed ns s (names_of m.parts)
  all_reported ns s = gathered_items (λ o. timer_placed ns s o) (names_of m.parts)

  pub timers_reported : (ns : NameLists) (before now : Option (List ℕ)) → Reports m (λ s. placed_by ns (reported_to ns s (length (names_of m.parts)))) before now →
      ReportsTimers ns m before now
  timers_reported ns before now all = record { order = in_order; out = λ s st. all.out s st ∙ ap (λ xs. after before (placed_by ns xs)) (all_reported ns s) }

  pub timers_cut : (ns : NameLists) (fault : DebugFault) (failed : Bool) (before now : Option (List ℕ)) →
      ReportsPart m (λ s. placed_by ns (reported_to ns s (length (names_of m.parts)))) fault failed before now → ReportsTimersPart ns m fault failed before now
  timers_cut ns fault failed before now cut = record {
    reported = cut.reported;
    fails = cut.fails;
    order = in_order;
    out = λ s st. let o = cut.out s st in (o.0, o.1 ∙ ap (λ xs. after before (take o.0 (placed_by ns xs))) (all_reported ns s));
  }
