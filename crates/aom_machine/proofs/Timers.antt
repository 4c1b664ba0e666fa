-- Timers stand in one order: what stands for requests with the same timers has the same list of them.
use Rattle.std.proofs.lemmas.Bool.Decides.{nat_tests}
use Rattle.std.proofs.Common.{ap, Bool, List, None, Option, Some, [], false, refl, subst, sym, true, ℕ, ◌==◌, ◌≡◌, ◌∙◌, ◌∷◌, ◌<◌, arith}
use Rattle.std.specs.Prelude.{get_or, option_map}
use Rattle.std.proofs.lemmas.Bool.{eqb-false, eqb-true, true≢false}
use Rattle.std.proofs.lemmas.Option.{none-some, same_Some}
use Rattle.aom_machine.proofs.ActiveObjectsLemmas.{Timely, first_timer, id_of, next_due_is, not_both, timely_kept, timely_without}
use Rattle.aom_active_objects.specs.Agrees.{Active, ComesSooner, RefinesRequests as Asks_for, queued, timer_in}
use Rattle.aom_active_objects.specs.Meanings.{asked_anew}
use Rattle.aom_machine.proofs.SchedulerLemmas.{AreDistinct, at_head, without-at}
use Rattle.aom_scheduler.specs.Pending as Held
use Rattle.aom_scheduler.specs.declared.timer.Timer.{Timer as Machine_timer}
use Rattle.aom_semantics.specs.Places.{Request, Timer}
use Rattle.aom_semantics.specs.State.{State}
use Rattle.aom_semantics.specs.World.{Timed, first_due}
use Rattle.aom_machine_state.specs.Stands.{MachineModel, Stands, Refines}
use Rattle.aom_machine.specs.Turns.{NoneDue}

-- ---- one list

-- none is sooner than itself
not_itself : (o : Option Timer) → ComesSooner o o → ⊥
not_itself x e = grind (arith, nat_tests, not_both)

distinct : (asked : ℕ → Option Request) (ts : List Machine_timer) → Timely asked ts → AreDistinct id_of ts
distinct asked ts t = λ i j d less within same. not_itself (timer_in (asked (get_or ts j d).id))
    (subst (λ n. ComesSooner (timer_in (asked n)) (timer_in (asked (get_or ts j d).id))) same (t.sooner i j d less within))

-- behind the first stand those of all others
behind : (asked : ℕ → Option Request) (t : Machine_timer) (ts : List Machine_timer) → Timely asked (t ∷ ts) → Timely (asked_anew t.id None asked) ts
behind asked t ts timely = subst (λ us. Timely (asked_anew t.id None asked) us)
    (sym (without-at id_of t.id (t ∷ ts) 0 (distinct asked (t ∷ ts) timely) (at_head t ts refl))) (timely_without asked t.id None (t ∷ ts) refl timely)

one_list : (asked : ℕ → Option Request) (ts us : List Machine_timer) → Timely asked ts → Timely asked us → ts ≡ us
one_list asked [] [] a b = refl
one_list asked [] (u ∷ us) a b = grind (arith, nat_tests, first_timer asked u us b)
one_list asked (t ∷ ts) [] a b = grind (arith, nat_tests, first_timer asked t ts a)
one_list asked (t ∷ ts) (u ∷ us) a b = go (t.id == u.id) refl (λ same. one_list
    (asked_anew t.id None asked) ts us (behind asked t ts a) (subst (λ n. Timely (asked_anew n None asked) us) (sym same) (behind asked u us b)))
  where
    go : (x : Bool) → (t.id == u.id) ≡ x → (t.id ≡ u.id → ts ≡ us) → t ∷ ts ≡ u ∷ us
    go true e rest =
        let f = first_timer asked t ts a in
        let g = first_timer asked u us b in
        let same = eqb-true t.id u.id e in
        let timer = same_Some f.timer g.timer (sym f.runs ∙ ap (λ n. timer_in (asked n)) same ∙ g.runs) in
        let due : t.due ≡ u.due = sym f.due_is ∙ ap (λ v. v.due) timer ∙ g.due_is in
        let front : t ≡ u = ap (λ n. record t { id = n }) same ∙ ap (λ n. record u { due = n }) due in
        ap (λ v. v ∷ ts) front ∙ ap (λ vs. u ∷ vs) (rest same)
    go false e rest =
        let f = first_timer asked t ts a in
        let g = first_timer asked u us b in
        let other = eqb-false t.id u.id e in
        absurd (true≢false (sym (g.first t.id f.timer other f.runs) ∙ not_both f.timer g.timer (f.first u.id g.timer (λ same. other (sym same)) g.runs)))

-- requests whose timers are the same
pub timers_same : (old new : Active) (asked other : ℕ → Option Request) (queues then : ℕ → Option Bool) →
    ((n : ℕ) → timer_in (asked n) ≡ timer_in (other n)) → Asks_for old asked queues → Asks_for new other then → new.pending.timers ≡ old.pending.timers
timers_same old new asked other queues then same a b = one_list other new.pending.timers old.pending.timers (record { due_times = b.due_times; sooner = b.sooner })
    (timely_kept asked other old.pending.timers same (record { due_times = a.due_times; sooner = a.sooner }))

-- ---- none is due

-- where none is due none is with the same timers at the same time
pub none_due_still : (old new : MachineModel) → Stands old → new.parts.active.pending.timers ≡ old.parts.active.pending.timers →
    new.parts.rest.clock ≡ old.parts.rest.clock → ((s : State) → Refines old s → NoneDue s) → (s : State) → Refines new s → NoneDue s
none_due_still old new stands same clock none s st x e = go (first_due first.cells) refl
  where
    first : State
    first = stands.0

    due : Some x.timer.due ≡ option_map (λ y. y.timer.due) (first_due first.cells)
    due = sym (next_due_is new.parts.active s.cells (queued new.image s.cells) st.typed.good.no_duplicates st.agrees.requests.stands
        ∙ ap (option_map (λ y. y.timer.due)) e) ∙ ap Held.first_due same
        ∙ next_due_is old.parts.active first.cells (queued old.image first.cells) stands.1.typed.good.no_duplicates stands.1.agrees.requests.stands

    go : (o : Option Timed) → first_due first.cells ≡ o → s.rest.clock < x.timer.due
    go None f = absurd (none-some _ (sym (due ∙ ap (option_map (λ y. y.timer.due)) f)))
    go (Some y) f =
        let later = none first stands.1 y f in
        let at = same_Some _ _ (due ∙ ap (option_map (λ y. y.timer.due)) f) in
        omega (arith, later, at, clock, ap (λ r. r.clock) st.agrees.rest, ap (λ r. r.clock) stands.1.agrees.rest)
