-- The timers: the first that is due is the one that the checked machine takes.
use Rattle.std.proofs.lemmas.Bool.Decides.{nat_tests}
use Rattle.std.proofs.Common.{◌≡◌, ◌≢◌, ◌<◌, ◌≤◌, ◌==◌, ℕ, Bool, true, false, cond, List, [], ◌∷◌, Option, Some, None, refl, sym, ap, ◌∙◌, subst, arith}
use Rattle.std.specs.Prelude.{is_some, option_map}
use Rattle.std.proofs.lemmas.Bool.{eqb-true, eqb-false}
use Rattle.aom_scheduler.specs.Pending as Held
use Rattle.aom_scheduler.specs.declared.timer.Timer.{Timer as Machine_timer}
use Rattle.aom_semantics.specs.Places.{Cell, Object, Request, NoDuplicates, Timer, named, requested}
use Rattle.aom_semantics.specs.World.{Timed, among_timers, first_due, is_sooner, sooner}
use Rattle.aom_active_objects.proofs.Cells.{asked_first, asked_lives, named_first, named_later, other_name}
use Rattle.aom_active_objects.proofs.Firsts.{first_timer}
use Rattle.aom_active_objects.proofs.Halves.{Timely}
use Rattle.aom_active_objects.specs.Agrees.{Active, RefinesRequests, due_in, timer_in}
use Rattle.aom_active_objects.specs.Meanings.{IsFirstDue, IsNextDue, NoneDue}

-- a request with a timer is among those that have one, and one with none is not
among_some : (o : Object) (q : Option Request) (t : Timer) (others : Option Timed) → timer_in q ≡ Some t →
    among_timers o q others ≡ Some (sooner (record { object = o; timer = t }) others)
among_some o q t others e = grind arith

among_none : (o : Object) (q : Option Request) (others : Option Timed) → timer_in q ≡ None → among_timers o q others ≡ others
among_none o x others e = grind arith

-- the timer under a name, in front and behind a cell
timer_first : (c : Cell) (cs : List Cell) → timer_in (requested (c ∷ cs) c.object.name) ≡ timer_in c.request
timer_first c cs = ap timer_in (asked_first c cs)

timer_lives : (cs : List Cell) (n : ℕ) (t : Timer) → timer_in (requested cs n) ≡ Some t → is_some (named cs n) ≡ true
timer_lives cs n t e = grind (arith, asked_lives cs n)

timer_later : (c : Cell) (cs : List Cell) (n : ℕ) (t : Timer) → NoDuplicates (c ∷ cs) → timer_in (requested cs n) ≡ Some t → timer_in (requested (c ∷ cs) n) ≡ Some t
timer_later c cs n t no_duplicates e = ap (λ b. timer_in (cond b c.request (requested cs n))) (other_name c cs n no_duplicates (timer_lives cs n t e)) ∙ e

-- what runs is the timer of a cell that is there
pub record Running (cs : List Cell) (x : Timed) : Type 0 where
  pub lives : named cs x.object.name ≡ Some x.object
  pub runs : timer_in (requested cs x.object.name) ≡ Some x.timer

abbrev first_running : Cell → Timer → Timed
first_running c t = record { object = c.object; timer = t }

pub running : (cs : List Cell) → NoDuplicates cs → (x : Timed) → first_due cs ≡ Some x → Running cs x
running [] no_duplicates x e = cc
running (c ∷ cs) no_duplicates x e = by_timer (timer_in c.request) refl (λ f. later (running cs no_duplicates.2 x f))
  where
    later : Running cs x → Running (c ∷ cs) x
    later r = record { lives = named_later c cs x.object.name x.object no_duplicates r.lives; runs = timer_later c cs x.object.name x.timer no_duplicates r.runs }

    here : (t : Timer) → timer_in c.request ≡ Some t → Running (c ∷ cs) (first_running c t)
    here t is = record { lives = named_first c cs; runs = timer_first c cs ∙ is }

    by_others : (t : Timer) → timer_in c.request ≡ Some t → (others : Option Timed) → Some (sooner (first_running c t) others) ≡ Some x →
        (others ≡ Some x → Running (c ∷ cs) x) → Running (c ∷ cs) x
    by_others t is None e rest = let same : first_running c t ≡ x = cc in subst (λ y. Running (c ∷ cs) y) same (here t is)
    by_others t is (Some b) e rest = go (is_sooner b.timer t) e
      where
        go : (s : Bool) → Some (cond s b (first_running c t)) ≡ Some x → Running (c ∷ cs) x
        go true e = rest e
        go false e = let same : first_running c t ≡ x = cc in subst (λ y. Running (c ∷ cs) y) same (here t is)

    by_timer : (o : Option Timer) → timer_in c.request ≡ o → (first_due cs ≡ Some x → Running (c ∷ cs) x) → Running (c ∷ cs) x
    by_timer None is rest = rest (sym (among_none c.object c.request (first_due cs) is) ∙ e)
    by_timer (Some t) is rest = by_others t is (first_due cs) (sym (among_some c.object c.request t (first_due cs) is) ∙ e) rest

-- of two timers one is not sooner than the other where that is sooner than it
pub not_both : (t u : Timer) → is_sooner t u ≡ true → is_sooner u t ≡ false
not_both t u e = grind (arith, nat_tests)

-- the timer of that name comes first
record IsSoonest (cs : List Cell) (id : ℕ) (t : Timer) : Type 0 where
  timed : Timed
  first : first_due cs ≡ Some timed
  name : timed.object.name ≡ id
  timer : timed.timer ≡ t

soonest : (cs : List Cell) (id : ℕ) (t : Timer) → NoDuplicates cs → timer_in (requested cs id) ≡ Some t →
    ((n : ℕ) (u : Timer) → n ≢ id → timer_in (requested cs n) ≡ Some u → is_sooner t u ≡ true) → IsSoonest cs id t
soonest [] id t no_duplicates runs first = cc
soonest (c ∷ cs) id t no_duplicates runs first =
    go (c.object.name == id) refl runs (λ here. soonest cs id t no_duplicates.2 here (λ n u other e. first n u other (timer_later c cs n u no_duplicates e)))
  where
    alone : (others : Option Timed) → first_due cs ≡ others → c.object.name ≡ id → sooner (first_running c t) others ≡ first_running c t
    alone None e same = refl
    alone (Some b) e same =
        let r = running cs no_duplicates.2 b e in
        let other = eqb-false c.object.name b.object.name (other_name c cs b.object.name no_duplicates (ap is_some r.lives)) in
        ap (λ s. cond s b (first_running c t)) (not_both t b.timer
        (first b.object.name b.timer (λ equal. other (same ∙ sym equal)) (timer_later c cs b.object.name b.timer no_duplicates r.runs)))

    in_front : c.object.name ≡ id → timer_in c.request ≡ Some t → IsSoonest (c ∷ cs) id t
    in_front same here = record {
      timed = first_running c t;
      first = among_some c.object c.request t (first_due cs) here ∙ ap Some (alone (first_due cs) refl same);
      name = same;
      timer = refl;
    }

    behind : (c.object.name == id) ≡ false → IsSoonest cs id t → IsSoonest (c ∷ cs) id t
    behind other w = record {
      timed = w.timed;
      first = ap (λ o. among_timers c.object c.request o) w.first ∙ by_timer (timer_in c.request) refl;
      name = w.name;
      timer = w.timer;
    }
      where
        by_timer : (o : Option Timer) → timer_in c.request ≡ o → among_timers c.object c.request (Some w.timed) ≡ Some w.timed
        by_timer None is = among_none c.object c.request (Some w.timed) is
        by_timer (Some u) is = among_some c.object c.request u (Some w.timed) is ∙ ap (λ s. Some (cond s w.timed (first_running c u)))
            (ap (λ v. is_sooner v u) w.timer ∙ first c.object.name u (eqb-false c.object.name id other) (timer_first c cs ∙ is))

    go : (b : Bool) → (c.object.name == id) ≡ b → timer_in (cond b c.request (requested cs id)) ≡ Some t →
        (timer_in (requested cs id) ≡ Some t → IsSoonest cs id t) → IsSoonest (c ∷ cs) id t
    go x same here rest = grind (arith, nat_tests, in_front, eqb-true, behind)

-- the first timer that is due is the one that the checked machine takes
pub due_first : (cs : List Cell) (now id : ℕ) → NoDuplicates cs →
    IsFirstDue now id (requested cs) → (x : Timed) × (first_due cs ≡ Some x) × (x.object.name ≡ id) × (named cs id ≡ Some x.object) × (x.timer.due ≤ now)
due_first cs now id no_duplicates f = grind (arith, soonest cs id f.timer no_duplicates f.runs f.first, running cs no_duplicates)

-- and where none is due, none that it takes is
pub none_due : (cs : List Cell) (now : ℕ) → NoDuplicates cs → NoneDue now (requested cs) → (x : Timed) → first_due cs ≡ Some x → now < x.timer.due
none_due cs now no_duplicates none x e = let r = running cs no_duplicates x e in none x.object.name x.timer r.runs

-- so the first due time is the one that it passes to
pub next_due_is : (a : Active) (cs : List Cell) (queues : ℕ → Option Bool) →
    NoDuplicates cs → RefinesRequests a (requested cs) queues → Held.first_due a.pending.timers ≡ option_map (λ x. x.timer.due) (first_due cs)
next_due_is a cs queues no_duplicates s = by_timers a.pending.timers (record { due_times = s.due_times; sooner = s.sooner })
  where
    no_timer : (o : Option Timed) → first_due cs ≡ o → ((n : ℕ) → None ≡ due_in (requested cs n)) → ◌≡◌ {A = Option ℕ} None (option_map (λ x. x.timer.due) o)
    no_timer None e none = refl
    no_timer (Some x) e none = grind (arith, nat_tests, running cs no_duplicates x e)

    by_timers : (ts : List Machine_timer) → Timely (requested cs) ts → Held.first_due ts ≡ option_map (λ x. x.timer.due) (first_due cs)
    by_timers [] t = no_timer (first_due cs) refl t.due_times
    by_timers (u ∷ us) t =
        let f = first_timer (requested cs) u us t in
        let w = soonest cs u.id f.timer no_duplicates f.runs f.first in
        sym (ap (option_map (λ x. x.timer.due)) w.first ∙ ap (λ t. Some t.due) w.timer ∙ ap Some f.due_is)

pub next_due_from : {old : Active} (a : Active) → a ≡ old → (result : Option ℕ) → result ≡ Held.first_due a.pending.timers → IsNextDue old result
next_due_from a same result is = λ cs queues no_duplicates s. is ∙ next_due_is a cs queues no_duplicates (subst (λ x. RefinesRequests x (requested cs) queues) (sym same) s)
