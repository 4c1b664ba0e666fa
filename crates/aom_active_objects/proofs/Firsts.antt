-- The first of the timers and the first entry that is ready, as they tell of the requests that they stand for.
use Rattle.std.proofs.Common.{◌≡◌, ◌≢◌, ◌<◌, ◌≤◌, ◌==◌, ℕ, Bool, true, false, cond, List, [], ◌∷◌, length, Option, Some, None, refl, sym, ap, ◌∙◌, subst, arith}
use Rattle.std.specs.Prelude.{All, AllPairs, IsSome, is_some, nat_le, option_map}
use Rattle.std.proofs.lemmas.Bool.{eq-eqb, eqb-true, eqb-false, false≢true, true≢false, leb-true}
use Rattle.std.proofs.lemmas.Bool.Decides.{nat_tests}
use Rattle.aom_active_objects.proofs.ImageLemmas.{true_given}
use Rattle.std.proofs.lemmas.Option.{none-some, same_Some}
use Rattle.std.proofs.lemmas.List.Elements.{All-cons, All-head, All-tail, All-weaker}
use Rattle.aom_scheduler.specs.Requests as Held
use Rattle.aom_scheduler.specs.Requests.{holds_signal, request_at}
use Rattle.aom_scheduler.specs.declared.request.Request.{Request as Machine_request}
use Rattle.aom_scheduler.specs.Order.{without}
use Rattle.aom_scheduler.specs.PriorityList.{first_ready}
use Rattle.aom_scheduler.specs.Pending.{due_by, due_of, left_by}
use Rattle.aom_scheduler.specs.declared.entry.ScheduleEntry.{ScheduleEntry}
use Rattle.aom_scheduler.specs.declared.timer.Timer.{Timer as Machine_timer}
use Rattle.aom_active_objects.proofs.SchedulerLemmas.{AreDistinct, at_head, pairs-head, pairs-tail, stands-if_set, without-at}
use Rattle.aom_semantics.specs.Places.{Request, Timer}
use Rattle.aom_semantics.specs.World.{goes_before, is_sooner}
use Rattle.aom_active_objects.specs.Agrees.{Active, ComesSooner, GoesBefore, IsSooner, IsWhole, RefinesRequests, RequestAgrees, timer_in}
use Rattle.aom_active_objects.specs.Meanings.{IsFirstDue, IsFirstReady, NoneDue, NoneReady, goes}
use Rattle.aom_active_objects.proofs.Halves.{Timely}
use Rattle.aom_active_objects.proofs.Lists.{Numbered, both, id_of, standing}

-- ---- timers

-- what has a due time is a timer
record There (o : Option Timer) (due : ℕ) : Type 0 where
  timer : Timer
  is : o ≡ Some timer
  due_is : timer.due ≡ due

timer_there : (o : Option Timer) (due : ℕ) → Some due ≡ option_map (λ t. t.due) o → There o due
timer_there None due e = absurd (none-some _ (sym e))
timer_there (Some t) due e = record { timer = t; is = refl; due_is = sym (same_Some due t.due e) }

-- the first timer is a request's, and sooner than those of all others
pub record IsFirstTimer (asked : ℕ → Option Request) (t : Machine_timer) : Type 0 where
  pub timer : Timer
  pub runs : timer_in (asked t.id) ≡ Some timer
  pub due_is : timer.due ≡ t.due
  pub first : (n : ℕ) (u : Timer) → n ≢ t.id → timer_in (asked n) ≡ Some u → is_sooner timer u ≡ true

pub first_timer : (asked : ℕ → Option Request) (t : Machine_timer) (ts : List Machine_timer) → Timely asked (t ∷ ts) → IsFirstTimer asked t
first_timer asked t ts s = record { timer = own.timer; runs = own.is; due_is = own.due_is; first = first }
  where
    own : There (timer_in (asked t.id)) t.due
    own = grind (arith, nat_tests, timer_there, eq-eqb t.id t.id)

    first : (n : ℕ) (u : Timer) → n ≢ t.id → timer_in (asked n) ≡ Some u → is_sooner own.timer u ≡ true
    first n u other e = by_place (standing id_of n (λ v. IsSooner (asked t.id) (asked v.id)) ts (stands-if_set n ts set)
        (pairs-head (λ v w. IsSooner (asked v.id) (asked w.id)) t ts s.sooner))
      where
        later : (b : Bool) → (t.id == n) ≡ b → cond b (Some t.due) (due_of n ts) ≡ Some u.due → due_of n ts ≡ Some u.due
        later true same is = absurd (other (sym (eqb-true t.id n same)))
        later false differs is = is

        set : IsSome (due_of n ts)
        set = ap is_some (later (t.id == n) refl (s.due_times n ∙ ap (option_map (λ v. v.due)) e))

        by_place : Numbered id_of n (λ v. IsSooner (asked t.id) (asked v.id)) → is_sooner own.timer u ≡ true
        by_place w = subst (λ o. ComesSooner (Some own.timer) o) (ap (λ k. timer_in (asked k)) w.number_is ∙ e)
            (subst (λ o. ComesSooner o (timer_in (asked w.item.id))) own.is w.holds)

-- what is due is the first
record IsDueFirst (now id : ℕ) (ts : List Machine_timer) : Type 0 where
  timer : Machine_timer
  rest : List Machine_timer
  is : ts ≡ timer ∷ rest
  name : timer.id ≡ id
  le : nat_le timer.due now ≡ true

due_first : (now id : ℕ) (ts : List Machine_timer) → due_by now ts ≡ Some id → IsDueFirst now id ts
due_first now id [] e = cc
due_first now id (t ∷ ts) e = true_given (λ b. cond b (Some t.id) None ≡ Some id) (nat_le t.due now) e (λ none. cc)
    (λ le is. record { timer = t; rest = ts; is = refl; name = same_Some t.id id is; le = le })

-- it is the first that is due, or none is
pub first_by : (asked : ℕ → Option Request) (now id : ℕ) (ts : List Machine_timer) → Timely asked ts → due_by now ts ≡ Some id → IsFirstDue now id asked
first_by asked now id ts s e =
    let d = due_first now id ts e in
    let f = first_timer asked d.timer d.rest (subst (Timely asked) d.is s) in
    subst (λ n. IsFirstDue now n asked) d.name
    (record { timer = f.timer; runs = f.runs; due = omega (arith, f.due_is, leb-true d.timer.due now d.le); first = f.first })

no_earlier : (t u : Timer) → is_sooner t u ≡ true → t.due ≤ u.due
no_earlier t u e = grind (arith, nat_tests)

pub none_by : (asked : ℕ → Option Request) (now : ℕ) (ts : List Machine_timer) → Timely asked ts → due_by now ts ≡ None → NoneDue now asked
none_by asked now [] s e = λ n u runs. absurd (none-some _ (s.due_times n ∙ ap (option_map (λ v. v.due)) runs))
none_by asked now (t ∷ ts) s e = λ n u runs. by_name n u runs (n == t.id) refl
  where
    late : now < t.due
    late = grind (arith, nat_tests)

    by_name : (n : ℕ) (u : Timer) → timer_in (asked n) ≡ Some u → (b : Bool) → (n == t.id) ≡ b → now < u.due
    by_name n u runs true same =
        let f = first_timer asked t ts s in
        let equal : f.timer ≡ u = same_Some f.timer u (sym f.runs ∙ sym (ap (λ k. timer_in (asked k)) (eqb-true n t.id same)) ∙ runs) in
        omega (arith, late, f.due_is, ap (λ v. v.due) equal)
    by_name n u runs false other =
        let f = first_timer asked t ts s in
        omega (arith, late, f.due_is, no_earlier f.timer u (f.first n u (eqb-false n t.id other) runs))

-- what is left of the timers
pub left_none : (now : ℕ) (ts : List Machine_timer) → due_by now ts ≡ None → left_by now ts ≡ ts
left_none now ts e = grind arith

pub left_some : (now id : ℕ) (ts : List Machine_timer) → AreDistinct id_of ts → due_by now ts ≡ Some id → left_by now ts ≡ without id_of id ts
left_some now id ts distinct e =
    let d = due_first now id ts e in
    subst (λ l. left_by now l ≡ without id_of id l) (sym d.is) (ap (λ b. cond b d.rest (d.timer ∷ d.rest)) d.le
    ∙ without-at id_of id (d.timer ∷ d.rest) 0 (subst (AreDistinct id_of) d.is distinct) (at_head d.timer d.rest d.name))

-- the first is set no more then
pub fewer_left : (now id : ℕ) (ts : List Machine_timer) → due_by now ts ≡ Some id → length (left_by now ts) < length ts
fewer_left now id ts e = grind arith

-- the object of the first that is due has a timer
pub set_by : (now id : ℕ) (ts : List Machine_timer) → due_by now ts ≡ Some id → is_some (due_of id ts) ≡ true
set_by now id ts e = grind arith

-- ---- entries

-- the first entry that is ready, of those of which something holds, and how it is related to all others that are
record IsFirstEntry (R : ScheduleEntry → ScheduleEntry → Type 0) (P : ScheduleEntry → Type 0) (id : ℕ) (es : List ScheduleEntry) : Type 0 where
  entry : ScheduleEntry
  name : entry.id ≡ id
  ready : entry.is_ready ≡ true
  holds : P entry
  first : All (λ f. f.id ≢ id → f.is_ready ≡ true → R entry f) es

first_entry : (R : ScheduleEntry → ScheduleEntry → Type 0) (P : ScheduleEntry → Type 0) (id : ℕ) (es : List ScheduleEntry) → first_ready es ≡ Some id →
    AllPairs R es → All P es → IsFirstEntry R P id es
first_entry R P id [] e pairs all = cc
first_entry R P id (x ∷ xs) e pairs all = go x.is_ready refl e (λ later. first_entry R P id xs later (pairs-tail R x xs pairs) (All-tail P x xs all))
  where
    go : (b : Bool) → x.is_ready ≡ b → cond b (Some x.id) (first_ready xs) ≡ Some id → (first_ready xs ≡ Some id → IsFirstEntry R P id xs) →
        IsFirstEntry R P id (x ∷ xs)
    go true ready e rest = record {
      entry = x;
      name = same_Some x.id id e;
      ready = ready;
      holds = All-head P x xs all;
      first = All-cons (λ f. f.id ≢ id → f.is_ready ≡ true → R x f) x xs (λ other is. absurd (other (same_Some x.id id e)))
          (All-weaker (R x) (λ f. f.id ≢ id → f.is_ready ≡ true → R x f) (λ f r other is. r) xs (pairs-head R x xs pairs));
    }
    go false waits e rest =
        let w = rest e in
        record {
          entry = w.entry;
          name = w.name;
          ready = w.ready;
          holds = w.holds;
          first = All-cons (λ f. f.id ≢ id → f.is_ready ≡ true → R w.entry f) x xs (λ other is. absurd (false≢true (sym waits ∙ is))) w.first;
        }

-- a request is ready as the table tells
same_ready : (h : Option Machine_request) (r : Request) (waits : Option Bool) → RequestAgrees h (Some r) waits → Held.is_ready h ≡ goes r waits
same_ready h r waits reports = grind arith

-- what is ready is enlisted, and holds a signal
pub ready_is_some : (h : Option Machine_request) → Held.is_ready h ≡ true → is_some h ≡ true
ready_is_some h e = grind arith

pub ready_signals : (h : Option Machine_request) → Held.is_ready h ≡ true → holds_signal h ≡ true
ready_signals h e = grind arith

-- a request that the table tells
record Reported (o : Option Request) (waits : Option Bool) (b : Bool) : Type 0 where
  request : Request
  is : o ≡ Some request
  ready : goes request waits ≡ b

reported : (h : Option Machine_request) (o : Option Request) (waits : Option Bool) → RequestAgrees h o waits → is_some h ≡ true → Reported o waits (Held.is_ready h)
reported h o waits reports some = grind arith

-- the first entry that is ready is that of a request that is
pub first_is_ready : (a : Active) → IsWhole a → (id : ℕ) → first_ready a.priority_list.entries ≡ Some id → Held.is_ready (request_at a.table id) ≡ true
first_is_ready a w id e =
    let f = first_entry (λ e f. Unit {0}) (λ e. e.is_ready ≡ Held.is_ready (request_at a.table e.id)) id a.priority_list.entries e (λ i j d less within. tt) w.marks in
    sym (ap (λ k. Held.is_ready (request_at a.table k)) f.name) ∙ sym f.holds ∙ f.ready

module _ (a : Active) (w : IsWhole a) (asked : ℕ → Option Request) (queues : ℕ → Option Bool) (s : RefinesRequests a asked queues) where
  -- the entry of a request that is ready
  entry_of : (P : ScheduleEntry → Type 0) → All P a.priority_list.entries → (n : ℕ) (r : Request) → asked n ≡ Some r → goes r (queues n) ≡ true →
      Numbered (λ e. e.id) n (λ e. P e × (e.is_ready ≡ true))
  entry_of P all n r e ready = record { item = found.item; number_is = found.number_is; holds = grind arith }
    where
      held_ready : Held.is_ready (request_at a.table n) ≡ true
      held_ready = grind (arith, nat_tests, same_ready, ready)

      found : Numbered (λ f. f.id) n (λ f. P f × (f.is_ready ≡ Held.is_ready (request_at a.table f.id)))
      found = grind (arith, nat_tests, standing, ready_is_some, held_ready, both P)

  pub picks_first : (id : ℕ) → first_ready a.priority_list.entries ≡ Some id → IsFirstReady id asked queues
  picks_first id e = record { request = own.request; stands = own.is; ready = own.ready ∙ held_ready; first = first }
    where
      f : IsFirstEntry (λ e f. GoesBefore (asked e.id) (asked f.id)) (λ e. e.is_ready ≡ Held.is_ready (request_at a.table e.id)) id a.priority_list.entries
      f = grind (arith, nat_tests, first_entry)

      held_ready : Held.is_ready (request_at a.table id) ≡ true
      held_ready = first_is_ready a w id e

      own : Reported (asked id) (queues id) (Held.is_ready (request_at a.table id))
      own = reported (request_at a.table id) (asked id) (queues id) (s.reports id) (ready_is_some (request_at a.table id) held_ready)

      first : (n : ℕ) (r : Request) → n ≢ id → asked n ≡ Some r → goes r (queues n) ≡ true → goes_before own.request r ≡ true
      first n r other is ready =
          let y = entry_of (λ g. g.id ≢ id → g.is_ready ≡ true → GoesBefore (asked f.entry.id) (asked g.id)) f.first n r is ready in
          subst (λ o. GoesBefore (Some own.request) o) (ap asked y.number_is ∙ is)
          (subst (λ o. GoesBefore o (asked y.item.id)) (ap asked f.name ∙ own.is) (y.holds.0 (λ same. other (sym y.number_is ∙ same)) y.holds.1))

  pub picks_none : All (λ e. e.is_ready ≡ false) a.priority_list.entries → NoneReady asked queues
  picks_none none n r is = go (goes r (queues n)) refl
    where
      go : (b : Bool) → goes r (queues n) ≡ b → b ≡ false
      go true ready = let y = entry_of (λ e. e.is_ready ≡ false) none n r is ready in absurd (true≢false (sym y.holds.1 ∙ y.holds.0))
      go false ready = refl
