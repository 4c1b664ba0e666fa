-- What a change of one request leaves of each half: of the entries, and of the timers.
use Rattle.std.proofs.lemmas.Bool.Decides.{nat_tests}
use Rattle.std.proofs.Common.{◌≡◌, ◌≢◌, ◌<◌, ◌==◌, ℕ, ℤ, Bool, true, false, cond, List, Option, Some, None, refl, sym, ap, ◌∙◌, subst, arith}
use Rattle.std.specs.Prelude.{All, AllPairs, IsNone, not, option_map, nat_le, nat_lt, int_lt, ◌||◌, ◌&&◌}
use Rattle.std.specs.Ordering.{int_eq}
use Rattle.std.proofs.lemmas.Bool.{eq-eqb, eqb-true, eqb-false, ne_eqb}
use Rattle.std.proofs.lemmas.Option.{same_Some}
use Rattle.std.proofs.lemmas.List.Elements.{All-filter, All-weaker}
use Rattle.std.proofs.lemmas.List.Kept.{AllPairs-filter}
use Rattle.aom_scheduler.specs.Requests.{Table, Changes, request_at}
use Rattle.aom_scheduler.specs.declared.request.Request.{Request as Machine_request}
use Rattle.aom_scheduler.specs.Order.{IsOrdered, placed, without}
use Rattle.aom_scheduler.specs.PriorityList.{before, marked, waiting}
use Rattle.aom_scheduler.specs.Pending.{due_of, no_later, timer_of}
use Rattle.aom_scheduler.specs.declared.entry.ScheduleEntry.{ScheduleEntry}
use Rattle.aom_scheduler.specs.declared.timer.Timer.{Timer as Machine_timer}
use Rattle.aom_active_objects.proofs.SchedulerLemmas.{All-placed, absent-due, by_due, by_priority}
use Rattle.aom_semantics.specs.Places.{Request, Timer}
use Rattle.aom_semantics.specs.World.{is_sooner}
use Rattle.aom_active_objects.specs.Agrees.{ComesSooner, GoesBefore, HasPriority, IsSooner, due_in, timer_in}
use Rattle.aom_active_objects.specs.Meanings.{IsNewest, IsNewestTimer, asked_anew, enlisted_with, timed_for}
use Rattle.aom_active_objects.proofs.Lists.{absent_without, both, due_placed, due_without, id_of, marked_all, marked_pairs, own_due, pairs_placed, pairs_weaker}

-- ---- another request under a number

pub asked_same : (id : ℕ) (r : Option Request) (asked : ℕ → Option Request) → asked_anew id r asked id ≡ r
asked_same id r asked = ap (λ b. cond b r (asked id)) (eq-eqb id id refl)

pub asked_other : (id n : ℕ) (r : Option Request) (asked : ℕ → Option Request) → n ≢ id → asked_anew id r asked n ≡ asked n
asked_other id n r asked other = ap (λ b. cond b r (asked n)) (ne_eqb id n (λ same. other (sym same)))

-- so in the table
pub request_anew : (old new : Table) (id : ℕ) (q : Option Machine_request) → Changes old new id q → (n : ℕ) → request_at new n ≡ cond (id == n) q (request_at old n)
request_anew old new id q ch n = grind (arith, nat_tests, eqb-true id n, eqb-false id n)

-- two changes in turn at one number
pub changes_twice : (old middle new : Table) (id : ℕ) (q r : Option Machine_request) → Changes old middle id q → Changes middle new id r → Changes old new id r
changes_twice old middle new id q r first second = search (arith, nat_tests)

-- ---- requests in the same place of the order

abbrev pub IsKept : Option Request → Option Request → Type 0
IsKept None None = Unit {0}
IsKept None (Some q) = ⊥
IsKept (Some r) None = ⊥
IsKept (Some r) (Some q) = (r.priority ≡ q.priority) × (r.order ≡ q.order)

pub kept_itself : (r : Option Request) → IsKept r r
kept_itself x = grind arith

pub kept_anew : (id : ℕ) (r q : Request) (asked : ℕ → Option Request) → asked id ≡ Some r → IsKept (Some r) (Some q) → (n : ℕ) →
    IsKept (asked n) (asked_anew id (Some q) asked n)
kept_anew id r q asked here kept n = grind (arith, nat_tests, eqb-true id n, kept_itself (asked n))

priority_kept : (p : ℤ) (r q : Option Request) → IsKept r q → HasPriority p r → HasPriority p q
priority_kept p r q kept has = grind arith

-- whether one goes before the other, by their priorities and orders
abbrev in_front : ℤ → ℤ → ℕ → ℕ → Bool
in_front p q m n = int_lt q p || (int_eq p q && nat_lt m n)

goes_kept : (r q s t : Option Request) → IsKept r s → IsKept q t → GoesBefore r q → GoesBefore s t
goes_kept r q s t first second goes = grind arith

-- ---- the entries

-- their priorities are those of the requests, and their order is that of the picks
pub record Listed (asked : ℕ → Option Request) (es : List ScheduleEntry) : Type 0 where
  pub priorities : All (λ e. HasPriority e.priority (asked e.id)) es
  pub order : AllPairs (λ e f. GoesBefore (asked e.id) (asked f.id)) es

pub listed_kept : (asked other : ℕ → Option Request) (es : List ScheduleEntry) → ((n : ℕ) → IsKept (asked n) (other n)) → Listed asked es → Listed other es
listed_kept asked other es kept l = record {
  priorities = λ k d within. priority_kept _ _ _ (kept _) (l.priorities k d within);
  order = λ i j d less within. goes_kept _ _ _ _ (kept _) (kept _) (l.order i j d less within);
}

pub listed_marked : (asked : ℕ → Option Request) (id : ℕ) (b : Bool) (es : List ScheduleEntry) → Listed asked es → Listed asked (marked id b es)
listed_marked asked id b es l = record {
  priorities = marked_all (λ e. HasPriority e.priority (asked e.id)) (λ e c h. h) id b es l.priorities;
  order = marked_pairs (λ e f. GoesBefore (asked e.id) (asked f.id)) (λ e f c d h. h) id b es l.order;
}

pub listed_without : (asked : ℕ → Option Request) (id : ℕ) (r : Option Request) (es : List ScheduleEntry) → Listed asked es →
    Listed (asked_anew id r asked) (without (λ e. e.id) id es)
listed_without asked id r es l = record {
  priorities = All-weaker (λ e. (e.id ≢ id) × HasPriority e.priority (asked e.id)) (λ e. HasPriority e.priority (asked_anew id r asked e.id))
      (λ e h. subst (HasPriority e.priority) (sym (asked_other id e.id r asked h.0)) h.1) (without (λ e. e.id) id es)
      (both (λ e. e.id ≢ id) (λ e. HasPriority e.priority (asked e.id)) (without (λ e. e.id) id es) (absent_without (λ e. e.id) id es)
      (All-filter (λ e. not (e.id == id)) (λ e. HasPriority e.priority (asked e.id)) es l.priorities));
  order =
      pairs_weaker (λ e. e.id ≢ id) (λ e f. GoesBefore (asked e.id) (asked f.id)) (λ e f. GoesBefore (asked_anew id r asked e.id) (asked_anew id r asked f.id))
      (λ e f first second h. subst (λ o. GoesBefore o (asked_anew id r asked f.id)) (sym (asked_other id e.id r asked first))
      (subst (λ o. GoesBefore (asked e.id) o) (sym (asked_other id f.id r asked second)) h)) (without (λ e. e.id) id es) (absent_without (λ e. e.id) id es)
      (AllPairs-filter (λ e f. GoesBefore (asked e.id) (asked f.id)) (λ e. not (e.id == id)) es l.order);
}

pub listed_placed : (asked : ℕ → Option Request) (id order : ℕ) (priority : ℤ) (es : List ScheduleEntry) → Listed asked es →
    All (λ e. e.id ≢ id) es → AllPairs (λ e f. before e f ≡ true) es → IsNewest order asked →
    Listed (asked_anew id (Some (enlisted_with order priority)) asked) (placed before (waiting id priority) es)
listed_placed asked id order priority es l absent sorted newest = record {
  priorities = All-placed before
      (λ e. HasPriority e.priority (now e.id)) new es (subst (HasPriority priority) (sym (asked_same id (Some mine) asked)) refl) (All-weaker P
      (λ e. HasPriority e.priority (now e.id)) (λ e h. subst (HasPriority e.priority) (sym (asked_other id e.id (Some mine) asked h.0)) h.1) es all);
  order = pairs_placed before (λ e f. GoesBefore (now e.id) (now f.id)) P new by_priority
      (λ e h first. subst (λ o. GoesBefore o (now id)) (sym (asked_other id e.id (Some mine) asked h.0))
      (subst (λ o. GoesBefore (asked e.id) o) (sym (asked_same id (Some mine) asked)) (goes_after e (asked e.id) refl h.1 first)))
      (λ e h later. subst (λ o. GoesBefore (now id) o) (sym (asked_other id e.id (Some mine) asked h.0))
      (subst (λ o. GoesBefore o (asked e.id)) (sym (asked_same id (Some mine) asked)) (goes_ahead e (asked e.id) h.1 later)))
      es all (pairs_weaker (λ e. e.id ≢ id) (λ e f. GoesBefore (asked e.id) (asked f.id)) (λ e f. GoesBefore (now e.id) (now f.id))
      (λ e f first second h. subst (λ o. GoesBefore o (now f.id)) (sym (asked_other id e.id (Some mine) asked first))
      (subst (λ o. GoesBefore (asked e.id) o) (sym (asked_other id f.id (Some mine) asked second)) h)) es absent l.order)
      sorted;
}
  where
    mine : Request
    mine = enlisted_with order priority

    now : ℕ → Option Request
    now = asked_anew id (Some mine) asked

    new : ScheduleEntry
    new = waiting id priority

    P : ScheduleEntry → Type 0
    P e = (e.id ≢ id) × HasPriority e.priority (asked e.id)

    all : All P es
    all = both (λ e. e.id ≢ id) (λ e. HasPriority e.priority (asked e.id)) es absent l.priorities

    goes_after : (e : ScheduleEntry) (r : Option Request) → asked e.id ≡ r → HasPriority e.priority r → before e new ≡ true → GoesBefore r (Some mine)
    goes_after e r is has first = grind arith

    goes_ahead : (e : ScheduleEntry) (r : Option Request) → HasPriority e.priority r → before e new ≡ false → GoesBefore (Some mine) r
    goes_ahead e r has later = grind arith

-- ---- the timers

-- they are due when the requests' timers are, and in their order
pub record Timely (asked : ℕ → Option Request) (ts : List Machine_timer) : Type 0 where
  pub due_times : (n : ℕ) → due_of n ts ≡ due_in (asked n)
  pub sooner : AllPairs (λ t u. IsSooner (asked t.id) (asked u.id)) ts

pub timely_kept : (asked other : ℕ → Option Request) (ts : List Machine_timer) → ((n : ℕ) → timer_in (asked n) ≡ timer_in (other n)) →
    Timely asked ts → Timely other ts
timely_kept asked other ts same t = record { due_times = λ n. t.due_times n ∙ ap (option_map (λ u. u.due)) (same n); sooner = grind (arith, nat_tests) }

-- the timer of a request that is changed so that it keeps it
pub timer_anew : (id : ℕ) (r q : Request) (asked : ℕ → Option Request) → asked id ≡ Some r → r.timer ≡ q.timer → (n : ℕ) →
    timer_in (asked n) ≡ timer_in (asked_anew id (Some q) asked n)
timer_anew id r q asked here same n = grind (arith, nat_tests, eqb-true id n)

pub timely_without : (asked : ℕ → Option Request) (id : ℕ) (r : Option Request) (ts : List Machine_timer) →
    timer_in r ≡ None → Timely asked ts → Timely (asked_anew id r asked) (without id_of id ts)
timely_without asked id r ts none t = record {
  due_times = λ n. due_without id n ts ∙ go n (id == n);
  sooner =
      pairs_weaker (λ u. u.id ≢ id) (λ u v. IsSooner (asked u.id) (asked v.id)) (λ u v. IsSooner (asked_anew id r asked u.id) (asked_anew id r asked v.id))
      (λ u v first second h. subst (λ o. IsSooner o (asked_anew id r asked v.id)) (sym (asked_other id u.id r asked first))
      (subst (λ o. IsSooner (asked u.id) o) (sym (asked_other id v.id r asked second)) h)) (without id_of id ts) (absent_without id_of id ts)
      (AllPairs-filter (λ u v. IsSooner (asked u.id) (asked v.id)) (λ u. not (u.id == id)) ts t.sooner);
}
  where
    go : (n : ℕ) (b : Bool) → cond b None (due_of n ts) ≡ due_in (cond b r (asked n))
    go n x = grind arith

-- the newest of its due time is sooner than those that are due later, and all others are sooner
after_timers : (t u : Timer) (due : ℕ) → t.due ≡ due → nat_le due u.due ≡ true → t.order < u.order → is_sooner t u ≡ true
after_timers t u due same le less = grind (arith, nat_tests)

before_timers : (t u : Timer) (due : ℕ) → t.due ≡ due → nat_le due u.due ≡ false → is_sooner u t ≡ true
before_timers t u due same later = grind arith

pub timely_placed : (asked : ℕ → Option Request) (id due order : ℕ) (r : Request) (ts : List Machine_timer) (limit : ℕ) →
    Timely asked ts → due_of id ts ≡ None → IsOrdered id_of no_later limit ts →
    IsNewestTimer order asked → Timely (asked_anew id (Some (timed_for due order r)) asked) (placed no_later (timer_of id due) ts)
timely_placed asked id due order r ts limit t unset ordered newest = record {
  due_times = λ n. due_placed (timer_of id due) n ts unset ∙ go n (id == n);
  sooner = pairs_placed no_later (λ u v. IsSooner (now u.id) (now v.id)) P (timer_of id due) by_due
      (λ u h first. subst (λ o. IsSooner o (now id)) (sym (asked_other id u.id (Some mine) asked h.0))
      (subst (λ o. IsSooner (asked u.id) o) (sym (asked_same id (Some mine) asked)) (is_after u (timer_in (asked u.id)) refl (sym h.1 ∙ t.due_times u.id) first)))
      (λ u h later. subst (λ o. IsSooner (now id) o) (sym (asked_other id u.id (Some mine) asked h.0))
      (subst (λ o. IsSooner o (asked u.id)) (sym (asked_same id (Some mine) asked)) (is_ahead u (timer_in (asked u.id)) (sym h.1 ∙ t.due_times u.id) later)))
      ts all (pairs_weaker (λ u. u.id ≢ id) (λ u v. IsSooner (asked u.id) (asked v.id)) (λ u v. IsSooner (now u.id) (now v.id))
      (λ u v first second h. subst (λ o. IsSooner o (now v.id)) (sym (asked_other id u.id (Some mine) asked first))
      (subst (λ o. IsSooner (asked u.id) o) (sym (asked_other id v.id (Some mine) asked second)) h)) ts absent t.sooner)
      ordered.sorted;
}
  where
    mine : Request
    mine = timed_for due order r

    now : ℕ → Option Request
    now = asked_anew id (Some mine) asked

    P : Machine_timer → Type 0
    P u = (u.id ≢ id) × (due_of u.id ts ≡ Some u.due)

    absent : All (λ u. u.id ≢ id) ts
    absent = absent-due id ts (subst IsNone (sym unset) refl)

    all : All P ts
    all = both (λ u. u.id ≢ id) (λ u. due_of u.id ts ≡ Some u.due) ts absent (own_due ts ordered.distinct)

    go : (n : ℕ) (b : Bool) → cond b (Some due) (due_of n ts) ≡ due_in (cond b (Some mine) (asked n))
    go n x = grind arith

    is_after : (u : Machine_timer) (o : Option Timer) → timer_in (asked u.id) ≡ o → Some u.due ≡ option_map (λ v. v.due) o →
        no_later u (timer_of id due) ≡ true → ComesSooner o (timer_in (Some mine))
    is_after u x is has first = grind (arith, nat_tests, after_timers, order, same_Some u.due)

    is_ahead : (u : Machine_timer) (o : Option Timer) → Some u.due ≡ option_map (λ v. v.due) o → no_later u (timer_of id due) ≡ false →
        ComesSooner (timer_in (Some mine)) o
    is_ahead u x has later = grind (arith, nat_tests, before_timers, order, same_Some u.due)
