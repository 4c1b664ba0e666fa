-- What each call leaves: the three parts hang together still, and stand for the requests that it makes.
use Rattle.std.proofs.lemmas.Bool.Decides.{nat_tests}
use Rattle.std.proofs.Common.{arith, ◌≡◌, ◌==◌, ℕ, ℤ, Bool, true, false, not, cond, List, Option, Some, None, refl, sym, ap, ◌∙◌}
use Rattle.std.specs.Prelude.{All, is_some}
use Rattle.std.proofs.lemmas.Bool.{eqb-true, eqb-false}
use Rattle.std.proofs.lemmas.List.Elements.{All-filter, All-map, All-weaker}
use Rattle.aom_scheduler.specs.Requests.{Table, Changes, request_at, is_pending, is_ready}
use Rattle.aom_scheduler.specs.declared.request.Request.{Request as Machine_request}
use Rattle.aom_scheduler.specs.Order.{placed, without}
use Rattle.aom_scheduler.specs.PriorityList.{PriorityList, before, marked, marked_entry, place, waiting}
use Rattle.aom_scheduler.specs.Pending.{Pending, due_of, no_later, timer_of}
use Rattle.aom_scheduler.specs.declared.entry.ScheduleEntry.{ScheduleEntry}
use Rattle.aom_active_objects.proofs.SchedulerLemmas.{All-placed, IsAbsent, marked-place}
use Rattle.aom_semantics.specs.Requests.{waits}
use Rattle.aom_semantics.specs.Places.{Request}
use Rattle.aom_active_objects.specs.Agrees.{Active, IsWhole, RequestAgrees, due_in, may_stand, timer_in}
use Rattle.aom_active_objects.specs.Meanings.{asked_anew}
use Rattle.aom_active_objects.proofs.Halves.{IsKept, Listed, listed_kept, listed_marked, request_anew}
use Rattle.aom_active_objects.proofs.Lists.{absent_without, both, due_placed, due_without, id_of, stands_placed, stands_without}

-- ---- the table

-- requests may stand as before, and with the new one
pub stand_anew : (old new : Table) (id : ℕ) (q : Option Machine_request) →
    Changes old new id q → may_stand q ≡ true → ((n : ℕ) → may_stand (request_at old n) ≡ true) → (n : ℕ) → may_stand (request_at new n) ≡ true
stand_anew old new id q ch here others n = grind (arith, nat_tests, request_anew old new id q ch n)

pub reports_anew : (old new : Table) (id : ℕ) (q : Option Machine_request) (r : Option Request) (asked : ℕ → Option Request) (queues : ℕ → Option Bool) →
    Changes old new id q → RequestAgrees q r (queues id) →
    ((n : ℕ) → RequestAgrees (request_at old n) (asked n) (queues n)) → (n : ℕ) → RequestAgrees (request_at new n) (asked_anew id r asked n) (queues n)
reports_anew old new id q r asked queues ch here others n = grind (arith, eqb-true id n)

-- ---- the entries

-- who has a request has an entry, which is ready as the request is
pub record Enters (t : Table) (r : PriorityList) : Type 0 where
  pub places : r.limit ≡ t.limit
  pub enlisted : (n : ℕ) → is_some (place n r) ≡ is_some (request_at t n)
  pub marks : All (λ e. e.is_ready ≡ is_ready (request_at t e.id)) r.entries

-- and the entries stand for requests in the same order
pub record Follows (old : PriorityList) (t : Table) (r : PriorityList) : Type 0 where
  pub enters : Enters t r
  pub listed : (asked other : ℕ → Option Request) → ((n : ℕ) → IsKept (asked n) (other n)) → Listed asked old.entries → Listed other r.entries

some_anew : (old new : Table) (id : ℕ) (q : Option Machine_request) (r s : PriorityList) →
    Changes old new id q → ((n : ℕ) → is_some (place n s) ≡ cond (id == n) (is_some q) (is_some (place n r))) →
    ((n : ℕ) → is_some (place n r) ≡ is_some (request_at old n)) → (n : ℕ) → is_some (place n s) ≡ is_some (request_at new n)
some_anew old new id q r s ch now enlisted n = grind arith

module _ (a : Active) (w : IsWhole a) (t : Table) (id : ℕ) (q : Option Machine_request) (ch : Changes a.table t id q) where
  -- an object that is enlisted stays so
  still : is_some (request_at a.table id) ≡ true → is_some q ≡ true → (n : ℕ) → is_some (place n a.priority_list) ≡ cond (id == n) (is_some q) (is_some (place n a.priority_list))
  still listed some n = grind (arith, nat_tests, eqb-true id n, listed)

  pub follows_same : is_some (request_at a.table id) ≡ true → is_some q ≡ true → is_ready q ≡ is_ready (request_at a.table id) → Follows a.priority_list t a.priority_list
  follows_same listed some same = record {
    enters = record {
      places = w.places ∙ sym ch.limit;
      enlisted = some_anew a.table t id q a.priority_list a.priority_list ch (still listed some) w.enlisted;
      marks = All-weaker (λ e. e.is_ready ≡ is_ready (request_at a.table e.id))
          (λ e. e.is_ready ≡ is_ready (request_at t e.id)) (λ e h. h ∙ each e.id) a.priority_list.entries w.marks;
    };
    listed = λ asked other kept l. listed_kept asked other a.priority_list.entries kept l;
  }
    where
      each : (n : ℕ) → is_ready (request_at a.table n) ≡ is_ready (request_at t n)
      each n = grind (arith, nat_tests, request_anew a.table t id q ch n, eqb-true id n)

  pub follows_marked : is_some (request_at a.table id) ≡ true → is_some q ≡ true →
      Follows a.priority_list t (record a.priority_list { entries = marked id (is_ready q) a.priority_list.entries })
  follows_marked listed some = record {
    enters = record {
      places = w.places ∙ sym ch.limit;
      enlisted = grind (arith, nat_tests, some_anew, marked-place, still, listed);
      marks = All-map (λ e. e.is_ready ≡ is_ready (request_at t e.id))
          (marked_entry id (is_ready q)) a.priority_list.entries (All-weaker (λ e. e.is_ready ≡ is_ready (request_at a.table e.id))
          (λ e. (marked_entry id (is_ready q) e).is_ready ≡ is_ready (request_at t (marked_entry id (is_ready q) e).id)) each a.priority_list.entries w.marks);
    };
    listed = λ asked other kept l. listed_marked other id (is_ready q) a.priority_list.entries (listed_kept asked other a.priority_list.entries kept l);
  }
    where
      by_id : (e : ScheduleEntry) (b : Bool) → (e.id == id) ≡ b → e.is_ready ≡ is_ready (request_at a.table e.id) →
          (cond b (record e { is_ready = is_ready q }) e).is_ready ≡ is_ready (request_at t (cond b (record e { is_ready = is_ready q }) e).id)
      by_id e x same h = grind (arith, nat_tests, eqb-true, eqb-false)

      each : (e : ScheduleEntry) → e.is_ready ≡ is_ready (request_at a.table e.id) →
          (marked_entry id (is_ready q) e).is_ready ≡ is_ready (request_at t (marked_entry id (is_ready q) e).id)
      each e h = by_id e (e.id == id) refl h

  -- what of the requests of other objects is as before
  marks_apart : (es : List ScheduleEntry) → IsAbsent (λ e. e.id) id es → All (λ e. e.is_ready ≡ is_ready (request_at a.table e.id)) es →
      All (λ e. e.is_ready ≡ is_ready (request_at t e.id)) es
  marks_apart es absent marks = grind (arith, nat_tests, All-weaker, both, marks)

  pub enters_without : q ≡ None → Enters t (record a.priority_list { entries = without (λ e. e.id) id a.priority_list.entries })
  enters_without none = record {
    places = w.places ∙ sym ch.limit;
    enlisted = some_anew a.table t id q a.priority_list (record a.priority_list { entries = without (λ e. e.id) id a.priority_list.entries }) ch
        (λ n. stands_without (λ e. e.id) id n a.priority_list.entries ∙ ap (λ b. cond (id == n) b (is_some (place n a.priority_list))) (sym (ap is_some none))) w.enlisted;
    marks = marks_apart (without (λ e. e.id) id a.priority_list.entries) (absent_without (λ e. e.id) id a.priority_list.entries)
        (All-filter (λ e. not (e.id == id)) (λ e. e.is_ready ≡ is_ready (request_at a.table e.id)) a.priority_list.entries w.marks);
  }

  pub enters_placed : (priority : ℤ) → IsAbsent (λ e. e.id) id a.priority_list.entries →
      is_some q ≡ true → is_ready q ≡ false → Enters t (record a.priority_list { entries = placed before (waiting id priority) a.priority_list.entries })
  enters_placed priority absent some waits = record {
    places = w.places ∙ sym ch.limit;
    enlisted = grind (arith, nat_tests, some_anew a.table t id q a.priority_list, stands_placed);
    marks = All-placed before (λ e. e.is_ready ≡ is_ready (request_at t e.id)) (waiting id priority) a.priority_list.entries (sym waits ∙ sym (ap is_ready ch.here))
        (marks_apart a.priority_list.entries absent w.marks);
  }

-- ---- the timers

-- timers run for requests that are pending
pub record Runs (t : Table) (p : Pending) : Type 0 where
  pub due_times : p.limit ≡ t.limit
  pub waits : (n : ℕ) → is_some (due_of n p.timers) ≡ true → is_pending (request_at t n) ≡ true

module _ (a : Active) (w : IsWhole a) (t : Table) (id : ℕ) (q : Option Machine_request) (ch : Changes a.table t id q) where
  pub runs_same : (is_pending (request_at a.table id) ≡ true → is_pending q ≡ true) → Runs t a.pending
  runs_same keeps = record { due_times = w.due_times ∙ sym ch.limit; waits = λ n set. ap is_pending (request_anew a.table t id q ch n) ∙ go n set (id == n) refl }
    where
      go : (n : ℕ) → is_some (due_of n a.pending.timers) ≡ true → (b : Bool) → (id == n) ≡ b → is_pending (cond b q (request_at a.table n)) ≡ true
      go n set x same = grind (arith, nat_tests, eqb-true)

  pub runs_without : Runs t (record a.pending { timers = without id_of id a.pending.timers })
  runs_without = record {
    due_times = w.due_times ∙ sym ch.limit;
    waits = λ n set. ap is_pending (request_anew a.table t id q ch n) ∙ go n (id == n) (sym (ap is_some (due_without id n a.pending.timers)) ∙ set);
  }
    where
      go : (n : ℕ) (b : Bool) → is_some (cond b None (due_of n a.pending.timers)) ≡ true → is_pending (cond b q (request_at a.table n)) ≡ true
      go n b set = grind (arith, w.waits n)

  pub runs_placed : (due : ℕ) → due_of id a.pending.timers ≡ None → is_pending q ≡ true →
      Runs t (record a.pending { timers = placed no_later (timer_of id due) a.pending.timers })
  runs_placed due unset waiting = record { due_times = w.due_times ∙ sym ch.limit; waits = grind (arith, nat_tests, request_anew a.table t id q ch, due_placed) }
    where
      go : (n : ℕ) (b : Bool) → is_some (cond b (Some due) (due_of n a.pending.timers)) ≡ true → is_pending (cond b q (request_at a.table n)) ≡ true
      go n x set = grind arith

  -- no timer runs for a request that is not pending
  pub no_timer : is_pending (request_at a.table id) ≡ false → due_of id a.pending.timers ≡ None
  no_timer over = grind (arith, nat_tests)

pub no_due_no_timer : (r : Option Request) → None ≡ due_in r → timer_in r ≡ None
no_due_no_timer r e = grind (arith, nat_tests)
