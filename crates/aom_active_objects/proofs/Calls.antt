-- Each call: what the three parts are after it.
use Rattle.std.proofs.lemmas.Bool.Decides.{nat_tests}
use Rattle.std.proofs.Common.{◌≡◌, ◌<◌, ◌==◌, ℕ, ℤ, pos, negsuc, Bool, true, false, not, cond, List, Option, Some, None, refl, sym, ap, ◌∙◌, subst, arith}
use Rattle.std.specs.Prelude.{All, AllPairs, IsNone, is_some}
use Rattle.std.specs.Ordering.{int_eq}
use Rattle.std.proofs.lemmas.Bool.{eqb-true, false≢true}
use Rattle.aom_scheduler.specs.Requests.{Table, Changes, holds_signal, is_pending, is_ready, is_server, kept_code, pending, request_at, state_at, state_of}
use Rattle.aom_scheduler.specs.Requests.{taken, with_state, with_status}
use Rattle.aom_scheduler.specs.declared.request.RequestState.{RequestState}
use Rattle.aom_scheduler.specs.declared.request.RequestState.TheVariants.{Idle as Machine_idle, Issued as Machine_issued, Active as Machine_active}
use Rattle.aom_scheduler.specs.declared.request.RequestState.TheVariants.{Cancelling as Machine_cancelling, Aborted as Machine_aborted}
use Rattle.aom_scheduler.specs.declared.request.Request.{Request as Machine_request}
use Rattle.aom_scheduler.specs.declared.request.Request.TheVariants.{Object as Machine_object, Server as Machine_server}
use Rattle.aom_scheduler.specs.Order.{placed, without}
use Rattle.aom_scheduler.specs.PriorityList.{IsSound, PriorityList, before, first_ready, marked, place, waiting}
use Rattle.aom_scheduler.specs.Pending.{AreInOrder, Pending, due_by, due_of, left_by, no_later, timer_of}
use Rattle.aom_scheduler.specs.declared.timer.Timer.{Timer as Machine_timer}
use Rattle.aom_active_objects.proofs.SchedulerLemmas.{AreDistinct, IsAbsent, place-absent}
use Rattle.aom_semantics.specs.Requests.{aborted, cancelled, cancelling, completed_at_once, completed_with, recorded, taken_up, timed_out, waits}
use Rattle.aom_semantics.specs.Natives.{is_owed}
use Rattle.aom_semantics.specs.Places.{Issued, Request}
use Rattle.aom_semantics.specs.Tokens.{promised}
use Rattle.aom_active_objects.specs.Aborts.{aborted_request}
use Rattle.aom_active_objects.specs.Agrees.{Active, IsWhole, RefinesRequests, RequestAgrees, may_stand, phase_of, timer_in}
use Rattle.aom_active_objects.specs.Meanings.{Asks, Completes, Enlists, IsFirstDue, IsFirstReady, IsNewest, IsNewestTimer, Makes, Picks, Removes, TakesUp, Times}
use Rattle.aom_active_objects.specs.Meanings.{asked_anew, requeued, begun_with, enlisted_with, is_being_cancelled, timed_for}
use Rattle.aom_active_objects.proofs.Firsts.{first_by, first_is_ready, left_none, left_some, none_by, picks_first, picks_none, ready_is_some, ready_signals, set_by}
use Rattle.aom_active_objects.proofs.Halves.{IsKept, Timely, changes_twice, kept_anew, kept_itself, listed_placed, listed_without, timely_kept}
use Rattle.aom_active_objects.proofs.Halves.{timely_placed, timely_without, timer_anew}
use Rattle.aom_active_objects.proofs.Lists.{id_of, standing}
use Rattle.aom_active_objects.proofs.Turns.{Enters, Follows, Runs, enters_placed, enters_without, follows_marked, follows_same, no_timer}
use Rattle.aom_active_objects.proofs.Turns.{runs_placed, runs_same, runs_without, stand_anew, reports_anew}

-- ---- requests in the table

-- an object's request in a state
record IsIn (h : Option Machine_request) (s : RequestState) : Type 0 where
  status : ℤ
  is : h ≡ Some (Machine_object s status)

in_state : (h : Option Machine_request) (s : RequestState) → state_of h ≡ Some s → IsIn h s
in_state h s e = grind arith

-- an object's request in any state
record IsObject (h : Option Machine_request) : Type 0 where
  state : RequestState
  in_it : IsIn h state

-- what is no server's is an object's, so is what is pending and what is being cancelled
some_object : (h : Option Machine_request) → is_server h ≡ false → is_some h ≡ true → IsObject h
some_object h plain some = grind arith

pending_object : (h : Option Machine_request) → is_pending h ≡ true → IsObject h
pending_object h e = grind arith

cancelled_object : (h : Option Machine_request) → is_being_cancelled h ≡ true → IsObject h
cancelled_object h e = grind arith

-- a server has a signal as it is ready
server_is : (h : Option Machine_request) → is_server h ≡ true → h ≡ Some (Machine_server (is_ready h))
server_is h e = grind arith

-- what an object's request becomes is told where its phase and its status are
object_reports : (x y : RequestState) (u v : ℤ) (r q : Request) (waits : Option Bool) → (phase_of x ≡ r.phase → u ≡ r.status → (phase_of y ≡ q.phase) × (v ≡ q.status)) →
    RequestAgrees (Some (Machine_object x u)) (Some r) waits → RequestAgrees (Some (Machine_object y v)) (Some q) waits
object_reports x y u v r q waits becomes reports = grind (arith, becomes)

-- what is being cancelled is not ready
cancelled_waits : (h : Option Machine_request) → is_being_cancelled h ≡ true → is_ready h ≡ false
cancelled_waits h e = grind arith

-- a request that is completed may stand in any state
completed_stands : (x : RequestState) (status : ℤ) → int_eq status pending ≡ false → may_stand (Some (Machine_object x status)) ≡ true
completed_stands x status over = grind arith

kept_is_over : (code : ℤ) → int_eq (kept_code code) pending ≡ false
kept_is_over code = grind (arith, nat_tests)

none_of : {A : Type 0} (o : Option A) → is_some o ≡ false → o ≡ None
none_of x e = grind arith

-- a request that is pending is outstanding
owed : (h : Option Machine_request) (r : Option Request) (waits : Option Bool) → may_stand h ≡ true → RequestAgrees h r waits → is_pending h ≡ is_owed r
owed h r waits stand reports = grind arith

pub is_outstanding : {old : Active} (a : Active) → a ≡ old → IsWhole a →
    (id : ℕ) (asked : ℕ → Option Request) (queues : ℕ → Option Bool) → RefinesRequests old asked queues → is_pending (request_at a.table id) ≡ is_owed (asked id)
is_outstanding a same w id asked queues s = grind (arith, nat_tests, owed)

-- ---- a request that becomes another

pub record Made (old new : Active) (id : ℕ) (f : Request → Request) : Type 0 where
  pub whole : IsWhole new
  pub makes : Makes old new id f

whole_from : (a new : Active) (id : ℕ) (q : Option Machine_request) →
    IsWhole a → Changes a.table new.table id q → may_stand q ≡ true → Enters new.table new.priority_list → Runs new.table new.pending → IsWhole new
whole_from a new id q w ch stand enters runs = record {
  places = enters.places;
  due_times = runs.due_times;
  requests = stand_anew a.table new.table id q ch stand w.requests;
  enlisted = enters.enlisted;
  marks = enters.marks;
  waits = runs.waits;
}

-- what the timers stand for once the request is another
abbrev Retimes : List Machine_timer → List Machine_timer → ℕ → (Request → Request) → Type 0
Retimes ts us id f = (asked : ℕ → Option Request) (r : Request) → asked id ≡ Some r → Timely asked ts → Timely (asked_anew id (Some (f r)) asked) us

made : (a new : Active) (id : ℕ) (q : Option Machine_request) (f : Request → Request) → IsWhole a → Changes a.table new.table id q →
    may_stand q ≡ true → Follows a.priority_list new.table new.priority_list → Runs new.table new.pending → Retimes a.pending.timers new.pending.timers id f →
    ((r : Request) (waits : Option Bool) → RequestAgrees (request_at a.table id) (Some r) waits → RequestAgrees q (Some (f r)) waits) →
    ((r : Request) → IsKept (Some r) (Some (f r))) → Made a new id f
made a new id q f w ch stand follows runs retimes reports kept = record {
  whole = whole_from a new id q w ch stand follows.enters runs;
  makes = record { limit = ch.limit; stands = stands };
}
  where
    stands : (asked : ℕ → Option Request) (queues : ℕ → Option Bool) (r : Request) → RefinesRequests a asked queues → asked id ≡ Some r →
        RefinesRequests new (asked_anew id (Some (f r)) asked) queues
    stands asked queues r s here =
        let now = asked_anew id (Some (f r)) asked in
        let l = follows.listed asked now (kept_anew id r (f r) asked here (kept r)) (record { priorities = s.priorities; order = s.order }) in
        let t = retimes asked r here (record { due_times = s.due_times; sooner = s.sooner }) in
        record {
          reports = reports_anew a.table new.table id q (Some (f r)) asked queues ch
              (reports r (queues id) (subst (λ o. RequestAgrees (request_at a.table id) o (queues id)) here (s.reports id))) s.reports;
          priorities = l.priorities;
          order = l.order;
          due_times = t.due_times;
          sooner = t.sooner;
        }

retimes_same : (ts : List Machine_timer) (id : ℕ) (f : Request → Request) → ((r : Request) → r.timer ≡ (f r).timer) → Retimes ts ts id f
retimes_same ts id f keeps asked r here t = timely_kept asked (asked_anew id (Some (f r)) asked) ts (timer_anew id r (f r) asked here (keeps r)) t

retimes_none : (ts : List Machine_timer) (id : ℕ) (f : Request → Request) → due_of id ts ≡ None → ((r : Request) → (f r).timer ≡ None) → Retimes ts ts id f
retimes_none ts id f unset loses asked r here t = grind arith

retimes_without : (ts : List Machine_timer) (id : ℕ) (f : Request → Request) → ((r : Request) → (f r).timer ≡ None) → Retimes ts (without id_of id ts) id f
retimes_without ts id f loses asked r here t = timely_without asked id (Some (f r)) ts (loses r) t

-- ---- the calls

abbrev parts : Table → PriorityList → Pending → Active
parts t r p = record { table = t; priority_list = r; pending = p }

module _ {old : Active} (a : Active) (same : a ≡ old) (w : IsWhole a) (id : ℕ) where
  -- what is required of the whole holds of its parts
  state_here : (s : RequestState) → state_at old.table id ≡ Some s → IsIn (request_at a.table id) s
  state_here s state = in_state (request_at a.table id) s (ap (λ x. state_at x.table id) same ∙ state)

  marked_as : (t : Table) (r : PriorityList) (q : Option Machine_request) (ready : Bool) → Changes a.table t id q → ready ≡ is_ready (request_at t id) →
      r ≡ record a.priority_list { entries = marked id ready a.priority_list.entries } → is_some (request_at a.table id) ≡ true → is_some q ≡ true → Follows a.priority_list t r
  marked_as t r q ready ch ready_is roster_is listed some = grind (arith, follows_marked a w t id q ch listed some)

  pub sets_active : (t : Table) (r : PriorityList) (ready : Bool) →
      state_at old.table id ≡ Some Machine_issued → Changes a.table t id (with_state Machine_active (request_at a.table id)) →
      ready ≡ is_ready (request_at t id) → r ≡ record a.priority_list { entries = marked id ready a.priority_list.entries } → Made old (parts t r a.pending) id waits
  sets_active t r ready state change ready_is roster_is =
      let o = state_here Machine_issued state in
      let q = Some (Machine_object Machine_active o.status) in
      let ch = subst (λ h. Changes a.table t id (with_state Machine_active h)) o.is change in
      subst (λ x. Made x (parts t r a.pending) id waits) same
      (made a (parts t r a.pending) id q waits w ch refl (marked_as t r q ready ch ready_is roster_is (ap is_some o.is) refl)
      (runs_same a w t id q ch (λ e. sym (ap is_pending o.is) ∙ e)) (retimes_same a.pending.timers id waits (λ x. refl)) (λ x v e. object_reports Machine_issued
      Machine_active o.status o.status x (waits x) v (λ phase status. (refl, status)) (subst (λ h. RequestAgrees h (Some x) v) o.is e)) (λ x. (refl, refl)))

  pub begins_cancel :
      (t : Table) (r : PriorityList) → state_at old.table id ≡ Some Machine_active → Changes a.table t id (with_state Machine_cancelling (request_at a.table id)) →
      r ≡ record a.priority_list { entries = marked id false a.priority_list.entries } → Made old (parts t r a.pending) id cancelling
  begins_cancel t r state change roster_is =
      let o = state_here Machine_active state in
      let q = Some (Machine_object Machine_cancelling o.status) in
      let ch = subst (λ h. Changes a.table t id (with_state Machine_cancelling h)) o.is change in
      subst (λ x. Made x (parts t r a.pending) id cancelling) same (made a (parts t r a.pending) id q cancelling w ch refl
      (marked_as t r q false ch (sym (ap is_ready ch.here)) roster_is (ap is_some o.is) refl) (runs_same a w t id q ch (λ e. sym (ap is_pending o.is) ∙ e))
      (retimes_same a.pending.timers id cancelling (λ x. refl)) (λ x v e. object_reports Machine_active Machine_cancelling o.status o.status x (cancelling x) v
      (λ phase status. (refl, status)) (subst (λ h. RequestAgrees h (Some x) v) o.is e)) (λ x. (refl, refl)))

  pub issues_own : (s t : Table) (code given : ℤ) →
      given ≡ code → state_at old.table id ≡ Some Machine_idle → Changes a.table s id (Some (Machine_object Machine_issued pending)) →
      Changes s t id (with_status (kept_code given) (request_at s id)) → Made old (parts t a.priority_list a.pending) id (completed_at_once code)
  issues_own s t code given given_is state first second =
      let o = state_here Machine_idle state in
      let q = Some (Machine_object Machine_issued (kept_code code)) in
      let over : is_pending (request_at a.table id) ≡ false = ap is_pending o.is in
      let ch = changes_twice a.table s t id (Some (Machine_object Machine_issued pending)) q first (grind arith) in
      subst (λ x. Made x (parts t a.priority_list a.pending) id (completed_at_once code)) same (made a (parts t a.priority_list a.pending) id q (completed_at_once code)
      w ch refl (follows_same a w t id q ch (ap is_some o.is) refl (sym (ap is_ready o.is))) (runs_same a w t id q ch (λ e. absurd (false≢true (sym over ∙ e))))
      (retimes_none a.pending.timers id (completed_at_once code) (no_timer a w t id q ch over) (λ x. refl)) (λ x v e. object_reports Machine_idle Machine_issued
      o.status (kept_code code) x (completed_at_once code x) v (λ phase status. (refl, refl)) (subst (λ h. RequestAgrees h (Some x) v) o.is e)) (λ x. (refl, refl)))

  pub ends_cancel : (t : Table) → is_being_cancelled (request_at old.table id) ≡ true → is_pending (request_at old.table id) ≡ false →
      Changes a.table t id (taken (request_at a.table id)) → Made old (parts t a.priority_list a.pending) id cancelled
  ends_cancel t being completed change =
      let being_here : is_being_cancelled (request_at a.table id) ≡ true = ap (λ x. is_being_cancelled (request_at x.table id)) same ∙ being in
      let over : is_pending (request_at a.table id) ≡ false = ap (λ x. is_pending (request_at x.table id)) same ∙ completed in
      let o = cancelled_object (request_at a.table id) being_here in
      let q = Some (Machine_object Machine_idle o.in_it.status) in
      let ch = subst (λ h. Changes a.table t id (taken h)) o.in_it.is change in
      subst (λ x. Made x (parts t a.priority_list a.pending) id cancelled) same (made a (parts t a.priority_list a.pending) id q cancelled w ch refl
      (follows_same a w t id q ch (ap is_some o.in_it.is) refl (sym (cancelled_waits (request_at a.table id) being_here))) (runs_same a w t id q ch
      (λ e. absurd (false≢true (sym over ∙ e)))) (retimes_same a.pending.timers id cancelled (λ x. refl)) (λ x v e. object_reports o.state Machine_idle
      o.in_it.status o.in_it.status x (cancelled x) v (λ phase status. (refl, status)) (subst (λ h. RequestAgrees h (Some x) v) o.in_it.is e)) (λ x. (refl, refl)))

  pub aborts : (t : Table) (p : Pending) → is_being_cancelled (request_at old.table id) ≡ true → Changes a.table t id
      (aborted_request (request_at a.table id)) → p ≡ record a.pending { timers = without id_of id a.pending.timers } → Made old (parts t a.priority_list p) id aborted
  aborts t p being change pending_is =
      let being_here : is_being_cancelled (request_at a.table id) ≡ true = ap (λ x. is_being_cancelled (request_at x.table id)) same ∙ being in
      let o = cancelled_object (request_at a.table id) being_here in
      let code = cond (int_eq o.in_it.status pending) (negsuc 2) o.in_it.status in
      let q = Some (Machine_object Machine_aborted code) in
      let ch = subst (λ h. Changes a.table t id (aborted_request h)) o.in_it.is change in
      let timers = record a.pending { timers = without id_of id a.pending.timers } in
      subst (λ x. Made x (parts t a.priority_list p) id aborted) same (subst (λ y. Made a (parts t a.priority_list y) id aborted) (sym pending_is)
      (made a (parts t a.priority_list timers) id q aborted w ch (answered o.in_it.status (int_eq o.in_it.status pending) refl)
      (follows_same a w t id q ch (ap is_some o.in_it.is) refl (sym (cancelled_waits (request_at a.table id) being_here)))
      (runs_without a w t id q ch) (retimes_without a.pending.timers id aborted (λ x. refl))
      (λ x v e. object_reports o.state Machine_aborted o.in_it.status code x
      (aborted x) v (λ phase status. (refl, ap (λ y. cond (int_eq y pending) (negsuc 2) y) status)) (subst (λ h. RequestAgrees h (Some x) v) o.in_it.is e))
      (λ x. (refl, refl))))
    where
      answered : (status : ℤ) (b : Bool) → int_eq status pending ≡ b → not (int_eq (cond b (negsuc 2) status) pending) ≡ true
      answered status x e = grind (arith, nat_tests)

  pub times_out : (now : ℕ) (t : Table) (r : PriorityList) (p : Pending) (ready : Bool) → AreInOrder old.pending → due_by now a.pending.timers ≡ Some id →
      Changes a.table t id (with_status (pos 0) (request_at a.table id)) → ready ≡ is_ready (request_at t id) → r ≡ record a.priority_list
      { entries = marked id ready a.priority_list.entries } → p ≡ record a.pending { timers = left_by now a.pending.timers } → Made old (parts t r p) id timed_out
  times_out now t r p ready ordered due change ready_is roster_is pending_is =
      let o = pending_object (request_at a.table id) (w.waits id (set_by now id a.pending.timers due)) in
      let listed = ap is_some o.in_it.is in
      let q = Some (Machine_object o.state (pos 0)) in
      let ch = subst (λ h. Changes a.table t id (with_status (pos 0) h)) o.in_it.is change in
      let timers = record a.pending { timers = without id_of id a.pending.timers } in
      let left = pending_is ∙ ap (λ ts. record a.pending { timers = ts })
      (left_some now id a.pending.timers (subst (λ x. AreDistinct id_of x.pending.timers) (sym same) ordered.distinct) due) in
      subst (λ x. Made x (parts t r p) id timed_out) same (subst (λ y. Made a (parts t r y) id timed_out) (sym left)
      (made a (parts t r timers) id q timed_out w ch (completed_stands o.state (pos 0) refl) (marked_as t r q ready ch ready_is roster_is listed refl)
      (runs_without a w t id q ch) (retimes_without a.pending.timers id timed_out (λ x. refl)) (λ x v e. object_reports o.state o.state o.in_it.status (pos 0) x
      (timed_out x) v (λ phase status. (phase, refl)) (subst (λ h. RequestAgrees h (Some x) v) o.in_it.is e)) (λ x. (refl, refl))))

  -- one that is not completed, as long as no timer runs for it, and it stands where it stood
  issues_as : (f : Request → Request) → ((r : Request) → (f r).phase ≡ Issued) → ((r : Request) → (f r).status ≡ pending) →
      ((r : Request) → (f r).timer ≡ None) → ((r : Request) → IsKept (Some r) (Some (f r))) → (t : Table) → state_at old.table id ≡ Some Machine_idle →
      Changes a.table t id (Some (Machine_object Machine_issued pending)) → Made old (parts t a.priority_list a.pending) id f
  issues_as f phase_so status_so timer_so stays t state ch =
      let o = state_here Machine_idle state in
      let q = Some (Machine_object Machine_issued pending) in
      let over : is_pending (request_at a.table id) ≡ false = ap is_pending o.is in
      subst (λ x. Made x (parts t a.priority_list a.pending) id f) same (made a (parts t a.priority_list a.pending) id q f w ch refl
      (follows_same a w t id q ch (ap is_some o.is) refl (sym (ap is_ready o.is))) (runs_same a w t id q ch (λ e. absurd (false≢true (sym over ∙ e))))
      (retimes_none a.pending.timers id f (no_timer a w t id q ch over) timer_so) (λ x v e. object_reports Machine_idle Machine_issued o.status pending x (f x) v
      (λ phase status. (sym (phase_so x), sym (status_so x))) (subst (λ h. RequestAgrees h (Some x) v) o.is e)) stays)

  pub issues_native : (t : Table) → state_at old.table id ≡ Some Machine_idle →
      Changes a.table t id (Some (Machine_object Machine_issued pending)) → Made old (parts t a.priority_list a.pending) id (begun_with pending)
  issues_native = issues_as (begun_with pending) (λ r. refl) (λ r. refl) (λ r. refl) (λ r. (refl, refl))

  -- whichever token completes it
  pub issues_token : (order : ℕ) (t : Table) → state_at old.table id ≡ Some Machine_idle →
      Changes a.table t id (Some (Machine_object Machine_issued pending)) → Made old (parts t a.priority_list a.pending) id (promised order)
  issues_token order = issues_as (promised order) (λ r. refl) (λ r. refl) (λ r. refl) (λ r. (refl, refl))

  pub completes_it : (t : Table) (r : PriorityList) (p : Pending) (code given : ℤ) (ready : Bool) →
      given ≡ code → is_pending (request_at old.table id) ≡ true → Changes a.table t id (with_status (kept_code given) (request_at a.table id)) →
      ready ≡ is_ready (request_at t id) → r ≡ record a.priority_list { entries = marked id ready a.priority_list.entries } →
      p ≡ record a.pending { timers = without id_of id a.pending.timers } → Made old (parts t r p) id (completed_with (recorded code))
  completes_it t r p code given ready given_is awaited change ready_is roster_is pending_is =
      let o = pending_object (request_at a.table id) (ap (λ x. is_pending (request_at x.table id)) same ∙ awaited) in
      let listed = ap is_some o.in_it.is in
      let f = completed_with (recorded code) in
      let q = Some (Machine_object o.state (kept_code code)) in
      let ch = subst (λ k. Changes a.table t id (with_status (kept_code k) (Some (Machine_object o.state o.in_it.status)))) given_is
      (subst (λ h. Changes a.table t id (with_status (kept_code given) h)) o.in_it.is change) in
      let timers = record a.pending { timers = without id_of id a.pending.timers } in
      subst (λ x. Made x (parts t r p) id f) same (subst (λ y. Made a (parts t r y) id f) (sym pending_is)
      (made a (parts t r timers) id q f w ch (completed_stands o.state (kept_code code) (kept_is_over code)) (marked_as t r q ready ch ready_is roster_is listed
      refl) (runs_without a w t id q ch) (retimes_without a.pending.timers id f (λ x. refl)) (λ x v e. object_reports o.state o.state o.in_it.status
      (kept_code code) x (f x) v (λ phase status. (phase, refl)) (subst (λ h. RequestAgrees h (Some x) v) o.in_it.is e)) (λ x. (refl, refl))))

  -- the first that is ready holds a signal, and is enlisted
  pub pick_is_ready : first_ready a.priority_list.entries ≡ Some id → is_ready (request_at a.table id) ≡ true
  pick_is_ready e = first_is_ready a w id e

  pub pick_signals : first_ready a.priority_list.entries ≡ Some id → holds_signal (request_at a.table id) ≡ true
  pick_signals e = ready_signals (request_at a.table id) (pick_is_ready e)

  pub pick_enlisted : first_ready a.priority_list.entries ≡ Some id → is_some (place id a.priority_list) ≡ true
  pick_enlisted e = w.enlisted id ∙ ready_is_some (request_at a.table id) (pick_is_ready e)

  pub takes_up : (t : Table) (r : PriorityList) → is_server (request_at a.table id) ≡ false → first_ready a.priority_list.entries ≡ Some id → Changes a.table t id
      (taken (request_at a.table id)) → r ≡ record a.priority_list { entries = marked id false a.priority_list.entries } → Made old (parts t r a.pending) id taken_up
  takes_up t r plain first change roster_is =
      let ready = pick_is_ready first in
      let listed = ready_is_some (request_at a.table id) ready in
      let o = some_object (request_at a.table id) plain listed in
      let q = Some (Machine_object Machine_idle o.in_it.status) in
      let ch = subst (λ h. Changes a.table t id (taken h)) o.in_it.is change in
      subst (λ x. Made x (parts t r a.pending) id taken_up) same
      (made a (parts t r a.pending) id q taken_up w ch refl (marked_as t r q false ch (sym (ap is_ready ch.here)) roster_is listed refl)
      (grind arith) (retimes_same a.pending.timers id taken_up (λ x. refl))
      (λ x v e. object_reports o.state Machine_idle o.in_it.status o.in_it.status x (taken_up x) v (λ phase status. (refl, status)) (subst (λ h. RequestAgrees h (Some x) v) o.in_it.is e)) (λ x. (refl, refl)))
    where
      ready_is_over : (h : Option Machine_request) → is_ready h ≡ true → is_pending h ≡ false
      ready_is_over h e = grind arith

module _ {old : Active} (a : Active) (same : a ≡ old) (w : IsWhole a) where
  -- the timer that is due first, and the pick
  pub none_completes : (now : ℕ) (p : Pending) (result : Option ℕ) → result ≡ None →
      due_by now a.pending.timers ≡ None → p ≡ record a.pending { timers = left_by now a.pending.timers } → Completes now old (parts a.table a.priority_list p) result
  none_completes now p result none due pending_is = subst (λ r. Completes now old (parts a.table a.priority_list p) r) (sym none)
      (grind (arith, nat_tests, left_none now a.pending.timers due, none_by))

  pub is_first_due : (now id : ℕ) → due_by now a.pending.timers ≡ Some id → (asked : ℕ → Option Request) (queues : ℕ → Option Bool) →
      RefinesRequests old asked queues → IsFirstDue now id asked
  is_first_due now id due asked queues s = search (arith, nat_tests, first_by asked now id a.pending.timers)

  pub none_picked : (first result : Option ℕ) → first ≡ None → (IsNone first → All (λ e. e.is_ready ≡ false) a.priority_list.entries) → result ≡ None → Picks old old result
  none_picked first result none waits is = subst (λ r. Picks old old r) (sym is)
      (refl, λ asked queues s. picks_none a w asked queues (subst (λ x. RefinesRequests x asked queues) (sym same) s) (waits (subst IsNone (sym none) refl)))

  pub is_first_ready : (id : ℕ) → first_ready a.priority_list.entries ≡ Some id → (asked : ℕ → Option Request) (queues : ℕ → Option Bool) →
      RefinesRequests old asked queues → IsFirstReady id asked queues
  is_first_ready id first asked queues s = picks_first a w asked queues (subst (λ x. RefinesRequests x asked queues) (sym same) s) id first

  -- of a server nothing changes, and an object is idle
  pub server_picked : (id : ℕ) (b : Bool) → b ≡ is_server (request_at a.table id) → b ≡ true → TakesUp (is_server (request_at old.table id)) old old id
  server_picked id b is serves = grind (arith, nat_tests, is)

  pub object_picked : (id : ℕ) (new : Active) (b : Bool) → b ≡ is_server (request_at a.table id) → b ≡ false → Makes old new id taken_up →
      TakesUp (is_server (request_at old.table id)) old new id
  object_picked id new b is plain makes = grind (arith, nat_tests, is, makes)

-- ---- an object that is enlisted, one that is no more, and a timer that is set

pub record Enlisted (old new : Active) (id : ℕ) (priority : ℤ) (waits : Option Bool) : Type 0 where
  pub whole : IsWhole new
  pub enlists : Enlists old new id priority waits

pub record Asked (old new : Active) (id : ℕ) (waits : Bool) : Type 0 where
  pub whole : IsWhole new
  pub asks : Asks old new id waits

pub record Removed (old new : Active) (id : ℕ) : Type 0 where
  pub whole : IsWhole new
  pub removes : Removes old new id

pub record Timed (old new : Active) (id due : ℕ) : Type 0 where
  pub whole : IsWhole new
  pub times : Times old new id due

module _ {old : Active} (a : Active) (same : a ≡ old) (w : IsWhole a) (id : ℕ) where
  pub enlists_it : (h : Machine_request) (waits : Option Bool) →
      may_stand (Some h) ≡ true → is_ready (Some h) ≡ false → ((order : ℕ) (priority : ℤ) → RequestAgrees (Some h) (Some (enlisted_with order priority)) waits) →
      (t : Table) (r : PriorityList) (priority given : ℤ) → given ≡ priority → IsSound old.priority_list → request_at old.table id ≡ None → Changes a.table t id (Some h) →
      r ≡ record a.priority_list { entries = placed before (waiting id given) a.priority_list.entries } → Enlisted old (parts t r a.pending) id priority waits
  enlists_it h waits may idles reports t r priority given given_is ordered fresh ch roster_is = subst (λ x. Enlisted x (parts t r a.pending) id priority waits)
      same (subst (λ x. Enlisted a (parts t x a.pending) id priority waits) (grind (arith, nat_tests)) (record {
        whole = whole_from a (parts t grown a.pending) id q w ch may
            (enters_placed a w t id q ch priority absent refl idles) (runs_same a w t id q ch (λ e. absurd (false≢true (sym (ap is_pending free) ∙ e))));
        enlists = record { limit = ch.limit; stands = stands };
      }))
    where
      q : Option Machine_request
      q = Some h

      grown : PriorityList
      grown = record a.priority_list { entries = placed before (waiting id priority) a.priority_list.entries }

      free : request_at a.table id ≡ None
      free = ap (λ x. request_at x.table id) same ∙ fresh

      absent : IsAbsent (λ e. e.id) id a.priority_list.entries
      absent = place-absent (λ e. e.id) id a.priority_list.entries (none_of (place id a.priority_list) (w.enlisted id ∙ ap is_some free))

      unasked : (o : Option Request) (v : Option Bool) → RequestAgrees None o v → timer_in o ≡ None
      unasked o v reports = grind arith

      stands : (asked : ℕ → Option Request) (queues : ℕ → Option Bool) (order : ℕ) → RefinesRequests a asked queues →
          IsNewest order asked → queues id ≡ waits → RefinesRequests (parts t grown a.pending) (asked_anew id (Some (enlisted_with order priority)) asked) queues
      stands asked queues order s newest here =
          let now = asked_anew id (Some (enlisted_with order priority)) asked in
          let l = listed_placed asked id order priority a.priority_list.entries (record { priorities = s.priorities; order = s.order }) absent
          (subst (λ x. AllPairs (λ e f. before e f ≡ true) x.priority_list.entries) (sym same) ordered.sorted) newest in
          let u = timely_kept asked now a.pending.timers (λ n. keeps n (id == n) refl) (record { due_times = s.due_times; sooner = s.sooner }) in
          record {
            reports = grind (arith, nat_tests, reports_anew a.table t id q, q);
            priorities = l.priorities;
            order = l.order;
            due_times = u.due_times;
            sooner = u.sooner;
          }
        where
          keeps : (n : ℕ) (b : Bool) → (id == n) ≡ b → timer_in (asked n) ≡ timer_in (cond b (Some (enlisted_with order priority)) (asked n))
          keeps n x equal = grind (arith, nat_tests, eqb-true, unasked, free)

  -- a server is told that something waits in its queue, or that nothing does
  pub asks_it : (t : Table) (r : PriorityList) (b : Bool) → is_server (request_at old.table id) ≡ true → Changes a.table t id (Some (Machine_server b)) →
      r ≡ record a.priority_list { entries = marked id b a.priority_list.entries } → Asked old (parts t r a.pending) id b
  asks_it t r b serves ch roster_is = subst (λ x. Asked x (parts t r a.pending) id b) same
      (record { whole = whole_from a (parts t r a.pending) id q w ch refl follows.enters runs; asks = record { limit = ch.limit; stands = stands } })
    where
      q : Option Machine_request
      q = Some (Machine_server b)

      was : request_at a.table id ≡ Some (Machine_server (is_ready (request_at a.table id)))
      was = server_is (request_at a.table id) (ap (λ x. is_server (request_at x.table id)) same ∙ serves)

      follows : Follows a.priority_list t r
      follows = marked_as a same w id t r q b ch (sym (ap is_ready ch.here)) roster_is (ap is_some was) refl

      runs : Runs t a.pending
      runs = runs_same a w t id q ch (λ e. absurd (false≢true (sym (ap is_pending was) ∙ e)))

      signals : (o : Option Request) (v : Option Bool) (x : Bool) → RequestAgrees (Some (Machine_server x)) o v → RequestAgrees (Some (Machine_server b)) o (Some b)
      signals o v x reports = grind arith

      stands : (asked : ℕ → Option Request) (queues : ℕ → Option Bool) → RefinesRequests a asked queues →
          RefinesRequests (parts t r a.pending) asked (requeued id (Some b) queues)
      stands asked queues s =
          let l = follows.listed asked asked (λ n. kept_itself (asked n)) (record { priorities = s.priorities; order = s.order }) in
          record { reports = grind (arith, nat_tests); priorities = l.priorities; order = l.order; due_times = s.due_times; sooner = s.sooner }
        where
          go : (n : ℕ) (x : Bool) → (id == n) ≡ x → RequestAgrees (cond x q (request_at a.table n)) (asked n) (cond x (Some b) (queues n))
          go n x other = grind (arith, nat_tests, q, eqb-true, signals, was)

  pub removes_it :
      (t : Table) (r : PriorityList) (p : Pending) → Changes a.table t id None → r ≡ record a.priority_list { entries = without (λ e. e.id) id a.priority_list.entries } →
      p ≡ record a.pending { timers = without id_of id a.pending.timers } → Removed old (parts t r p) id
  removes_it t r p ch roster_is pending_is = subst (λ x. Removed x (parts t r p) id) same
      (subst (λ x. Removed a (parts t x p) id) (sym roster_is) (subst (λ x. Removed a (parts t less x) id) (sym pending_is) (record {
        whole = whole_from a (parts t less fewer) id None w ch refl (enters_without a w t id None ch refl) (runs_without a w t id None ch);
        removes = record { limit = ch.limit; stands = stands };
      })))
    where
      less : PriorityList
      less = record a.priority_list { entries = without (λ e. e.id) id a.priority_list.entries }

      fewer : Pending
      fewer = record a.pending { timers = without id_of id a.pending.timers }

      stands : (asked : ℕ → Option Request) (queues : ℕ → Option Bool) → RefinesRequests a asked queues → RefinesRequests (parts t less fewer) (asked_anew id None asked) queues
      stands asked queues s =
          let l = listed_without asked id None a.priority_list.entries (record { priorities = s.priorities; order = s.order }) in
          let u = timely_without asked id None a.pending.timers refl (record { due_times = s.due_times; sooner = s.sooner }) in
          record { reports = reports_anew a.table t id None None asked queues ch tt s.reports; priorities = l.priorities; order = l.order; due_times = u.due_times; sooner = u.sooner }

  pub sets_timer : (t : Table) (p : Pending) (due : ℕ) →
      AreInOrder old.pending → state_at old.table id ≡ Some Machine_idle → Changes a.table t id (Some (Machine_object Machine_issued pending)) →
      p ≡ record a.pending { timers = placed no_later (timer_of id due) a.pending.timers } → Timed old (parts t a.priority_list p) id due
  sets_timer t p due ordered state ch pending_is = subst (λ x. Timed x (parts t a.priority_list p) id due) same
      (subst (λ x. Timed a (parts t a.priority_list x) id due) (sym pending_is) (record {
        whole = whole_from a (parts t a.priority_list more) id q w ch refl (follows_same a w t id q ch (ap is_some o.is) refl (sym (ap is_ready o.is))).enters
            (runs_placed a w t id q ch due unset refl);
        times = record { limit = ch.limit; stands = stands };
      }))
    where
      q : Option Machine_request
      q = Some (Machine_object Machine_issued pending)

      o : IsIn (request_at a.table id) Machine_idle
      o = state_here a same w id Machine_idle state

      unset : due_of id a.pending.timers ≡ None
      unset = no_timer a w t id q ch (ap is_pending o.is)

      more : Pending
      more = record a.pending { timers = placed no_later (timer_of id due) a.pending.timers }

      stands : (asked : ℕ → Option Request) (queues : ℕ → Option Bool) (r : Request) (order : ℕ) → RefinesRequests a asked queues →
          asked id ≡ Some r → IsNewestTimer order asked → RefinesRequests (parts t a.priority_list more) (asked_anew id (Some (timed_for due order r)) asked) queues
      stands asked queues r order s here newest =
          let now = asked_anew id (Some (timed_for due order r)) asked in
          let l = (follows_same a w t id q ch (ap is_some o.is) refl (sym (ap is_ready o.is))).listed asked now
          (kept_anew id r (timed_for due order r) asked here (refl, refl)) (record { priorities = s.priorities; order = s.order }) in
          let u = timely_placed asked id due order r a.pending.timers a.pending.limit
          (record { due_times = s.due_times; sooner = s.sooner }) unset (subst (λ x. AreInOrder x.pending) (sym same) ordered) newest in
          record {
            reports = reports_anew a.table t id q (Some (timed_for due order r)) asked queues ch
                (object_reports Machine_idle Machine_issued o.status pending r (timed_for due order r) (queues id) (λ phase status. (refl, refl))
                (subst (λ h. RequestAgrees h (Some r) (queues id)) o.is (subst (λ x. RequestAgrees (request_at a.table id) x (queues id)) here (s.reports id)))) s.reports;
            priorities = l.priorities;
            order = l.order;
            due_times = u.due_times;
            sooner = u.sooner;
          }

  -- an object that is enlisted has a place among the timers
  pub has_place : (s : RequestState) → IsSound old.priority_list → state_at old.table id ≡ Some s → id < a.pending.limit
  has_place s ordered state =
      let o = state_here a same w id s state in
      let found = standing (λ e. e.id) id (λ e. e.id < a.priority_list.limit) a.priority_list.entries (w.enlisted id ∙ ap is_some o.is)
      (subst (λ x. IsSound x.priority_list) (sym same) ordered).below in
      subst (λ n. id < n) (w.places ∙ sym w.due_times) (subst (λ n. n < a.priority_list.limit) found.number_is found.holds)
