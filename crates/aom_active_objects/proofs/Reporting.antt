-- What the requests that the active objects stand for tell of the table: what each call requires of it.
use Rattle.std.proofs.lemmas.Bool.Decides.{nat_tests}
use Rattle.std.proofs.Common.{◌≡◌, ℕ, Bool, false, true, Option, Some, None, subst, arith}
use Rattle.std.specs.Prelude.{is_some}
use Rattle.std.specs.Ordering.{int_eq}
use Rattle.aom_scheduler.specs.Requests.{is_pending, is_server, pending, request_at, state_at, state_of, status_at, status_of}
use Rattle.aom_scheduler.specs.declared.request.RequestState.{RequestState}
use Rattle.aom_scheduler.specs.declared.request.RequestState.TheVariants.{Idle as Machine_idle, Issued as Machine_issued, Active as Machine_active}
use Rattle.aom_scheduler.specs.declared.request.RequestState.TheVariants.{Cancelling as Machine_cancelling, Aborted as Machine_aborted}
use Rattle.aom_scheduler.specs.declared.request.Request.{Request as Machine_request}
use Rattle.aom_semantics.specs.Requests as Requests
use Rattle.aom_semantics.specs.Requests.{in_phase, is_active, is_cancelling}
use Rattle.aom_semantics.specs.Places.{Aborted, Active as Waiting, Cancelling, Idle, Issued, Phase, Request}
use Rattle.aom_active_objects.specs.Agrees.{Active, RefinesRequests, RequestAgrees}
use Rattle.aom_active_objects.specs.Meanings.{is_being_cancelled, is_busy, is_waited_for}
use Rattle.aom_active_objects.specs.Turns.{StatusIsDetermined}

-- ---- one request

-- the state of a phase
abbrev pub held_state : Phase → RequestState
held_state phase =
    elim phase [ Idle ↦ Machine_idle | Issued ↦ Machine_issued | Waiting ↦ Machine_active | Cancelling ↦ Machine_cancelling | Aborted ↦ Machine_aborted ]

reports_some : (h : Option Machine_request) (o : Option Request) (waits : Option Bool) → RequestAgrees h o waits → is_some h ≡ is_some o
reports_some h o waits reports = grind arith

reports_none : (h : Option Machine_request) (waits : Option Bool) → RequestAgrees h None waits → h ≡ None
reports_none h waits reports = grind arith

-- whether it is a server's
reports_server : (h : Option Machine_request) (r : Request) (waits : Option Bool) → RequestAgrees h (Some r) waits → is_server h ≡ is_some waits
reports_server h r waits reports = grind arith

-- an object's, which no server is
reports_state : (h : Option Machine_request) (r : Request) → RequestAgrees h (Some r) None → state_of h ≡ Some (held_state r.phase)
reports_state h r reports = grind arith

reports_status : (h : Option Machine_request) (r : Request) → RequestAgrees h (Some r) None → status_of h ≡ Some r.status
reports_status h r reports = grind arith

reports_over : (h : Option Machine_request) (r : Request) (waits : Option Bool) → RequestAgrees h (Some r) waits → int_eq r.status pending ≡ false → is_pending h ≡ false
reports_over h r waits reports over = grind arith

-- the tests on a phase
reports_active : (h : Option Machine_request) (o : Option Request) (waits : Option Bool) → RequestAgrees h o waits → is_waited_for h ≡ in_phase is_active o
reports_active h o waits reports = grind arith

reports_cancelling : (h : Option Machine_request) (o : Option Request) (waits : Option Bool) → RequestAgrees h o waits → is_being_cancelled h ≡ in_phase is_cancelling o
reports_cancelling h o waits reports = grind arith

reports_busy : (h : Option Machine_request) (o : Option Request) (waits : Option Bool) → RequestAgrees h o waits → is_busy h ≡ in_phase Requests.is_busy o
reports_busy h o waits reports = grind arith

-- ---- all of them

module _ (a : Active) (asked : ℕ → Option Request) (queues : ℕ → Option Bool) (s : RefinesRequests a asked queues) (id : ℕ) where
  pub reported_enlisted : is_some (request_at a.table id) ≡ is_some (asked id)
  reported_enlisted = reports_some (request_at a.table id) (asked id) (queues id) (s.reports id)

  pub reported_fresh : asked id ≡ None → request_at a.table id ≡ None
  reported_fresh none = reports_none (request_at a.table id) (queues id) (subst (λ o. RequestAgrees (request_at a.table id) o (queues id)) none (s.reports id))

  pub reported_server : (r : Request) → asked id ≡ Some r → is_server (request_at a.table id) ≡ is_some (queues id)
  reported_server r is = reports_server (request_at a.table id) r (queues id) (subst (λ o. RequestAgrees (request_at a.table id) o (queues id)) is (s.reports id))

  reports_object : (r : Request) → asked id ≡ Some r → queues id ≡ None → RequestAgrees (request_at a.table id) (Some r) None
  reports_object r is plain = grind (arith, nat_tests)

  pub reported_state : (r : Request) → asked id ≡ Some r → queues id ≡ None → state_at a.table id ≡ Some (held_state r.phase)
  reported_state r is plain = reports_state (request_at a.table id) r (reports_object r is plain)

  pub reported_status : (r : Request) → asked id ≡ Some r → queues id ≡ None → status_at a.table id ≡ Some r.status
  reported_status r is plain = reports_status (request_at a.table id) r (reports_object r is plain)

  pub reported_over : (r : Request) → asked id ≡ Some r → int_eq r.status pending ≡ false → is_pending (request_at a.table id) ≡ false
  reported_over r is over = reports_over (request_at a.table id) r (queues id) (subst (λ o. RequestAgrees (request_at a.table id) o (queues id)) is (s.reports id)) over

  pub reported_active : is_waited_for (request_at a.table id) ≡ in_phase is_active (asked id)
  reported_active = reports_active (request_at a.table id) (asked id) (queues id) (s.reports id)

  pub reported_cancelling : is_being_cancelled (request_at a.table id) ≡ in_phase is_cancelling (asked id)
  reported_cancelling = reports_cancelling (request_at a.table id) (asked id) (queues id) (s.reports id)

  pub reported_busy : is_busy (request_at a.table id) ≡ in_phase Requests.is_busy (asked id)
  reported_busy = reports_busy (request_at a.table id) (asked id) (queues id) (s.reports id)

-- the functions by which they are told do not matter, nor the queue of what is not enlisted
queue_follows : (h : Option Machine_request) (o : Option Request) (v waits : Option Bool) → (is_some o ≡ true → v ≡ waits) → RequestAgrees h o v → RequestAgrees h o waits
queue_follows h o v waits same reports = grind arith

pub status_is_determined : StatusIsDetermined
status_is_determined a asked other queues then same waits s = search (arith, nat_tests, queue_follows)
