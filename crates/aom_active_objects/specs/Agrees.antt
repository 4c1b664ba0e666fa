-- The active objects of a machine, and when they stand for the requests of the checked machine.
use Rattle.std.specs.Prelude.{◌≡◌, ℕ, ℤ, Bool, true, not, cond, is_some, List, [], Option, Some, None, option_map, All, AllPairs, replicate}
use Rattle.std.specs.Ordering.{int_eq}
use Rattle.aom_scheduler.specs.Requests.{Table, request_at, is_pending, is_ready, pending}
use Rattle.aom_scheduler.specs.declared.request.RequestState.{RequestState}
use Rattle.aom_scheduler.specs.declared.request.RequestState.TheVariants.{Idle as Machine_idle, Issued as Machine_issued, Active as Machine_active, Cancelling as Machine_cancelling, Aborted as Machine_aborted}
use Rattle.aom_scheduler.specs.declared.request.Request.{Request as Machine_request}
use Rattle.aom_scheduler.specs.declared.request.Request.TheVariants.{Object as Machine_object, Server as Machine_server}
use Rattle.aom_scheduler.specs.PriorityList.{PriorityList, place}
use Rattle.aom_scheduler.specs.Pending.{Pending, due_of}
use Rattle.aom_image.specs.Image.{Image}
use Rattle.aom_semantics.specs.Places.{Cell, Object, Phase, Idle, Issued, Active as Waiting, Cancelling, Aborted, Request, Service, Timer, named, service_of}
use Rattle.aom_semantics.specs.Servers.{has_more, is_server}
use Rattle.aom_semantics.specs.World.{goes_before, is_sooner}

-- what each object waits for, the order of the picks, and the timers
pub record Active : Type 0 where
  pub table : Table
  pub priority_list : PriorityList
  pub pending : Pending

-- no object, and a place for each number below the limit
abbrev pub none_enlisted_yet : ℕ → Active
none_enlisted_yet limit = record { table = record { slots = replicate limit None; limit = limit }; priority_list = record { entries = []; limit = limit }; pending = record { timers = []; limit = limit } }

-- ---- the three hang together

-- an active object's request, completed if it is aborted, or a server's
abbrev pub may_stand : Option Machine_request → Bool
may_stand None = true
may_stand (Some (Machine_object Machine_aborted status)) = not (int_eq status pending)
may_stand (Some (Machine_object _ status)) = true
may_stand (Some (Machine_server has_signal)) = true

-- who has a request has an entry, which is ready as the request is, and timers run for requests that are pending
pub record IsWhole (a : Active) : Type 0 where
  pub places : a.priority_list.limit ≡ a.table.limit
  pub due_times : a.pending.limit ≡ a.table.limit
  pub requests : (n : ℕ) → may_stand (request_at a.table n) ≡ true
  pub enlisted : (n : ℕ) → is_some (place n a.priority_list) ≡ is_some (request_at a.table n)
  pub marks : All (λ e. e.is_ready ≡ is_ready (request_at a.table e.id)) a.priority_list.entries
  pub waits : (n : ℕ) → is_some (due_of n a.pending.timers) ≡ true → is_pending (request_at a.table n) ≡ true

-- ---- and stand for the requests of the checked machine, by name

abbrev pub phase_of : RequestState → Phase
phase_of state = elim state [ Machine_idle ↦ Idle | Machine_issued ↦ Issued | Machine_active ↦ Waiting | Machine_cancelling ↦ Cancelling | Machine_aborted ↦ Aborted ]

-- whether something waits in the queue of what stands there, if it is a server
abbrev pub queue_in : Image → Option Object → Service → Option Bool
queue_in p None v = None
queue_in p (Some o) v = cond (is_server p o.thing) (Some (has_more v.queue)) None

abbrev pub queued : Image → List Cell → ℕ → Option Bool
queued p cs n = queue_in p (named cs n) (service_of cs n)

-- the same request, as far as the table tells; a server makes none, and has a signal while something waits in its queue
abbrev pub RequestAgrees : Option Machine_request → Option Request → Option Bool → Type 0
RequestAgrees None None waits = Unit {0}
RequestAgrees None (Some r) waits = ⊥
RequestAgrees (Some h) None waits = ⊥
RequestAgrees (Some (Machine_object state status)) (Some r) None = (phase_of state ≡ r.phase) × (status ≡ r.status)
RequestAgrees (Some (Machine_object state status)) (Some r) (Some waits) = ⊥
RequestAgrees (Some (Machine_server has_signal)) (Some r) None = ⊥
RequestAgrees (Some (Machine_server has_signal)) (Some r) (Some waits) = (r.phase ≡ Idle) × (has_signal ≡ waits)

-- a request of that priority
abbrev pub HasPriority : ℤ → Option Request → Type 0
HasPriority priority None = ⊥
HasPriority priority (Some r) = r.priority ≡ priority

-- two requests, of which the first goes before the second
abbrev pub GoesBefore : Option Request → Option Request → Type 0
GoesBefore None q = ⊥
GoesBefore (Some r) None = ⊥
GoesBefore (Some r) (Some q) = goes_before r q ≡ true

-- the timer that runs for a request
abbrev pub timer_in : Option Request → Option Timer
timer_in None = None
timer_in (Some r) = r.timer

-- when it is due
abbrev pub due_in : Option Request → Option ℕ
due_in r = option_map (λ t. t.due) (timer_in r)

-- two timers, of which the first is sooner than the second
abbrev pub ComesSooner : Option Timer → Option Timer → Type 0
ComesSooner None u = ⊥
ComesSooner (Some t) None = ⊥
ComesSooner (Some t) (Some u) = is_sooner t u ≡ true

abbrev pub IsSooner : Option Request → Option Request → Type 0
IsSooner r q = ComesSooner (timer_in r) (timer_in q)

-- these are the requests of the checked machine and the queues of its servers, and the entries and the timers stand in its order
pub record RefinesRequests (a : Active) (asked : ℕ → Option Request) (queues : ℕ → Option Bool) : Type 0 where
  pub reports : (n : ℕ) → RequestAgrees (request_at a.table n) (asked n) (queues n)
  pub priorities : All (λ e. HasPriority e.priority (asked e.id)) a.priority_list.entries
  pub order : AllPairs (λ e f. GoesBefore (asked e.id) (asked f.id)) a.priority_list.entries
  pub due_times : (n : ℕ) → due_of n a.pending.timers ≡ due_in (asked n)
  pub sooner : AllPairs (λ t u. IsSooner (asked t.id) (asked u.id)) a.pending.timers
