-- What each call makes of the requests of the checked machine.
use Rattle.std.specs.Prelude.{◌≡◌, ◌≢◌, ◌<◌, ◌≤◌, ◌==◌, ℕ, ℤ, pos, Bool, true, false, cond, ◌||◌, List, Option, Some, None, option_map}
use Rattle.aom_scheduler.specs.Requests.{is_server, request_at}
use Rattle.aom_scheduler.specs.declared.request.RequestState.TheVariants.{Active as Machine_active, Cancelling as Machine_cancelling, Aborted as Machine_aborted}
use Rattle.aom_scheduler.specs.declared.request.Request.{Request as Machine_request}
use Rattle.aom_scheduler.specs.declared.request.Request.TheVariants.{Object as Machine_object}
use Rattle.aom_semantics.specs.Requests.{pending, taken_up, timed_out}
use Rattle.aom_semantics.specs.Places.{Cell, Idle, Issued, Request, NoDuplicates, Timer, requested, service_of}
use Rattle.aom_semantics.specs.Servers.{has_more}
use Rattle.aom_semantics.specs.World.{first_due, goes_before, is_ready, is_sooner, signal_count}
use Rattle.aom_active_objects.specs.Agrees.{Active, RefinesRequests, timer_in}

-- ---- tests on a request of the table

-- its object waits for it
abbrev pub is_waited_for : Option Machine_request → Bool
is_waited_for (Some (Machine_object Machine_active status)) = true
is_waited_for _ = false

-- it is being cancelled
abbrev pub is_being_cancelled : Option Machine_request → Bool
is_being_cancelled (Some (Machine_object Machine_cancelling status)) = true
is_being_cancelled (Some (Machine_object Machine_aborted status)) = true
is_being_cancelled _ = false

-- either of the two
abbrev pub is_busy : Option Machine_request → Bool
is_busy (Some (Machine_object Machine_active status)) = true
is_busy (Some (Machine_object Machine_cancelling status)) = true
is_busy (Some (Machine_object Machine_aborted status)) = true
is_busy _ = false

-- ---- changes

-- another request under that number
abbrev pub asked_anew : ℕ → Option Request → (ℕ → Option Request) → ℕ → Option Request
asked_anew id r asked n = cond (id == n) r (asked n)

-- something waits in the queue of that server, or nothing
abbrev pub requeued : ℕ → Option Bool → (ℕ → Option Bool) → ℕ → Option Bool
requeued id waits queues n = cond (id == n) waits (queues n)

-- the request of the object becomes this of it, and nothing else changes
pub record Makes (old new : Active) (id : ℕ) (f : Request → Request) : Type 0 where
  pub limit : new.table.limit ≡ old.table.limit
  pub stands : (asked : ℕ → Option Request) (queues : ℕ → Option Bool) (r : Request) → RefinesRequests old asked queues → asked id ≡ Some r → RefinesRequests new (asked_anew id (Some (f r)) asked) queues

-- the object is enlisted no more
pub record Removes (old new : Active) (id : ℕ) : Type 0 where
  pub limit : new.table.limit ≡ old.table.limit
  pub stands : (asked : ℕ → Option Request) (queues : ℕ → Option Bool) → RefinesRequests old asked queues → RefinesRequests new (asked_anew id None asked) queues

-- something waits in the queue of the server from then on, or nothing does
pub record Asks (old new : Active) (id : ℕ) (waits : Bool) : Type 0 where
  pub limit : new.table.limit ≡ old.table.limit
  pub stands : (asked : ℕ → Option Request) (queues : ℕ → Option Bool) → RefinesRequests old asked queues → RefinesRequests new asked (requeued id (Some waits) queues)

-- an order after all that are enlisted
abbrev pub IsNewest : ℕ → (ℕ → Option Request) → Type 0
IsNewest order asked = (n : ℕ) (r : Request) → asked n ≡ Some r → r.order < order

-- the request of an object as it is enlisted
abbrev pub enlisted_with : ℕ → ℤ → Request
enlisted_with order priority = record { order = order; priority = priority; phase = Idle; status = pos 0; timer = None; token = None }

-- the object is enlisted, after all that are; a server with nothing in its queue
pub record Enlists (old new : Active) (id : ℕ) (priority : ℤ) (waits : Option Bool) : Type 0 where
  pub limit : new.table.limit ≡ old.table.limit
  pub stands : (asked : ℕ → Option Request) (queues : ℕ → Option Bool) (order : ℕ) → RefinesRequests old asked queues → IsNewest order asked → queues id ≡ waits
      → RefinesRequests new (asked_anew id (Some (enlisted_with order priority)) asked) queues

-- an order after all timers that run
abbrev pub IsNewestTimer : ℕ → (ℕ → Option Request) → Type 0
IsNewestTimer order asked = (n : ℕ) (t : Timer) → timer_in (asked n) ≡ Some t → t.order < order

-- a request as a timer is set for it, as `issued_by` of a timer makes it
abbrev pub timed_for : (due order : ℕ) → Request → Request
timed_for due order r = record r { phase = Issued; status = pending; timer = Some (record { due = due; order = order }); token = None }

-- a timer is set for the request of the object, after all that run
pub record Times (old new : Active) (id due : ℕ) : Type 0 where
  pub limit : new.table.limit ≡ old.table.limit
  pub stands : (asked : ℕ → Option Request) (queues : ℕ → Option Bool) (r : Request) (order : ℕ) → RefinesRequests old asked queues → asked id ≡ Some r → IsNewestTimer order asked
      → RefinesRequests new (asked_anew id (Some (timed_for due order r)) asked) queues

-- a request as it begins at a native with that status, as `issued_by` of a native makes it
abbrev pub begun_with : ℤ → Request → Request
begun_with status r = record r { phase = Issued; status = status; timer = None; token = None }

-- ---- the timer that is due first

-- the timer of that object is due by now, and sooner than all others
pub record IsFirstDue (now id : ℕ) (asked : ℕ → Option Request) : Type 0 where
  pub timer : Timer
  pub runs : timer_in (asked id) ≡ Some timer
  pub due : timer.due ≤ now
  pub first : (n : ℕ) (t : Timer) → n ≢ id → timer_in (asked n) ≡ Some t → is_sooner timer t ≡ true

-- no timer is due by now
abbrev pub NoneDue : ℕ → (ℕ → Option Request) → Type 0
NoneDue now asked = (n : ℕ) (t : Timer) → timer_in (asked n) ≡ Some t → now < t.due

-- the first timer that is due by now completes the request of its object
abbrev pub Completes : ℕ → Active → Active → Option ℕ → Type 0
Completes now old new None = (new ≡ old) × ((asked : ℕ → Option Request) (queues : ℕ → Option Bool) → RefinesRequests old asked queues → NoneDue now asked)
Completes now old new (Some id) = Makes old new id timed_out × ((asked : ℕ → Option Request) (queues : ℕ → Option Bool) → RefinesRequests old asked queues → IsFirstDue now id asked)

-- the checked machine's first timer is due then, or there is none
abbrev pub IsNextDue : Active → Option ℕ → Type 0
IsNextDue a due = (cs : List Cell) (queues : ℕ → Option Bool) → NoDuplicates cs → RefinesRequests a (requested cs) queues → due ≡ option_map (λ x. x.timer.due) (first_due cs)

-- ---- the pick, and signals

-- it is a server in whose queue something waits
abbrev pub is_wanted : Option Bool → Bool
is_wanted None = false
is_wanted (Some waits) = waits

-- the request is completed, or something waits in the queue
abbrev pub goes : Request → Option Bool → Bool
goes r waits = is_ready r || is_wanted waits

-- the object is ready, and goes before all others that are
pub record IsFirstReady (id : ℕ) (asked : ℕ → Option Request) (queues : ℕ → Option Bool) : Type 0 where
  pub request : Request
  pub stands : asked id ≡ Some request
  pub ready : goes request (queues id) ≡ true
  pub first : (n : ℕ) (r : Request) → n ≢ id → asked n ≡ Some r → goes r (queues n) ≡ true → goes_before request r ≡ true

-- no object is ready
abbrev pub NoneReady : (ℕ → Option Request) → (ℕ → Option Bool) → Type 0
NoneReady asked queues = (n : ℕ) (r : Request) → asked n ≡ Some r → goes r (queues n) ≡ false

-- an object that is picked is idle, and its signal is taken; a server stays as it is until something is taken from its queue
abbrev pub TakesUp : (serves : Bool) → Active → Active → ℕ → Type 0
TakesUp true old new id = new ≡ old
TakesUp false old new id = Makes old new id taken_up

-- so is the first that is ready
abbrev pub Picks : Active → Active → Option ℕ → Type 0
Picks old new None = (new ≡ old) × ((asked : ℕ → Option Request) (queues : ℕ → Option Bool) → RefinesRequests old asked queues → NoneReady asked queues)
Picks old new (Some id) = TakesUp (is_server (request_at old.table id)) old new id × ((asked : ℕ → Option Request) (queues : ℕ → Option Bool) → RefinesRequests old asked queues → IsFirstReady id asked queues)

-- these are the queues in which something waits
abbrev pub AreWanted : (ℕ → Option Bool) → List Cell → Type 0
AreWanted queues cs = (n : ℕ) → is_wanted (queues n) ≡ has_more (service_of cs n).queue

-- the checked machine has as many signals
abbrev pub IsSignalCount : Active → ℕ → Type 0
IsSignalCount a count = (cs : List Cell) (queues : ℕ → Option Bool) → NoDuplicates cs → AreWanted queues cs → RefinesRequests a (requested cs) queues → count ≡ signal_count cs
