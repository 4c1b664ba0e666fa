-- What the enlisted objects wait for, and how many signals their requests hold.
use Rattle.std.specs.Prelude.{◌≡◌, ◌≢◌, ◌≤◌, ℕ, ℤ, negsuc, Bool, true, false, cond, not, List, Option, Some, None, IsSome, count_by, slice_index_or}
use Rattle.std.specs.Ordering.{int_eq}
use Rattle.aom_scheduler.specs.declared.request.RequestState.{RequestState}
use Rattle.aom_scheduler.specs.declared.request.RequestState.TheVariants.{Idle, Issued, Active, Cancelling}
use Rattle.aom_scheduler.specs.declared.request.Request.{Request}
use Rattle.aom_scheduler.specs.declared.request.Request.TheVariants.{Object, Server}

-- the request or nothing at each number, and the number below which there is a place for one
pub record Table : Type 0 where
  pub slots : List (Option Request)
  pub limit : ℕ

-- the request of the object with a number, if that object is enlisted
abbrev pub request_at : Table → ℕ → Option Request
request_at t id = slice_index_or t.slots id None

-- an object with the number is enlisted
abbrev pub IsEnlisted : Table → ℕ → Type 0
IsEnlisted t id = IsSome (request_at t id)

-- the state of an active object's request
abbrev pub state_of : Option Request → Option RequestState
state_of (Some (Object state status)) = Some state
state_of other = None

-- the state of the active object with a number
abbrev pub state_at : Table → ℕ → Option RequestState
state_at t id = state_of (request_at t id)

-- the status of an active object's request
abbrev pub status_of : Option Request → Option ℤ
status_of (Some (Object state status)) = Some status
status_of other = None

-- the status of the active object with a number
abbrev pub status_at : Table → ℕ → Option ℤ
status_at t id = status_of (request_at t id)

-- a server is enlisted
abbrev pub is_server : Option Request → Bool
is_server (Some (Server has_signal)) = true
is_server other = false

-- the status of a request that is not completed
abbrev pub pending : ℤ
pending = negsuc 2147483646

-- the status that a code is kept as: a completed request is never pending, so that code is kept as -2
abbrev pub kept_code : ℤ → ℤ
kept_code code = cond (int_eq code pending) (negsuc 1) code

-- an active object's request was issued, and is not completed
abbrev pub is_pending : Option Request → Bool
is_pending (Some (Object Issued status)) = int_eq status pending
is_pending (Some (Object Active status)) = int_eq status pending
is_pending (Some (Object Cancelling status)) = int_eq status pending
is_pending _ = false

-- an active object's request that is completed and not taken holds a signal, and so does a server's while its queue is not empty
abbrev pub holds_signal : Option Request → Bool
holds_signal None = false
holds_signal (Some (Object Idle status)) = false
holds_signal (Some (Object state status)) = not (is_pending (Some (Object state status)))
holds_signal (Some (Server has_signal)) = has_signal

-- a dispatch may begin: of an active object with a status, or of a server with a signal
abbrev pub is_ready : Option Request → Bool
is_ready (Some (Object Active status)) = not (int_eq status pending)
is_ready (Some (Server has_signal)) = has_signal
is_ready _ = false

-- how many signals a request holds: one or none
abbrev pub held : Option Request → ℕ
held r = cond (holds_signal r) 1 0

-- how many signals there are
abbrev pub signals : Table → ℕ
signals t = count_by holds_signal t.slots

-- an active object's request in that state
abbrev pub with_state : RequestState → Option Request → Option Request
with_state to (Some (Object state status)) = Some (Object to status)
with_state to other = other

-- an active object's request with that status
abbrev pub with_status : ℤ → Option Request → Option Request
with_status to (Some (Object state status)) = Some (Object state to)
with_status to other = other

-- the request without its signal: an active object is idle, and keeps its status
abbrev pub taken : Option Request → Option Request
taken None = None
taken (Some (Object state status)) = Some (Object Idle status)
taken (Some (Server has_signal)) = Some (Server false)

-- the new table has this at the number, and all else as before
pub record Changes (old new : Table) (id : ℕ) (request : Option Request) : Type 0 where
  pub here : request_at new id ≡ request
  pub others : (other : ℕ) → other ≢ id → request_at new other ≡ request_at old other
  pub limit : new.limit ≡ old.limit

-- the active object's request is in that state then, and there are as many signals
pub record Turns (old new : Table) (id : ℕ) (to : RequestState) : Type 0 where
  pub changed : Changes old new id (with_state to (request_at old id))
  pub signals : signals new ≡ signals old

-- so many signals are counted as there are, and the numbers with a place are below 4,096
pub record IsCounted (count : ℕ) (t : Table) : Type 0 where
  pub signals : count ≡ signals t
  pub places : t.limit ≤ 4096
