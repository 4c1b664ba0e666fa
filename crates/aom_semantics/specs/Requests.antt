-- Instructions on the request of what a method works on.
use Rattle.std.specs.Prelude.{ℕ, suc, ◌+◌, ◌-◌, ◌^◌, min, max, ℤ, pos, negsuc, Bool, true, false, ◌&&◌, cond, not, List, [], ◌∷◌, Option, Some, None, is_none, is_some}
use Rattle.std.specs.Ordering.{int_eq}
use Rattle.aom_image.specs.Image.{Image}
use Rattle.aom_image.specs.Views.{method_role}
use Rattle.aom_image.specs.declared.class.ClassKind.{ClassKind}
use Rattle.aom_image.specs.declared.class.ClassKind.TheVariants.{Active as An_active}
use Rattle.aom_image.specs.declared.class.Provider.{Provider}
use Rattle.aom_image.specs.declared.class.Provider.TheVariants.{Own, Timer as A_timer, Native, Token as A_token}
use Rattle.aom_image.specs.declared.method.Thing.{Thing}
use Rattle.aom_image.specs.declared.method.Thing.TheVariants.{Object as An_object_of, Message}
use Rattle.aom_link_conditions.specs.Roles.{role_of}
use Rattle.aom_image.specs.declared.method.Role.{Role}
use Rattle.aom_image.specs.declared.method.Role.TheVariants.{Cancel as Cancels}
use Rattle.aom_roles.specs.Roles.{is_cancel}
use Rattle.aom_roles.specs.Kinds.{is_active_kind, is_issuing_kind, is_listed_kind}
use Rattle.aom_roles.specs.Shapes.{kind_of}
use Rattle.aom_semantics.specs.Places.{Cell, Phase, Idle, Issued, Active, Cancelling, Aborted, Request, Timer, requested, set_request}
use Rattle.aom_semantics.specs.State.{AddedWrong, AlreadyActive, CancelHang, Frame, Receiver, Static, AtRoot, Inside, Need, RequestOverlap, State, Task, WrongKind}
use Rattle.aom_semantics.specs.Words.{needs_unowning, needs_word}

-- the kind of class of a thing
abbrev pub thing_kind : Image → Thing → Option ClassKind
thing_kind p (An_object_of c) = kind_of p (Some c)
thing_kind p Message = kind_of p None

-- of what a frame works on
abbrev pub receiver_kind : Image → Receiver → Option ClassKind
receiver_kind p Static = None
receiver_kind p AtRoot = None
receiver_kind p (Inside o from) = thing_kind p o.thing

-- its request
abbrev pub own_request : List Cell → Receiver → Option Request
own_request cs Static = None
own_request cs AtRoot = None
own_request cs (Inside o from) = requested cs o.name

-- the cells with another request of it
abbrev pub request_updated : List Cell → Receiver → Option Request → List Cell
request_updated cs Static r = cs
request_updated cs AtRoot r = cs
request_updated cs (Inside o from) r = set_request o.name r cs

-- ---- codes

-- the status of a request that is not completed, KRequestPending
abbrev pub pending : ℤ
pending = negsuc 2147483646

-- what a completion with that code records: KErrGeneral in the place of a pending status
abbrev pub recorded : ℤ → ℤ
recorded code = cond (int_eq code pending) (negsuc 1) code

-- the code of a request that is cancelled, KErrCancel
abbrev pub cancelled_code : ℤ
cancelled_code = negsuc 2

-- ---- tests on the request of an object

abbrev pub status_of : Option Request → ℤ
status_of None = pos 0
status_of (Some r) = r.status

abbrev pub in_phase : (Phase → Bool) → Option Request → Bool
in_phase test None = false
in_phase test (Some r) = test r.phase

abbrev pub is_idle : Phase → Bool
is_idle Idle = true
is_idle _ = false

abbrev pub is_issued : Phase → Bool
is_issued Issued = true
is_issued _ = false

abbrev pub is_active : Phase → Bool
is_active Active = true
is_active _ = false

abbrev pub is_aborted : Phase → Bool
is_aborted Aborted = true
is_aborted _ = false

-- being cancelled
abbrev pub is_cancelling : Phase → Bool
is_cancelling Cancelling = true
is_cancelling Aborted = true
is_cancelling _ = false

-- it is aborted and has no code
abbrev pub is_unanswered : Option Request → Bool
is_unanswered None = false
is_unanswered (Some r) = is_aborted r.phase && int_eq r.status pending

-- a request is made that is not waited for, or it is being cancelled
abbrev pub is_unsettled : Phase → Bool
is_unsettled Idle = false
is_unsettled Active = false
is_unsettled _ = true

-- waiting, or being cancelled
abbrev pub is_busy : Phase → Bool
is_busy Idle = false
is_busy Issued = false
is_busy _ = true

-- ---- what becomes of a request

-- the order of the next object to be enlisted, after all that are
abbrev pub order_after : Option Request → ℕ
order_after None = 0
order_after (Some r) = suc r.order

abbrev pub next_order : List Cell → ℕ
next_order [] = 0
next_order (c ∷ cs) = max (order_after c.request) (next_order cs)

abbrev pub first_request : List Cell → ℤ → Request
first_request cs priority = record { order = next_order cs; priority = priority; phase = Idle; status = pos 0; timer = None; token = None }

-- the order of the next timer, after all that run
abbrev pub timer_after : Option Timer → ℕ
timer_after None = 0
timer_after (Some t) = suc t.order

abbrev pub request_after : Option Request → ℕ
request_after None = 0
request_after (Some r) = timer_after r.timer

abbrev pub next_timer : List Cell → ℕ
next_timer [] = 0
next_timer (c ∷ cs) = max (request_after c.request) (next_timer cs)

-- an interval in microseconds, where a negative one counts as none
abbrev pub interval : ℤ → ℕ
interval (pos n) = n
interval (negsuc n) = 0

-- times stay at their greatest value
abbrev pub due_after : ℕ → ℤ → ℕ
due_after clock a = min (clock + interval a) (2 ^ 64 - 1)

-- what a request is made with: the time, the order of the next timer, and the status with which a native begins it
pub record Asking : Type 0 where
  pub clock : ℕ
  pub order : ℕ
  pub started : ℤ

-- a request that is completed as it is made
abbrev pub completed_at_once : ℤ → Request → Request
completed_at_once code r = record r { phase = Issued; status = recorded code; timer = None; token = None }

-- a request is made at a provider: one's own completes at once, with that code, a timer once that interval is over, and a native as it answers
abbrev pub issued_by : Provider → Asking → ℤ → Request → Request
issued_by Own asking a r = completed_at_once a r
issued_by A_timer asking a r = record r { phase = Issued; status = pending; timer = Some (record { due = due_after asking.clock a; order = asking.order }); token = None }
issued_by (Native n) asking a r = record r { phase = Issued; status = asking.started; timer = None; token = None }
-- no request is made so at a token: it is handed out
issued_by A_token asking a r = completed_at_once a r

abbrev pub issued_of : Option ClassKind → Asking → ℤ → Request → Request
issued_of (Some (An_active provider)) asking a r = issued_by provider asking a r
issued_of _ asking a r = r

-- of an enlisted object
abbrev pub on_request : (Request → Request) → Option Request → Option Request
on_request f None = None
on_request f (Some r) = Some (f r)

abbrev pub waits : Request → Request
waits r = record r { phase = Active }

-- its cancel begins
abbrev pub cancelling : Request → Request
cancelling r = record r { phase = Cancelling }

-- and is over: the one signal of a request that is cancelled is taken
abbrev pub cancelled : Request → Request
cancelled r = record r { phase = Idle }

-- a request that is still pending is completed as cancelled, its timer goes, and its token is void
abbrev pub aborted : Request → Request
aborted r = record r { phase = Aborted; status = cond (int_eq r.status pending) cancelled_code r.status; timer = None; token = None }

-- its object is picked
abbrev pub taken_up : Request → Request
taken_up r = record r { phase = Idle }

-- it is completed with that code
abbrev pub completed_with : ℤ → Request → Request
completed_with code r = record r { status = code; timer = None; token = None }

-- its timer completes it, with KErrNone
abbrev pub timed_out : Request → Request
timed_out r = completed_with (pos 0) r

-- ---- methods that are found by their roles

-- the method of the class of a thing in that role
abbrev pub part_of : Image → Role → Thing → Option ℕ
part_of p role (An_object_of c) = role_of p c role
part_of p role Message = None

-- the one that cancels what counts as that class
abbrev pub cancel_of : Image → Option ℕ → Option ℕ
cancel_of p None = None
cancel_of p (Some c) = role_of p c Cancels

-- a method's object counts as it does for the method
abbrev pub cancel_method : Image → Frame → Option ℕ
cancel_method p fr = cancel_of p fr.view

-- the cells as it begins
abbrev pub begun_cells : Frame → List Cell → List Cell
begun_cells fr cs = request_updated cs fr.receiver (on_request cancelling (own_request cs fr.receiver))

-- the cells once the method of a frame is over
abbrev pub ended_cells : Image → Frame → List Cell → List Cell
ended_cells p fr cs = cond (is_cancel (method_role p fr.method)) (request_updated cs fr.receiver (on_request cancelled (own_request cs fr.receiver))) cs

-- ---- the needs

module _ (p : Image) (fr : Frame) (ts : List Task) (s : State) where
  -- what the frame works on
  abbrev pub own : Option Request
  own = own_request s.cells fr.receiver

  abbrev pub needs_active : Need
  needs_active = (is_active_kind (receiver_kind p fr.receiver), WrongKind)

  -- its requests are none that tokens complete
  abbrev pub needs_issuing : Need
  needs_issuing = (is_issuing_kind (receiver_kind p fr.receiver), WrongKind)

  abbrev pub needs_listed : Need
  needs_listed = (is_listed_kind (receiver_kind p fr.receiver), WrongKind)

  -- it is enlisted
  abbrev pub needs_added : Need
  needs_added = (is_some own, AddedWrong)

  abbrev pub needs_status : ℕ → List Need
  needs_status a = needs_unowning fr ts s a ∷ needs_active ∷ []

  abbrev pub needs_jump_active : List Need
  needs_jump_active = needs_active ∷ []

  abbrev pub needs_jump_added : List Need
  needs_jump_added = needs_listed ∷ []

  abbrev pub needs_enlist : List Need
  needs_enlist = needs_listed ∷ (is_none own, AddedWrong) ∷ []

  -- no request is made
  abbrev pub needs_issue : ℕ → ℕ → List Need
  needs_issue a b = needs_word fr ts s a ∷ needs_word fr ts s b ∷ needs_issuing ∷ needs_added ∷ (in_phase is_idle own, RequestOverlap) ∷ []

  -- one is made, and not waited for yet
  abbrev pub needs_set_active : List Need
  needs_set_active = needs_active ∷ needs_added ∷ (not (in_phase is_active own), AlreadyActive) ∷ (in_phase is_issued own, RequestOverlap) ∷ []

  -- the method cancels, and the request is still pending
  abbrev pub hangs : Bool
  hangs = is_cancel (method_role p fr.method) && int_eq (status_of own) pending

  -- a method that cancels has its request completed as it ends
  abbrev pub needs_cancelled : Need
  needs_cancelled = (not hangs, CancelHang)

  -- no request is made that is not waited for, and none is being cancelled
  abbrev pub needs_cancel : List Need
  needs_cancel = needs_active ∷ (not (in_phase is_unsettled own), RequestOverlap) ∷ []

  abbrev pub needs_abort : List Need
  needs_abort = needs_active ∷ (in_phase is_cancelling own, WrongKind) ∷ []
