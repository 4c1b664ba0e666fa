-- Instructions at the native that serves what a method works on.
use Rattle.std.specs.Prelude.{ℕ, ℤ, pos, negsuc, int_lt, Bool, false, ◌&&◌, ◌||◌, ◌==◌, cond, not, List, [], ◌∷◌, map, Option, Some, None}
use Rattle.std.specs.List.{list_any}
use Rattle.std.specs.Ordering.{int_eq}
use Rattle.aom_image.specs.Image.{Image}
use Rattle.aom_image.specs.declared.class.ClassKind.{ClassKind}
use Rattle.aom_image.specs.declared.class.ClassKind.TheVariants.{Active as An_active}
use Rattle.aom_image.specs.declared.class.Provider.TheVariants.{Native}
use Rattle.aom_image.specs.declared.method.Thing.{Thing}
use Rattle.aom_roles.specs.Kinds.{is_native_kind}
use Rattle.aom_semantics.specs.Requests.{completed_with, receiver_kind, is_idle, on_request, own_request, pending, recorded, thing_kind}
use Rattle.aom_semantics.specs.Places.{Cell, Request, in_session, set_session}
use Rattle.aom_semantics.specs.State.{Frame, Receiver, Static, AtRoot, Inside, Need, State, Task, ClosedWhileOutstanding, WrongKind}
use Rattle.aom_semantics.specs.Words.{needs_unowning, needs_word}

-- ---- natives and sessions

-- the native that serves the objects of a class
abbrev pub native_of : Option ClassKind → Option ℕ
native_of (Some (An_active (Native n))) = Some n
native_of _ = None

-- it is among those that are killed
abbrev pub is_dead : List ℕ → ℕ → Bool
is_dead killed n = list_any (λ k. k == n) killed

abbrev pub has_died : List ℕ → Option ℕ → Bool
has_died killed None = false
has_died killed (Some n) = is_dead killed n

-- what a frame works on has a session open at its native
abbrev pub own_session : List Cell → Receiver → Bool
own_session cs Static = false
own_session cs AtRoot = false
own_session cs (Inside o from) = in_session cs o.name

-- the cells with its session open or not
abbrev pub session_updated : List Cell → Receiver → Bool → List Cell
session_updated cs Static session = cs
session_updated cs AtRoot session = cs
session_updated cs (Inside o from) session = set_session o.name session cs

-- ---- codes

-- KErrNotFound: there is no native to connect to, or no session
abbrev pub not_found : ℤ
not_found = negsuc 0

-- KErrServerTerminated: the native is killed
abbrev pub terminated : ℤ
terminated = negsuc 14

-- ---- what a native answers, where it is killed or not, and the session open or not

-- to a method that connects: a session that is open is no other, and one that the native declines is told by its code
abbrev pub connected : (dead session : Bool) → ℤ → ℤ
connected dead session answer = cond dead not_found (cond (session || not (int_lt answer (pos 0))) (pos 0) answer)

-- whether the session is open then
abbrev pub opens : (dead session : Bool) → ℤ → Bool
opens dead session answer = not dead && (session || not (int_lt answer (pos 0)))

-- to one that asks
abbrev pub replied : (dead session : Bool) → ℤ → ℤ
replied dead session answer = cond dead terminated (cond session answer not_found)

-- the status with which a request begins: what the native declines is completed at once
abbrev pub started : (dead session : Bool) → ℤ → ℤ
started dead session answer = cond dead terminated (cond session (cond (int_lt answer (pos 0)) (recorded answer) pending) not_found)

-- ---- what is outstanding

-- a request is made, and not completed
abbrev pub is_owed : Option Request → Bool
is_owed None = false
is_owed (Some r) = not (is_idle r.phase) && int_eq r.status pending

-- the native serves what that names
abbrev pub is_served_by : Image → ℕ → Thing → Bool
is_served_by p n t = has_number (native_of (thing_kind p t))
  where
    has_number : Option ℕ → Bool
    has_number None = false
    has_number (Some k) = k == n

-- the cell's request is outstanding at that native
abbrev pub is_outstanding_at : Image → ℕ → Cell → Bool
is_outstanding_at p n c = is_served_by p n c.object.thing && is_owed c.request

-- ---- a native is killed

abbrev pub terminated_request : Option Request → Option Request
terminated_request r = cond (is_owed r) (on_request (completed_with terminated) r) r

-- what a cell that it serves has outstanding there is completed, and its session is over
abbrev pub detached : Image → ℕ → Cell → Cell
detached p n c = record c { request = cond (is_served_by p n c.object.thing) (terminated_request c.request) c.request; session = not (is_served_by p n c.object.thing) && c.session }

abbrev pub all_detached : Image → ℕ → List Cell → List Cell
all_detached p n cs = map (detached p n) cs

-- ---- the needs of instructions

module _ (p : Image) (fr : Frame) (ts : List Task) (s : State) where
  -- the native that serves what the frame works on is killed
  abbrev pub is_served_by_dead : Bool
  is_served_by_dead = has_died s.killed (native_of (receiver_kind p fr.receiver))

  abbrev pub needs_native : Need
  needs_native = (is_native_kind (receiver_kind p fr.receiver), WrongKind)

  abbrev pub needs_connect : ℕ → List Need
  needs_connect a = needs_unowning fr ts s a ∷ needs_native ∷ []

  abbrev pub needs_ask : ℕ → ℕ → ℕ → List Need
  needs_ask a b x = needs_word fr ts s b ∷ needs_word fr ts s x ∷ needs_unowning fr ts s a ∷ needs_native ∷ []

  -- nothing is owed to what the session is closed for
  abbrev pub needs_close : List Need
  needs_close = needs_native ∷ (not (is_owed (own_request s.cells fr.receiver)), ClosedWhileOutstanding) ∷ []
