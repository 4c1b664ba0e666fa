-- What the next move asks of a native.
use Rattle.std.specs.Prelude.{ℕ, ℤ, Bool, ◌&&◌, ◌||◌, not, cond, List, ◌∷◌, length, Option, Some, None}
use Rattle.aom_image.specs.Image.{Image}
use Rattle.aom_image.specs.Views.{instr_at}
use Rattle.aom_instructions.specs.declared.instr.Instr.{Instr}
use Rattle.aom_instructions.specs.declared.instr.Instr.TheVariants.{Abort, Ask, Close, Connect, Issue}
use Rattle.aom_semantics.specs.Requests.{thing_kind}
use Rattle.aom_semantics.specs.Natives.{is_dead, is_owed, native_of}
use Rattle.aom_semantics.specs.Places.{Going, Object, held, in_session, requested}
use Rattle.aom_semantics.specs.State.{AtRoot, Destroy, Frame, Receiver, Inside, Run, State, Static, Task}
use Rattle.aom_semantics.specs.Words.{read}

-- the call that an instruction makes on the native of its cell, if it makes one, and the registers of its words
pub data Exchange : Type 0 where
  Nothing : Exchange
  An_open : Exchange
  A_start : (function word : ℕ) → Exchange
  An_ask : (function word : ℕ) → Exchange
  A_cancel : Exchange
  A_close : Exchange

abbrev pub exchange : Instr → Exchange
exchange (Connect a) = An_open
exchange (Issue a b) = A_start a b
exchange (Ask a b x) = An_ask b x
exchange Abort = A_cancel
exchange Close = A_close
exchange _ = Nothing

abbrev pub exchange_at : Option Instr → Exchange
exchange_at None = Nothing
exchange_at (Some i) = exchange i

-- of which native, for which cell, and with what
pub data NativeCall : Type 0 where
  Opens : (native name : ℕ) → NativeCall
  Starts : (native name : ℕ) (function word : ℤ) → NativeCall
  Asks : (native name : ℕ) (function word : ℤ) → NativeCall
  Cancels : (native name : ℕ) → NativeCall
  Closes : (native name : ℕ) → NativeCall

abbrev pub wanted_if : Bool → NativeCall → Option NativeCall
wanted_if b w = cond b (Some w) None

module _ (s : State) where
  -- the session of a cell is open, and its native lives
  abbrev pub is_served : (native name : ℕ) → Bool
  is_served n name = not (is_dead s.killed n) && in_session s.cells name

  -- a call that a method makes, which works on a cell of a native
  abbrev pub wanted_here : Frame → List Task → (native name : ℕ) → Exchange → Option NativeCall
  wanted_here fr ts n name Nothing = None
  wanted_here fr ts n name An_open = wanted_if (not (is_dead s.killed n || in_session s.cells name)) (Opens n name)
  wanted_here fr ts n name (A_start a b) = wanted_if (is_served n name) (Starts n name (read fr ts s a) (read fr ts s b))
  wanted_here fr ts n name (An_ask a b) = wanted_if (is_served n name) (Asks n name (read fr ts s a) (read fr ts s b))
  wanted_here fr ts n name A_cancel = wanted_if (is_owed (requested s.cells name)) (Cancels n name)
  wanted_here fr ts n name A_close = wanted_if (in_session s.cells name) (Closes n name)

  abbrev pub wanted_at : Frame → List Task → Object → Option ℕ → Exchange → Option NativeCall
  wanted_at fr ts o None x = None
  wanted_at fr ts o (Some n) x = wanted_here fr ts n o.name x

  abbrev pub wanted_by : Image → Frame → List Task → Receiver → Exchange → Option NativeCall
  wanted_by p fr ts Static x = None
  wanted_by p fr ts AtRoot x = None
  wanted_by p fr ts (Inside o from) x = wanted_at fr ts o (native_of (thing_kind p o.thing)) x

  -- a cell that goes closes its session
  abbrev pub wanted_going : Object → Option ℕ → Option NativeCall
  wanted_going o None = None
  wanted_going o (Some n) = wanted_if (in_session s.cells o.name) (Closes n o.name)

  abbrev pub wanted_gone : Image → Option Object → Option NativeCall
  wanted_gone p None = None
  wanted_gone p (Some o) = wanted_going o (native_of (thing_kind p o.thing))

  abbrev pub wanted_task : Image → List Task → Option NativeCall
  wanted_task p (Run fr ∷ ts) = wanted_by p fr ts fr.receiver (exchange_at (instr_at p fr.method fr.place))
  wanted_task p (Destroy ∷ ts) = wanted_gone p (held s.cells (Going (length ts)))
  wanted_task p _ = None

abbrev pub wanted : Image → State → Option NativeCall
wanted p s = wanted_task s p s.tasks
