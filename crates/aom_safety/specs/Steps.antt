-- Each step is a move, with what stood there before it.
use Rattle.std.specs.Prelude.{ℕ, suc, ◌-◌, ◌≡◌, ◌⊎◌, ℤ, true, List, [], ◌∷◌, Some, None, length}
use Rattle.aom_image.specs.Image.{Image}
use Rattle.aom_image.specs.Views.{gives_of, instr_at}
use Rattle.aom_instructions.specs.Table.{action_of, transfer_of}
use Rattle.aom_instructions.specs.declared.action.Action.TheVariants as action
use Rattle.aom_instructions.specs.declared.action.CallMode.TheVariants.{Plain, Trapped as Under_trap}
use Rattle.aom_instructions.specs.declared.instr.Instr.{Instr}
use Rattle.aom_instructions.specs.declared.instr.Instr.TheVariants.{Pop, PopDelete, PopOperation}
use Rattle.aom_instructions.specs.declared.transfer.Transfer.TheVariants as transfer
use Rattle.aom_roles.specs.Tests.{AllTrue}
use Rattle.aom_link_conditions.specs.Jumps.{jump_of}
use Rattle.aom_link_conditions.specs.Loops.{loop_in}
use Rattle.aom_semantics.specs.Places.{service_of, Entry, Going, Object, held, moved}
use Rattle.aom_semantics.specs.State.{Closing, Dispatch, Frame, Task, Run, Trapped, Destroy, Unwind, Dispatched, An_object, Item, An_operation, A_mark, State, Choice, Goes, counter, next}
use Rattle.aom_semantics.specs.Destruction.{reclaimed, parting, first_session, begun, owns_nothing}
use Rattle.aom_semantics.specs.Words.{here}
use Rattle.aom_semantics.specs.Calls.{below_top, called, result_register}
use Rattle.aom_semantics.specs.Cleanup.{code_reported, ended_by, has_trap, operation_frame, top_place}
use Rattle.aom_semantics.specs.Moves.{counted, dispatch_ends, makes, needs, step}
use Rattle.aom_safety.specs.Leaves.{LeavesWith}
use Rattle.aom_semantics.specs.Effects.{Update, Same, Carried, Made, Written, Requested, Sessioned, Pushed, Pushed_operation, Popped, Popped_operation, Effect, Goes_on, Jumps, Counts, Repeats, Calls, Cancels, Sets_trap, Returns, Leaves, Destroys, Destroys_last, Operates, applied, Replied, Handed}
use Rattle.aom_semantics.specs.Requests.{cancel_method}
use Rattle.aom_semantics.specs.Servers.{without_queue}

-- ---- which instruction may have an effect

-- no loop begins
abbrev pub IsStraight : Instr → Type 0
IsStraight i = loop_in (Some i) ≡ None

-- a loop begins, or its last round is over
abbrev pub Sets : Instr → ℕ → ℕ → Type 0
Sets i d n = (transfer_of i ≡ transfer.Begin d n) ⊎ ((to : ℕ) × (transfer_of i ≡ transfer.Repeat d to) × (n ≡ 0))

-- a trap stands below a push, and the item of its kind below what comes off
abbrev pub FitsUpdate : List Task → List Item → Instr → Update → Type 0
FitsUpdate ts items i Same = Unit {0}
FitsUpdate ts items i (Carried from to) = Unit {0}
FitsUpdate ts items i (Made name class a) = makes (Some i) ≡ true
FitsUpdate ts items i (Written w v) = Unit {0}
FitsUpdate ts items i (Requested r) = Unit {0}
FitsUpdate ts items i (Sessioned session) = Unit {0}
FitsUpdate ts items i (Pushed a) = (action_of i ≡ action.Push a) × (has_trap ts ≡ true)
FitsUpdate ts items i (Pushed_operation m w) = (a : ℕ) × (action_of i ≡ action.PushOperation a m) × (has_trap ts ≡ true)
FitsUpdate ts items i (Popped a) = (i ≡ Pop a) × (items ≡ An_object ∷ below_top items)
FitsUpdate ts items i (Replied a code) = Unit {0}
FitsUpdate ts items i (Handed name a) = Unit {0}
FitsUpdate ts items i Popped_operation = (i ≡ PopOperation) × (m : ℕ) × (w : ℤ) × (items ≡ An_operation m w ∷ below_top items)

abbrev pub Fits : Image → Choice → Frame → List Task → State → Instr → Effect → Type 0
Fits p c fr ts s i (Goes_on ch) = IsStraight i × FitsUpdate ts s.items i ch.update
Fits p c fr ts s i (Jumps to) = jump_of i ≡ Some to
Fits p c fr ts s i (Counts d n) = Sets i d n
Fits p c fr ts s i (Repeats d n to) = (transfer_of i ≡ transfer.Repeat d to) × (k : ℕ) × (n ≡ suc k) × (counter fr d - 1 ≡ n)
Fits p c fr ts s i (Calls target m first) = (x : ℕ) × (action_of i ≡ action.Call Plain target m first x)
Fits p c fr ts s i (Sets_trap target m first) = (x : ℕ) × (action_of i ≡ action.Call Under_trap target m first x)
Fits p c fr ts s i (Cancels m) = (action_of i ≡ action.Cancel) × (cancel_method p fr ≡ Some m)
Fits p c fr ts s i (Returns g a) = (transfer_of i ≡ transfer.Return a) × (g ≡ gives_of p fr.method)
Fits p c fr ts s i (Leaves code u) = (has_trap ts ≡ true) × LeavesWith c fr i code × FitsUpdate ts s.items i u
Fits p c fr ts s i (Destroys o a words) = (action_of i ≡ action.Destroy a) × (held s.cells (here fr ts s a) ≡ Some o)
Fits p c fr ts s i (Destroys_last o) = (i ≡ PopDelete) × (s.items ≡ An_object ∷ below_top s.items) × (held s.cells (top_place s.items) ≡ Some o)
Fits p c fr ts s i (Operates m w) = (i ≡ PopDelete) × (s.items ≡ An_operation m w ∷ below_top s.items)

-- ---- the moves

-- nothing is at hand, or a trap alone, which does not move
abbrev pub IsStill : List Task → Type 0
IsStill [] = Unit {0}
IsStill _ = ⊥

pub data Move (p : Image) (c : Choice) (s u : State) : Type 0 where
  Rests : IsStill s.tasks → u ≡ counted p s → Move p c s u
  -- an instruction, with its needs met, has its effect
  Acts :
      (fr : Frame) (ts : List Task) (i : Instr) (e : Effect) → s.tasks ≡ Run fr ∷ ts → instr_at p fr.method fr.place ≡ Some i → AllTrue (needs p c fr ts (counted p s) i) →
      Fits p c fr ts (counted p s) i e → u ≡ applied p fr ts (counted p s) e → Move p c s u
  -- a cell goes
  Reclaims :
      (ts : List Task) (o : Object) → s.tasks ≡ Destroy ∷ ts → held s.cells (Going (length ts)) ≡ Some o → owns_nothing (without_queue o.name s.cells) o.name ≡ true →
      u ≡ reclaimed o ts (counted p s) → Move p c s u
  -- a server that goes lets go of a session first, or its destructor begins
  Empties :
      (ts : List Task) (o : Object) → s.tasks ≡ Closing ∷ Destroy ∷ ts → held s.cells (Going (length ts)) ≡ Some o →
      u ≡ parting p o (first_session s.cells o.name (service_of s.cells o.name).sessions) ts (counted p s) → Move p c s u
  -- a leave deals with an object, or with an operation
  Clears :
      (code : ℤ) (ts : List Task) (items : List Item) (o : Object) → s.tasks ≡ Unwind code ∷ ts → s.items ≡ An_object ∷ items → held s.cells (Entry (length items)) ≡ Some o →
      u ≡ record (counted p s) { cells = moved (Entry (length items)) (Going (length (Unwind code ∷ ts))) s.cells; tasks = begun p o (length items) (Unwind code ∷ ts); items = items } → Move p c s u
  Undoes :
      (code : ℤ) (ts : List Task) (items : List Item) (m : ℕ) (w : ℤ) → s.tasks ≡ Unwind code ∷ ts → s.items ≡ An_operation m w ∷ items →
      u ≡ record (counted p s) { tasks = Run (operation_frame m w (length items)) ∷ Unwind code ∷ ts; items = items } → Move p c s u
  -- its code arrives at a method, or at a dispatch
  Arrives :
      (code : ℤ) (fr : Frame) (ts : List Task) (items : List Item) → s.tasks ≡ Unwind code ∷ Trapped ∷ Run fr ∷ ts → s.items ≡ A_mark ∷ items →
      u ≡ record (counted p s) { tasks = Run (next (code_reported (called p (instr_at p fr.method fr.place)) (result_register (instr_at p fr.method fr.place)) code fr)) ∷ ts; items = items } → Move p c s u
  Comes_out :
      (code : ℤ) (d : Dispatch) (ts : List Task) (items : List Item) → s.tasks ≡ Unwind code ∷ Trapped ∷ Dispatched d ∷ ts → s.items ≡ A_mark ∷ items →
      u ≡ record (counted p s) { tasks = Dispatched (ended_by code d) ∷ ts; items = items } → Move p c s u
  -- a dispatch ends
  Ends : (d : Dispatch) (ts : List Task) → s.tasks ≡ Dispatched d ∷ ts → u ≡ dispatch_ends p d (counted p s) → Move p c s u

-- each step is a move
abbrev pub StepsAreMoves : Type 0
StepsAreMoves = (p : Image) (c : Choice) (s u : State) → step p c s ≡ Goes u → Move p c s u
