-- Leaves: the code that a method leaves with is the one that arrives, what was pushed last is dealt with first, and what lies below the mark stays as it is.
use Rattle.std.specs.Prelude.{Bool, false, ℕ, suc, ℤ, negsuc, pos, true, ◌≡◌, ◌≢◌, ◌⊎◌, int_lt, List, [], ◌∷◌, ◌++◌, Option, Some, None, length}
use Rattle.aom_image.specs.Image.{Image}
use Rattle.aom_image.specs.Views.{action_at, instr_at, is_quiet, gives_of}
use Rattle.aom_instructions.specs.Table.{action_of, transfer_of}
use Rattle.aom_instructions.specs.declared.action.Action.{Action}
use Rattle.aom_instructions.specs.declared.action.Action.TheVariants.{Call, Push, PushOperation}
use Rattle.aom_instructions.specs.declared.action.CallMode.TheVariants.{Trapped as Under_trap}
use Rattle.aom_instructions.specs.declared.instr.Instr.{Instr}
use Rattle.aom_instructions.specs.declared.instr.Instr.TheVariants.{LeaveIf, NewOrLeave}
use Rattle.aom_instructions.specs.declared.instr.Target.{Target}
use Rattle.aom_instructions.specs.declared.transfer.Transfer.{Transfer}
use Rattle.aom_instructions.specs.declared.transfer.Transfer.TheVariants.{Leave}
use Rattle.aom_image.specs.declared.method.Gives.{Gives}
use Rattle.aom_image.specs.declared.method.Gives.TheVariants.{Nothing, Word as A_word, Own as An_own, Maybe as A_maybe, Left}
use Rattle.aom_typing_rules.specs.Typing.{Typing, IsTyped}
use Rattle.aom_semantics.specs.Places.{Place, Register, Entry, Going, Object, Cell, held, named}
use Rattle.aom_semantics.specs.State.{Of_server, Accepts, Accept_left, Serves, Service_left, Inside, Frame, Of_main, Main_left, Of_object, Object_left, Task, Run, Trapped, Destroy, Unwind, Dispatched, Item, An_object, An_operation, A_mark, State, Choice, Goes, word, next, Closing}
use Rattle.aom_link_conditions.specs.Roles.{destructor_of}
use Rattle.aom_semantics.specs.Moves.{step, written, announcement}
use Rattle.aom_safety.specs.WellTyped.{WellTyped}
use Rattle.aom_semantics.specs.World.{boot_state, Reaches, Environment}
use Rattle.aom_safety.specs.Laws.{IsWired}
use Rattle.aom_transcript.specs.declared.line.Line.{Line}
use Rattle.aom_transcript.specs.declared.line.Line.TheVariants.{Leave as Leave_line}
use Rattle.aom_transcript.specs.declared.line.Ending.TheVariants.{MainLeft}
use Rattle.aom_semantics.specs.Servers.{is_server}

-- ---- a leave at hand

-- over the leave with that code, and over these tasks, stand quiet methods alone, which began at this height of the cleanup stack, and cells that go
abbrev pub IsOver : Image → ℕ → ℤ → List Task → List Task → Type 0
IsOver p height code below [] = ⊥
IsOver p height code below (Run fr ∷ ts) = (is_quiet p fr.method ≡ true) × (fr.height ≡ height) × IsOver p height code below ts
IsOver p height code below (Trapped ∷ ts) = ⊥
IsOver p height code below (Destroy ∷ ts) = IsOver p height code below ts
IsOver p height code below (Closing ∷ ts) = IsOver p height code below ts
IsOver p height code below (Unwind x ∷ ts) = (x ≡ code) × (ts ≡ below)
IsOver p height code below (Dispatched d ∷ ts) = ⊥

-- none is a mark
abbrev pub AreEntries : List Item → Type 0
AreEntries [] = Unit {0}
AreEntries (An_object ∷ items) = AreEntries items
AreEntries (An_operation m w ∷ items) = AreEntries items
AreEntries (A_mark ∷ items) = ⊥

-- the leave with that code is at hand over these tasks. These entries are still to be dealt with, the last first, and these items lie below its mark
pub record IsLeaving (p : Image) (code : ℤ) (below : List Task) (entries items : List Item) (s : State) : Type 0 where
  pub over : IsOver p (length s.items) code below s.tasks
  pub stack : s.items ≡ entries ++ (A_mark ∷ items)
  pub plain : AreEntries entries

-- ---- how it begins

-- a refused request leaves with -4
abbrev pub IsRefusal : Choice → ℤ → Type 0
IsRefusal c code = (c.refused ≡ true) × (code ≡ negsuc 3)

-- a push may be refused
abbrev pub PushLeaves : Choice → Action → ℤ → Type 0
PushLeaves c (Push a) code = IsRefusal c code
PushLeaves c (PushOperation a m) code = IsRefusal c code
PushLeaves c _ code = ⊥

-- what leaves at once leaves with its word
abbrev pub LeavesBy : Choice → Frame → Transfer → Action → ℤ → Type 0
LeavesBy c fr (Leave a) x code = word fr a ≡ Some code
LeavesBy c fr _ x code = PushLeaves c x code

-- `leaveif` leaves with a negative word, and the others as they transfer control, or as they act
abbrev pub LeavesWith : Choice → Frame → Instr → ℤ → Type 0
LeavesWith c fr (LeaveIf a) code = (word fr a ≡ Some code) × (int_lt code (pos 0) ≡ true)
LeavesWith c fr (NewOrLeave a x) code = IsRefusal c code
LeavesWith c fr i code = LeavesBy c fr (transfer_of i) (action_of i) code

-- a cell has moved from one place to the other, and all other places own what they did
pub record HasMoved (o : Object) (from to : Place) (before after : List Cell) : Type 0 where
  pub there : held before from ≡ Some o
  pub here : held after to ≡ Some o
  pub gone : held after from ≡ None
  pub others : (r : Place) → r ≢ from → r ≢ to → held after r ≡ held before r

-- what was to be pushed is pushed all the same, from the method over so many tasks
abbrev pub PushedBy : Frame → ℕ → Action → State → State → Type 0
PushedBy fr depth (Push a) s u = (o : Object) × HasMoved o (Register depth a) (Entry (length s.items)) s.cells u.cells × (u.items ≡ An_object ∷ s.items)
PushedBy fr depth (PushOperation a m) s u = (w : ℤ) × (word fr a ≡ Some w) × (u.items ≡ An_operation m w ∷ s.items) × (u.cells ≡ s.cells)
PushedBy fr depth _ s u = (u.items ≡ s.items) × (u.cells ≡ s.cells)

abbrev pub HasPushed : Frame → ℕ → Instr → State → State → Type 0
HasPushed fr depth i s u = PushedBy fr depth (action_of i) s u

abbrev pub AreMethods : List Task → Type 0
AreMethods [] = Unit {0}
AreMethods (Run fr ∷ ts) = AreMethods ts
AreMethods (Trapped ∷ ts) = ⊥
AreMethods (Destroy ∷ ts) = ⊥
AreMethods (Closing ∷ ts) = ⊥
AreMethods (Unwind code ∷ ts) = ⊥
AreMethods (Dispatched d ∷ ts) = ⊥

-- all methods over the innermost trap are over, and the leave with that code is at hand over it
pub record Begins (p : Image) (code : ℤ) (fr : Frame) (depth : ℕ) (i : Instr) (s u : State) : Type 0 where
  pub methods : List Task
  pub below : List Task
  pub tasks : s.tasks ≡ methods ++ (Trapped ∷ below)
  pub over : AreMethods methods
  pub entries : List Item
  pub items : List Item
  pub leaving : IsLeaving p code (Trapped ∷ below) entries items u
  pub top : u.tasks ≡ Unwind code ∷ Trapped ∷ below
  pub pushed : HasPushed fr depth i s u

-- ---- what it deals with

-- the destruction of an object is at hand over these tasks, with its destructor first, or of a server with the sessions that go before it
abbrev pub IsDestroyed : Bool → Option ℕ → Object → List Task → List Task → Type 0
IsDestroyed true d o under ts = ts ≡ Closing ∷ Destroy ∷ under
IsDestroyed false None o under ts = ts ≡ Destroy ∷ under
IsDestroyed false (Some m) o under ts = (fr : Frame) × (ts ≡ Run fr ∷ Destroy ∷ under) × (fr.method ≡ m) × (fr.place ≡ 0) × (fr.receiver ≡ Inside o (Going (length under)))

-- what is to be done for the item over so many others is at hand over these tasks: its object's cell is to go, or its method runs on its word
abbrev pub IsBegun : Image → List Task → Item → ℕ → State → State → Type 0
IsBegun p under An_object k s u =
    (o : Object) × HasMoved o (Entry k) (Going (length under)) s.cells u.cells × IsDestroyed (is_server p o.thing) (destructor_of p o.thing) o under u.tasks
IsBegun p under (An_operation m w) k s u = (fr : Frame) × (u.tasks ≡ Run fr ∷ under) × (fr.method ≡ m) × (fr.place ≡ 0) × (word fr 0 ≡ Some w) × (u.cells ≡ s.cells)
IsBegun p under A_mark k s u = ⊥

-- ---- how it arrives

-- a register of the method over so many tasks has that word and owns nothing, or is null
abbrev pub HasWord : List Cell → ℕ → Frame → ℕ → ℤ → Type 0
HasWord cs depth fr r w = (word fr r ≡ Some w) × (held cs (Register depth r) ≡ None)

abbrev pub IsNull : List Cell → ℕ → Frame → ℕ → Type 0
IsNull cs depth fr r = (word fr r ≡ None) × (held cs (Register depth r) ≡ None)

-- the register of the result that does not come
abbrev pub HasNoResult : Gives → List Cell → ℕ → ℕ → Frame → Frame → Type 0
HasNoResult Nothing cs depth c before after = word after c ≡ word before c
HasNoResult A_word cs depth c before after = HasWord cs depth after c (pos 0)
HasNoResult (An_own t) cs depth c before after = IsNull cs depth after c
HasNoResult (A_maybe t) cs depth c before after = IsNull cs depth after c
HasNoResult (Left x) cs depth c before after = word after c ≡ word before c

-- the method goes on after its trap, with the code in the register after the result's
pub record Observes (code : ℤ) (gives : Gives) (c : ℕ) (cs : List Cell) (depth : ℕ) (before after : Frame) : Type 0 where
  pub reported : HasWord cs depth after (suc c) code
  pub result : HasNoResult gives cs depth c before after
  pub others : (r : ℕ) → r ≢ c → r ≢ suc c → word after r ≡ word before r
  pub goes_on : record after { words = before.words } ≡ next before

-- to the method that set the trap, or to the dispatch of main, of an object or of a server
abbrev pub ArrivesAt : Image → ℤ → List Task → State → Type 0
ArrivesAt p code (Trapped ∷ Run before ∷ ts) u =
    (after : Frame)
    × (u.tasks ≡ Run after ∷ ts)
    × ((target : Target) (m first c : ℕ) → action_at p before.method before.place ≡ Some (Call Under_trap target m first c) → Observes code (gives_of p m) c u.cells (length ts) before after)
ArrivesAt p code (Trapped ∷ Dispatched Of_main ∷ ts) u = u.tasks ≡ Dispatched (Main_left code) ∷ ts
ArrivesAt p code (Trapped ∷ Dispatched (Of_object x) ∷ ts) u = u.tasks ≡ Dispatched (Object_left x code) ∷ ts
ArrivesAt p code (Trapped ∷ Dispatched (Of_server x client Accepts) ∷ ts) u = u.tasks ≡ Dispatched (Of_server x client (Accept_left code)) ∷ ts
ArrivesAt p code (Trapped ∷ Dispatched (Of_server x client (Serves o)) ∷ ts) u = u.tasks ≡ Dispatched (Of_server x client (Service_left code)) ∷ ts
ArrivesAt p code _ u = ⊥

-- the mark goes, what lay below it is as it was, and the line of the leave is written
pub record Arrives (p : Image) (code : ℤ) (below : List Task) (items : List Item) (s u : State) : Type 0 where
  pub place : ArrivesAt p code below u
  pub under : u.items ≡ items
  pub cells : u.cells ≡ s.cells
  pub line : written p s ≡ announcement s.rest ++ (Leave_line code ∷ [])

-- ---- the laws of moves

pub record LeavesMove : Type 0 where
  pub begins :
      (p : Image) (t : Typing) → IsWired p → IsTyped p t → (c : Choice) (s u : State) → WellTyped p t s → named s.cells c.name ≡ None →
      (fr : Frame) (ts : List Task) (i : Instr) (code : ℤ) → s.tasks ≡ Run fr ∷ ts → instr_at p fr.method fr.place ≡ Some i → LeavesWith c fr i code → step p c s ≡ Goes u → Begins p code fr (length ts) i s u
  -- what is over the leave is done first, and changes nothing of the cleanup stack
  pub works :
      (p : Image) (t : Typing) → IsWired p → IsTyped p t → (c : Choice) (s u : State) → WellTyped p t s →
      (code : ℤ) (below : List Task) (entries items : List Item) → IsLeaving p code below entries items s → s.tasks ≢ Unwind code ∷ below → step p c s ≡ Goes u → IsLeaving p code below entries items u
  -- then the leave takes the last entry
  pub deals :
      (p : Image) (t : Typing) → IsWired p → (c : Choice) (s u : State) → WellTyped p t s →
      (code : ℤ) (below : List Task) (i : Item) (rest items : List Item) → IsLeaving p code below (i ∷ rest) items s → s.tasks ≡ Unwind code ∷ below → step p c s ≡ Goes u →
      IsLeaving p code below rest items u × IsBegun p (Unwind code ∷ below) i (length (rest ++ (A_mark ∷ items))) s u
  -- and where none is left its code arrives
  pub arrives :
      (p : Image) (t : Typing) (c : Choice) (s u : State) → WellTyped p t s →
      (code : ℤ) (below : List Task) (items : List Item) → IsLeaving p code below [] items s → s.tasks ≡ Unwind code ∷ below → step p c s ≡ Goes u → Arrives p code below items s u
  -- the dispatch that it came to ends the run with it
  pub ends : (p : Image) (c : Choice) (s u : State) (code : ℤ) (ts : List Task) → s.tasks ≡ Dispatched (Main_left code) ∷ ts → step p c s ≡ Goes u → (u.tasks ≡ []) × (u.rest.ended ≡ Some (MainLeft code))

-- ---- the laws of runs

-- the states that a leave comes to while it is at hand, with the items that its own moves have dealt with by then, in their order
pub data Unwinds (p : Image) (code : ℤ) (below : List Task) (from : State) : List Item → State → Type 0 where
  leaves : Unwinds p code below from [] from
  works : {dealt : List Item} {s u : State} (c : Choice) → Unwinds p code below from dealt s → s.tasks ≢ Unwind code ∷ below → step p c s ≡ Goes u → u.items ≡ s.items → Unwinds p code below from dealt u
  deals : {dealt : List Item} {s u : State} (c : Choice) (i : Item) (rest : List Item) → Unwinds p code below from dealt s → s.tasks ≡ Unwind code ∷ below → s.items ≡ i ∷ rest → step p c s ≡ Goes u → u.items ≡ rest → IsBegun p (Unwind code ∷ below) i (length rest) s u → Unwinds p code below from (dealt ++ (i ∷ [])) u

-- the leave is still at hand, and has dealt with the first of its entries
pub record StillLeaves (p : Image) (code : ℤ) (below : List Task) (entries items : List Item) (from s : State) : Type 0 where
  pub dealt : List Item
  pub rest : List Item
  pub all : entries ≡ dealt ++ rest
  pub course : Unwinds p code below from dealt s
  pub leaving : IsLeaving p code below rest items s

-- it has dealt with all of them, each once and in their order, and then its code has arrived
pub record HasArrived (p : Image) (outside : Environment) (code : ℤ) (below : List Task) (entries items : List Item) (from s : State) : Type 0 where
  pub last : State
  pub course : Unwinds p code below from entries last
  pub choice : Choice
  pub after : State
  pub move : step p choice last ≡ Goes after
  pub arrives : Arrives p code below items last after
  pub lines : List Line
  pub reaches : Reaches p outside after lines s

-- where a leave is on top in a run, there are entries over a mark, and each run from there is one of the two
abbrev pub EachLeaveArrives : Image → Environment → Type 0
EachLeaveArrives p outside =
    (before : List Line) (s : State) → Reaches p outside (boot_state p) before s → (code : ℤ) (below : List Task) → s.tasks ≡ Unwind code ∷ below →
    (entries : List Item)
    × (items : List Item)
    × (s.items ≡ entries ++ (A_mark ∷ items))
    × AreEntries entries
    × ((lines : List Line) (u : State) → Reaches p outside s lines u → StillLeaves p code below entries items s u ⊎ HasArrived p outside code below entries items s u)

abbrev pub LeavesArrive : Type 0
LeavesArrive = (p : Image) (t : Typing) (outside : Environment) → IsWired p → IsTyped p t → EachLeaveArrives p outside
