-- What the machine's numbers stand for.
use Rattle.std.specs.Prelude.{◌≡◌, ◌≢◌, ◌<◌, ◌≤◌, ℕ, ℤ, cond, ◌==◌, List, [], ◌∷◌, length, Option, Some, None, slice_index_or}
use Rattle.std.specs.Int.{w32, cast_signed, int_wrap}
use Rattle.aom_image.specs.Image.{Image}
use Rattle.aom_image.specs.declared.method.Thing.{Thing}
use Rattle.aom_image.specs.declared.method.Thing.TheVariants.{Object as An_object_of}
use Rattle.aom_roles.specs.Things.{is_object}
use Rattle.aom_cells.specs.Heap.{Heap, null, cell_at, count}
use Rattle.aom_cells.specs.Heap.{word_at as cell_word}
use Rattle.aom_cells.specs.declared.cell.Cell.{Cell as Machine_cell}
use Rattle.aom_semantics.specs.Places.{Place, Register, Entry, Field, Going, Elsewhere, Object, Cell, held, in_session, named, requested, word_field, count_cells}
use Rattle.aom_semantics.specs.State.{receiver_view, Receiver, Static, AtRoot, Inside, Frame, OwnedObject, Dispatch, Of_main, Main_left, Of_root, Of_object, Object_left, Asks, Answered, Of_server, Stage, word, counter, Task, Run, Trapped, Destroy, Closing, Unwind, Dispatched, Item, An_object, An_operation, A_mark, State}
use Rattle.aom_semantics.specs.State as checked
use Rattle.aom_active_objects.specs.Agrees.{Active, RefinesRequests, queued}
use Rattle.aom_link_conditions.specs.Roles.{or_else}
use Rattle.aom_frames.specs.Views.{class_above}
use Rattle.aom_frames.specs.declared.view.View.{View}
use Rattle.aom_frames.specs.declared.frame.Frame.{Frame as Machine_frame}
use Rattle.aom_frames.specs.declared.task.Task.{Task as Machine_task}
use Rattle.aom_frames.specs.declared.task.Task.TheVariants.{Run as Runs_frame, Trapped as Is_trap, Destroy as Destroys, Closing as Closes, Unwind as Unwinds, Dispatched as Ends}
use Rattle.aom_frames.specs.declared.dispatch.Dispatch.{Dispatch as Machine_dispatch}
use Rattle.aom_frames.specs.declared.dispatch.Dispatch.TheVariants.{Main, MainLeft, Root, Object as Of_one, ObjectLeft as One_left, Asks as One_asks, Answered as One_answered, Server as Of_one_served}
use Rattle.aom_frames.specs.declared.dispatch.Stage.{Stage as Machine_stage}
use Rattle.aom_frames.specs.declared.dispatch.Stage.TheVariants as stages
use Rattle.aom_frames.specs.declared.dispatch.Subject.{Subject}
use Rattle.aom_frames.specs.declared.item.Item.{Item as Machine_item}
use Rattle.aom_frames.specs.declared.item.Item.TheVariants.{Object as Holds_object, Operation as Holds_operation, Mark as Is_mark}
use Rattle.aom_machine_state.specs.declared.parts.Parts.{Parts}
use Rattle.aom_cells.specs.Sessions.{Standing, is_open}
use Rattle.aom_machine_state.specs.Places.{value}
use Rattle.aom_machine_state.specs.Services.{SameServices}

-- the number of what a place owns, and null where it owns nothing
abbrev pub number : Option Object → ℕ
number None = null
number (Some o) = o.name

-- a number stands for what a place of the checked machine has: its word, else its object's name, else null
abbrev pub Represents : ℕ → Option ℤ → Option Object → Type 0
Represents n (Some w) None = cast_signed w32 n ≡ w
Represents n (Some w) (Some o) = ⊥
Represents n None o = n ≡ number o

-- the word in each place of the checked machine; registers alone have words
abbrev pub word_of : Task → ℕ → Option ℤ
word_of (Run fr) i = word fr i
word_of Trapped i = None
word_of Destroy i = None
word_of Closing i = None
word_of (Unwind code) i = None
word_of (Dispatched d) i = None

abbrev pub word_in : List Task → ℕ → ℕ → Option ℤ
word_in [] d i = None
word_in (t ∷ ts) d i = cond (length ts == d) (word_of t i) (word_in ts d i)

abbrev pub word_at : List Task → Place → Option ℤ
word_at ts (Register d i) = word_in ts d i
word_at ts (Entry k) = None
word_at ts (Field n f) = None
word_at ts (Going k) = None
word_at ts (Elsewhere o) = None

-- the cell that a method works on
abbrev pub receiver_number : Receiver → ℕ
receiver_number Static = null
receiver_number AtRoot = null
receiver_number (Inside o from) = o.name

-- the class as which the object of a method counts
abbrev pub viewed : View → Receiver → Option ℕ
viewed v receiver = or_else (class_above v) (receiver_view receiver)

pub record SameFrame (f : Machine_frame) (fr : Frame) : Type 0 where
  pub method : f.method ≡ fr.method
  pub place : f.place ≡ fr.place
  pub this : f.this ≡ receiver_number fr.receiver
  pub view : fr.view ≡ viewed f.view fr.receiver
  -- which is no message
  pub receiver_held : f.this ≢ null → f.this < 4096
  pub wide : length f.registers ≡ 16
  -- the rounds that are left of each loop
  pub counters : (i : ℕ) → slice_index_or f.counters i 0 ≡ counter fr i
  pub loops : length f.counters ≡ 4

-- an object by its number and its class
abbrev pub subject_of : Subject → Object
subject_of x = record { name = x.number; thing = An_object_of x.class }

-- the object that is dispatched, in that place
abbrev pub owned_object_of : Place → Subject → OwnedObject
owned_object_of q x = record { object = subject_of x; place = q }

-- how far the dispatch of a server has come
abbrev pub stage_of : Machine_stage → Stage
stage_of stages.Accepts = checked.Accepts
stage_of stages.Accepted = checked.Accepted
stage_of (stages.AcceptLeft code) = checked.Accept_left code
stage_of (stages.Serves x) = checked.Serves (subject_of x)
stage_of (stages.ServiceLeft code) = checked.Service_left code
stage_of stages.Disconnects = checked.Disconnects

abbrev pub dispatch_of : Place → Machine_dispatch → Dispatch
dispatch_of q Main = Of_main
dispatch_of q (MainLeft code) = Main_left code
dispatch_of q Root = Of_root
dispatch_of q (Of_one x) = Of_object (owned_object_of q x)
dispatch_of q (One_left x code) = Object_left (owned_object_of q x) code
dispatch_of q (One_asks x) = Asks (owned_object_of q x)
dispatch_of q (One_answered x answer) = Answered (owned_object_of q x) answer
dispatch_of q (Of_one_served x client stage) = Of_server (owned_object_of q x) client (stage_of stage)

-- where its object sits the machine does not keep
abbrev pub SameDispatch : Machine_dispatch → Dispatch → Type 0
SameDispatch x d = (q : Place) × (dispatch_of q x ≡ d)

-- frames and other tasks, one by one; what goes is a cell, and no message
abbrev pub SameTask : Machine_task → Task → Type 0
SameTask (Runs_frame f) (Run fr) = SameFrame f fr
SameTask Is_trap Trapped = Unit {0}
SameTask (Destroys x) Destroy = x < 4096
SameTask Closes Closing = Unit {0}
SameTask (Unwinds code) (Unwind c) = code ≡ c
SameTask (Ends d) (Dispatched e) = SameDispatch d e
SameTask _ _ = ⊥

abbrev pub SameTasks : List Machine_task → List Task → Type 0
SameTasks [] [] = Unit {0}
SameTasks (t ∷ ts) (u ∷ us) = SameTask t u × SameTasks ts us
SameTasks _ _ = ⊥

-- items of the cleanup stack, one by one; what an entry owns is told by its place
abbrev pub SameItem : Machine_item → Item → Type 0
SameItem (Holds_object n) An_object = Unit {0}
SameItem (Holds_operation m n) (An_operation k w) = (m ≡ k) × (cast_signed w32 n ≡ w)
SameItem Is_mark A_mark = Unit {0}
SameItem _ _ = ⊥

abbrev pub SameItems : List Machine_item → List Item → Type 0
SameItems [] [] = Unit {0}
SameItems (i ∷ is) (j ∷ js) = SameItem i j × SameItems is js
SameItems _ _ = ⊥

-- what lives under a number
abbrev pub thing_in : Option Machine_cell → Option Thing
thing_in None = None
thing_in (Some c) = Some (An_object_of c.class)

-- and what of it is an object
abbrev pub thing_of : Option Object → Option Thing
thing_of None = None
thing_of (Some o) = cond (is_object o.thing) (Some o.thing) None

-- the same cells live, by their numbers, with the same words; messages are no cells
pub record SameCells (p : Image) (h : Heap) (cs : List Cell) : Type 0 where
  pub things : (n : ℕ) → thing_in (cell_at h n) ≡ thing_of (named cs n)
  pub words : (n w : ℕ) → n < 4096 → cell_word h n w ≡ word_field cs n w
  pub count : count h ≡ count_cells cs
  pub limit : h.limit ≡ p.header.cells
  pub wide : (n : ℕ) (c : Machine_cell) → cell_at h n ≡ Some c → length c.fields ≡ 8
  pub classes : (n : ℕ) (c : Machine_cell) → cell_at h n ≡ Some c → c.class < 256
  pub null_is_none : cell_at h null ≡ None
  pub below : (n : ℕ) (c : Machine_cell) → cell_at h n ≡ Some c → n < h.limit

-- the same objects are enlisted, by their numbers, with the same requests, and something waits at the same servers
pub record SameRequests (p : Image) (a : Active) (cs : List Cell) : Type 0 where
  pub stands : RefinesRequests a (requested cs) (queued p cs)
  pub limit : a.table.limit ≡ p.header.cells

-- the same cells have a session, by their numbers, and the same natives are killed
pub record SameNatives (p : Image) (w : Standing) (cs : List Cell) (killed : List ℕ) : Type 0 where
  pub sessions : (n : ℕ) → is_open w n ≡ in_session cs n
  pub dead : w.killed ≡ killed
  pub limit : length w.flags ≡ p.header.cells

-- the machine stands for a state
pub record Agrees (p : Image) (m : Parts) (s : State) : Type 0 where
  pub tasks : SameTasks m.stack.tasks s.tasks
  pub values : (r : Place) → Represents (value m r) (word_at s.tasks r) (held s.cells r)
  pub cells : SameCells p m.cells s.cells
  pub entries : SameItems m.entries.items s.items
  pub requests : SameRequests p m.active s.cells
  pub natives : SameNatives p m.sessions s.cells s.killed
  pub services : SameServices p m.clients m.messages m.tokens m.listed s.cells s.clients
  pub rest : m.rest ≡ s.rest
  pub room : 2048 ≤ m.stack.depth
  pub entry_room : 1024 ≤ m.entries.depth

-- the word that the machine has heard of a native
abbrev pub observed_by : Parts → ℤ
observed_by m = int_wrap w32 m.observed
