-- The parts of a turn, as a machine takes them one by one between dispatches.
use Rattle.std.specs.Prelude.{◌≡◌, ◌<◌, ◌≤◌, ◌++◌, ℕ, ℤ, Bool, true, false, List, [], ◌∷◌, Option, None, Some, IsSome}
use Rattle.aom_image.specs.Image.{Image}
use Rattle.aom_image.specs.declared.method.Role.TheVariants.{Run as Handles}
use Rattle.aom_link_conditions.specs.Roles.{role_of}
use Rattle.aom_cells.specs.Heap.{class_at}
use Rattle.aom_scheduler.specs.Requests.{state_at, status_at}
use Rattle.aom_transcript.specs.declared.line.Line.TheVariants.{Run as Run_line}
use Rattle.aom_frames.specs.Tasks.{fresh}
use Rattle.aom_frames.specs.declared.task.Task.TheVariants.{Run, Trapped, Dispatched}
use Rattle.aom_frames.specs.declared.dispatch.Dispatch.{Dispatch}
use Rattle.aom_frames.specs.declared.dispatch.Dispatch.TheVariants.{Object as Of_one}
use Rattle.aom_frames.specs.declared.frame.Frame.{Frame}
use Rattle.aom_frames.specs.declared.item.Item.TheVariants.{Mark}
use Rattle.aom_semantics.specs.Places.{Cell}
use Rattle.aom_semantics.specs.State.{Goes, State}
use Rattle.aom_semantics.specs.World.{Candidate, Completes, Completion, IsBetween, Picks, Timed, Turning, cell_at, first_due, first_ready, has_signal, turned, written_by}
use Rattle.aom_machine_state.specs.LineBuffer.{LineBuffer}
use Rattle.aom_machine_state.specs.declared.parts.Parts.{Parts}
use Rattle.aom_machine_state.specs.Stands.{MachineModel, Refines}

-- a part of a turn, with its lines, to a state that the machine then stands for
pub record Takes (old : MachineModel) (s : State) (part : Turning) (reported now : LineBuffer) (new : MachineModel) : Type 0 where
  pub between : IsBetween s
  pub state : State
  pub goes : turned old.image s part ≡ Goes state
  pub lines : now ≡ record reported { lines = reported.lines ++ written_by old.image s part }
  pub stands : Refines new state

-- so from each state that it stands for
abbrev pub TakesAll : MachineModel → Turning → MachineModel → Type 0
TakesAll old part new = (reported : LineBuffer) (s : State) → Refines old s → Takes old s part reported reported new

-- no timer is due by the clock
abbrev pub NoneDue : State → Type 0
NoneDue s = (x : Timed) → first_due s.cells ≡ Some x → s.rest.clock < x.timer.due

-- the timer that is due first completes the request of its object, if it is due by the clock
abbrev pub Completed : MachineModel → Bool → MachineModel → Type 0
Completed old true new = (reported : LineBuffer) (s : State) → Refines old s → (x : Timed) × (first_due s.cells ≡ Some x) × (x.timer.due ≤ s.rest.clock) × Takes old s (Completes x.object) reported reported new
Completed old false new = (new ≡ old) × ((s : State) → Refines old s → NoneDue s)

-- the ready object or server that goes before all others is dispatched, with its line; there is none where nothing signals
abbrev pub Picked : MachineModel → Bool → LineBuffer → LineBuffer → MachineModel → Type 0
Picked old true reported now new = (s : State) → Refines old s → (x : Candidate) × (first_ready s.cells ≡ Some x) × (has_signal s.cells ≡ true) × Takes old s (Picks x.owned_object) reported now new
Picked old false reported now new = (new ≡ old) × (now ≡ reported) × ((s : State) → Refines old s → has_signal s.cells ≡ false)

-- the cell of that number is completed with that code, or nothing is, as a native answers that is polled
abbrev pub Answers : List Cell → Option (ℕ × ℤ) → Option Completion → Type 0
Answers cells None None = Unit {0}
Answers cells None (Some a) = ⊥
Answers cells (Some x) None = ⊥
Answers cells (Some x) (Some a) = (c : Cell) × (cell_at cells a.cell ≡ Some c) × (c.object.name ≡ x.0) × (a.code ≡ x.1)

-- ---- a dispatch begins

-- the cell of that number lives, its class has a method that handles a signal, it is enlisted as an object, and nothing is at hand
pub record CanDispatch (p : Image) (m : Parts) (id : ℕ) : Type 0 where
  pub class : ℕ
  pub is : class_at m.cells id ≡ Some class
  pub small : class < 256
  pub handled : IsSome (role_of p class Handles)
  pub enlisted : IsSome (state_at m.active.table id)
  pub idle : m.stack.tasks ≡ []
  pub bare : m.entries.items ≡ []
  pub room : 1024 ≤ m.stack.depth

-- nothing is at hand, and there is room
pub record IsIdle (m : Parts) : Type 0 where
  pub idle : m.stack.tasks ≡ []
  pub bare : m.entries.items ≡ []
  pub room : 1024 ≤ m.stack.depth

-- a method runs under the trap of that dispatch
abbrev pub begins_under : Dispatch → Frame → Parts → Parts
begins_under d f m = record m { stack = record m.stack { tasks = Run f ∷ Trapped ∷ Dispatched d ∷ m.stack.tasks }; entries = record m.entries { items = Mark ∷ m.entries.items } }

-- that of an object, which has taken no step
abbrev pub running : (method class id : ℕ) → Parts → Parts
running method class id m = begins_under (Of_one (record { number = id; class = class })) (fresh method id) (record m { rest = record m.rest { steps = 0; polled = 0 } })

-- the cell of that number is dispatched, by its class, with its line
pub record Dispatches (p : Image) (id : ℕ) (old : Parts) (reported now : LineBuffer) (new : Parts) : Type 0 where
  pub class : ℕ
  pub is : class_at old.cells id ≡ Some class
  pub method : ℕ
  pub handles : role_of p class Handles ≡ Some method
  pub status : ℤ
  pub completed : status_at old.active.table id ≡ Some status
  pub lines : now ≡ record reported { lines = reported.lines ++ (Run_line old.rest.clock class status ∷ []) }
  pub runs : new ≡ running method class id old
