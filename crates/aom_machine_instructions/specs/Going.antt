-- Where a destruction begins.
use Rattle.std.specs.Prelude.{ℕ, Bool, cond, is_some, List, [], ◌∷◌, Option, Some, None, false}
use Rattle.aom_image.specs.Image.{Image}
use Rattle.aom_image.specs.Views.{method_class}
use Rattle.aom_image.specs.WellFormed.{is_dispatched}
use Rattle.aom_image.specs.declared.class.ClassKind.{ClassKind}
use Rattle.aom_image.specs.declared.method.Role.TheVariants.{Destruct}
use Rattle.aom_link_conditions.specs.Roles.{role_of}
use Rattle.aom_roles.specs.Classes.{sessions_in}
use Rattle.aom_roles.specs.Shapes.{kind_of}
use Rattle.aom_cells.specs.Heap.{Heap, null, class_at}
use Rattle.aom_semantics.specs.State.{raised}
use Rattle.aom_frames.specs.Tasks.{fresh, below_first, with_view}
use Rattle.aom_frames.specs.Views.{view_in}
use Rattle.aom_frames.specs.declared.frame.Frame.{Frame}
use Rattle.aom_frames.specs.declared.task.Task.{Task}
use Rattle.aom_frames.specs.declared.task.Task.TheVariants.{Run, Trapped, Destroy, Closing, Unwind, Dispatched}
use Rattle.aom_frames.specs.declared.dispatch.Dispatch.{Dispatch}
use Rattle.aom_frames.specs.declared.dispatch.Dispatch.TheVariants.{Root}
use Rattle.aom_machine_state.specs.declared.parts.Parts.{Parts}

-- the destructor of a class
abbrev pub destructor_in : Image → Option ℕ → Option ℕ
destructor_in p None = None
destructor_in p (Some class) = role_of p class Destruct

-- the destructor of the cell at a number
abbrev pub destructor_at : Image → Heap → ℕ → Option ℕ
destructor_at p h n = destructor_in p (class_at h n)

-- while it runs the object counts as the class that the destructor is of
abbrev pub destructor_frame : Image → ℕ → ℕ → Frame
destructor_frame p method n = with_view (view_in (method_class p method)) (fresh method n)

-- over these tasks the destructor of a cell runs, if there is one
abbrev pub destructed : Image → Option ℕ → ℕ → List Task → List Task
destructed p None n ts = ts
destructed p (Some method) n ts = Run (destructor_frame p method n) ∷ ts

-- objects of that class are servers
abbrev pub is_server_class : Image → Option ℕ → Bool
is_server_class p class = is_some (sessions_in (kind_of p class))

-- objects of a class of that kind are dispatched
abbrev pub dispatches : Option ClassKind → Bool
dispatches None = false
dispatches (Some kind) = is_dispatched kind

-- objects of that class are
abbrev pub is_dispatched_class : Image → Option ℕ → Bool
is_dispatched_class p class = dispatches (kind_of p class)

-- the destruction of a cell of that class begins over these tasks: of a server the sessions with it go first
abbrev pub begun : Image → Option ℕ → ℕ → List Task → List Task
begun p class n ts = cond (is_server_class p class) (Closing ∷ Destroy n ∷ ts) (destructed p (destructor_in p class) n (Destroy n ∷ ts))

-- the destruction of the cell at a number begins
abbrev pub dying : Image → Heap → ℕ → List Task → List Task
dying p h n ts = begun p (class_at h n) n ts

-- the dispatch that is at its end
abbrev pub ending_here : List Task → Option Dispatch
ending_here [] = None
ending_here (Run f ∷ ts) = None
ending_here (Trapped ∷ ts) = None
ending_here (Destroy x ∷ ts) = None
ending_here (Closing ∷ ts) = None
ending_here (Unwind code ∷ ts) = None
ending_here (Dispatched d ∷ ts) = Some d

-- the root is at hand to go, over the end of the run
abbrev pub root_removed : Image → Parts → Parts
root_removed p m =
    record m {
      stack = record m.stack { tasks = dying p m.cells m.root (Dispatched Root ∷ below_first m.stack.tasks) };
      root = null;
      rest = record m.rest { clock = raised m.rest.clock };
    }
