-- A number that falls with each step, while something is at hand: the rank of the states that a machine stands for.
use Rattle.std.specs.Prelude.{ℕ, ◌+◌, ◌-◌, ◌*◌, suc, List, [], ◌∷◌, map, None}
use Rattle.aom_cells.specs.Heap.{count}
use Rattle.aom_image.specs.Image.{Image}
use Rattle.aom_machine_state.specs.declared.parts.Parts.{Parts}
use Rattle.aom_semantics.specs.State.{Static, Task, Run, Trapped, Destroy, Closing, Unwind, Dispatched}
use Rattle.aom_frames.specs.declared.task.Task.{Task as Machine_task}
use Rattle.aom_frames.specs.declared.task.Task.TheVariants.{Run as Runs_frame, Trapped as Is_trap, Destroy as Destroys, Closing as Closes, Unwind as Unwinds, Dispatched as Ends}
use Rattle.aom_frames.specs.declared.item.Item.{Item as Machine_item}
use Rattle.aom_frames.specs.declared.item.Item.TheVariants.{Object as Holds_object, Operation as Holds_operation, Mark as Is_mark}
use Rattle.aom_termination.specs.Ranks.{tasks_rank, destructions, cell_rank}
use Rattle.aom_semantics.specs.Places.{Elsewhere, Root}
use Rattle.aom_machine_state.specs.Agrees.{dispatch_of}

-- a task, by all that its rank hangs on
abbrev pub ranked : Machine_task → Task
ranked (Runs_frame f) = Run (record { method = f.method; place = f.place; words = []; counters = f.counters; receiver = Static; height = 0; view = None })
ranked Is_trap = Trapped
ranked (Destroys x) = Destroy
ranked Closes = Closing
ranked (Unwinds code) = Unwind code
-- where its object sits its rank does not tell
ranked (Ends d) = Dispatched (dispatch_of (Elsewhere Root) d)

-- how many operations are on the cleanup stack
abbrev pub operations_in : List Machine_item → ℕ
operations_in [] = 0
operations_in (Holds_object n ∷ is) = operations_in is
operations_in (Holds_operation m n ∷ is) = suc (operations_in is)
operations_in (Is_mark ∷ is) = operations_in is

-- so many cells live, and those that go have paid; an operation pays for its run, and a message for nothing
abbrev pub rank_of : Image → List Machine_task → List Machine_item → ℕ → ℕ
rank_of p tasks items cells = tasks_rank p (map ranked tasks) + ((cells - destructions (map ranked tasks)) + operations_in items) * cell_rank p

abbrev pub rank_in : Image → Parts → ℕ
rank_in p m = rank_of p m.stack.tasks m.entries.items (count m.cells)
