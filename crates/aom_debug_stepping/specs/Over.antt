-- What is to be over: a step with all that it calls, traps or destroys, or the innermost method at hand.
use Rattle.std.specs.Prelude.{ℕ, zero, suc, Bool, true, false, cond, List, [], ◌∷◌, length, Option, Some, slice_get}
use Rattle.aom_frames.specs.declared.task.Task.{Task as Machine_task}
use Rattle.aom_frames.specs.declared.task.Task.TheVariants.{Run as Runs_frame}
use Rattle.aom_semantics.specs.State.{Run, Task}
use Rattle.aom_debug_stepping.specs.declared.over.Awaited.{Awaited}
use Rattle.aom_debug_stepping.specs.declared.over.Awaited.TheVariants as scopes

abbrev pub is_method : Task → Bool
is_method (Run fr) = true
is_method _ = false

-- how many tasks are at hand beneath the innermost method, and none where no method is at hand
abbrev pub under_method : List Task → ℕ
under_method [] = 0
under_method (t ∷ ts) = cond (is_method t) (length ts) (under_method ts)

-- how many may be at hand where that is over
abbrev pub depth_of : Awaited → List Task → ℕ
depth_of scopes.Step tasks = length tasks
depth_of scopes.Method tasks = under_method tasks

-- ---- what a machine shows of it

abbrev pub runs_there : Option Machine_task → Bool
runs_there (Some (Runs_frame f)) = true
runs_there _ = false

-- of the first so many from the bottom the last that is a method
abbrev pub last_run : List Machine_task → ℕ → ℕ
last_run tasks zero = 0
last_run tasks (suc n) = cond (runs_there (slice_get tasks n)) n (last_run tasks n)
