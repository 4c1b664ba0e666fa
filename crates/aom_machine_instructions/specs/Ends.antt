-- How a dispatch ends.
use Rattle.std.specs.Prelude.{◌≢◌, ◌<◌, ◌+◌, ◌&&◌, ◌==◌, ℕ, ℤ, pos, Bool, true, false, not, cond, List, ◌∷◌, Option, Some, None, IfSome, length}
use Rattle.std.specs.Int.{w32, cast_signed, cast_unsigned}
use Rattle.std.specs.Ordering.{int_eq}
use Rattle.aom_image.specs.Image.{Image}
use Rattle.aom_image.specs.declared.method.Gives.{Gives}
use Rattle.aom_image.specs.declared.method.Gives.TheVariants.{Word as A_word}
use Rattle.aom_cells.specs.Heap.{null, Lives, class_at}
use Rattle.aom_transcript.specs.declared.line.Ending.TheVariants.{Error, Stopped}
use Rattle.aom_semantics.specs.State.{Counters, raised}
use Rattle.aom_frames.specs.Tasks.{below_first, fresh, with_register}
use Rattle.aom_frames.specs.declared.dispatch.Dispatch.{Dispatch}
use Rattle.aom_frames.specs.declared.dispatch.Dispatch.TheVariants.{Main, MainLeft, Root, Object, ObjectLeft, Asks, Answered, Server}
use Rattle.aom_frames.specs.declared.dispatch.Stage.TheVariants.{Accepted, Accepts, AcceptLeft, Serves, ServiceLeft}
use Rattle.aom_frames.specs.declared.dispatch.Subject.{Subject}
use Rattle.aom_frames.specs.declared.task.Task.{Task}
use Rattle.aom_frames.specs.declared.task.Task.TheVariants.{Run, Dispatched}
use Rattle.aom_machine_state.specs.declared.parts.Parts.{Parts}
use Rattle.aom_machine_instructions.specs.Going.{root_removed}
use Rattle.aom_machine_state.specs.Places.{with_tasks}

-- the root's destruction and its destructor find room there, and the root lives, if there is one
pub record CanEnd (m : Parts) : Type 0 where
  pub lives : m.root ≢ null → Lives m.cells m.root
  pub small : IfSome (class_at m.cells m.root) (λ class. class < 256)
  pub room : (length (below_first m.stack.tasks) + 2) < m.stack.depth

-- ---- counts

abbrev pub closed_counts : Counters → Counters
closed_counts r = record r { clock = raised r.clock; ended = cond r.stopped (Some Stopped) None }

abbrev pub handled_counts : Counters → Counters
handled_counts r = record r { steps = 0; dispatches = raised r.dispatches }

abbrev pub failed_counts : ℤ → Counters → Counters
failed_counts answer r = record (handled_counts r) { clock = raised r.clock; ended = Some (Error answer) }

-- ---- what is left of a dispatch

-- nothing, and the run is over where `stop` was run
abbrev pub closed : Parts → Parts
closed m = record m { stack = record m.stack { tasks = below_first m.stack.tasks }; rest = closed_counts m.rest }

-- but for the root, which is at hand to go then
abbrev pub ended_dispatch : Image → Parts → Parts
ended_dispatch p m = cond (m.rest.stopped && not (m.root == null)) (root_removed p m) (closed m)

-- the dispatch of an object counts
abbrev pub handled : Parts → Parts
handled m = record m { rest = handled_counts m.rest }

-- with that answer the run is over
abbrev pub failed : ℤ → Parts → Parts
failed answer m = record m { stack = record m.stack { tasks = below_first m.stack.tasks }; rest = failed_counts answer m.rest }

abbrev pub ended_answered : Image → ℤ → Parts → Parts
ended_answered p answer m = cond (int_eq answer (pos 0)) (ended_dispatch p (handled m)) (failed answer m)

-- the method that answers runs on the code; where there is none, the code is the answer
abbrev pub asking : Image → Option ℕ → Subject → ℤ → Parts → Parts
asking p None x code m = ended_answered p code m
asking p (Some method) x code m = with_tasks (Run (with_register 0 (cast_unsigned w32 code) (fresh method x.number)) ∷ Dispatched (Asks x) ∷ below_first m.stack.tasks) m

-- ---- how a dispatch comes to its end

-- its method left with that code
abbrev pub left : ℤ → Dispatch → Dispatch
left code Main = MainLeft code
left code (Object x) = ObjectLeft x code
left code (Server x client Accepts) = Server x client (AcceptLeft code)
left code (Server x client (Serves o)) = Server x client (ServiceLeft code)
left code d = d

-- the method that a server's dispatch ran has returned: a session is given, or a message is served
abbrev pub served : Dispatch → Dispatch
served (Server x client Accepts) = Server x client Accepted
served (Server x client (Serves o)) = Object x
served d = d

abbrev pub left_by : ℤ → List Task → List Task
left_by code (Dispatched d ∷ ts) = Dispatched (left code d) ∷ ts
left_by code ts = ts

abbrev pub served_by : List Task → List Task
served_by (Dispatched d ∷ ts) = Dispatched (served d) ∷ ts
served_by ts = ts

-- its `error` method has answered
abbrev pub observed : ℤ → Dispatch → Dispatch
observed answer (Asks x) = Answered x answer
observed answer d = d

-- the answer, by the number in the register that the method returns
abbrev pub reported_by : Gives → ℕ → ℤ
reported_by A_word n = cast_signed w32 n
reported_by _ n = pos 0

-- once `stop` was run the machine stays there until the next step, but where main left, where the root is gone, and where a server's dispatch is to end as an object's
abbrev pub is_last : Dispatch → Bool
is_last (MainLeft code) = false
is_last Root = false
is_last (Server x client stage) = false
is_last _ = true

abbrev pub halts : Counters → Dispatch → Bool
halts r d = r.stopped && is_last d
