-- What is next in a state of the checked machine, and where the root's destruction is due.
use Rattle.std.specs.Prelude.{ℕ, pos, ◌≡◌, ◌<◌, Bool, true, false, not, ◌&&◌, List, [], ◌∷◌, length, Option, Some, None, is_some}
use Rattle.std.specs.Ordering.{int_eq}
use Rattle.aom_image.specs.Image.{Image}
use Rattle.aom_image.specs.declared.method.Role.TheVariants.{Destruct, Error as Answers}
use Rattle.aom_image.specs.declared.method.Thing.{Thing}
use Rattle.aom_image.specs.declared.method.Thing.TheVariants.{Object as An_object_of, Message}
use Rattle.aom_link_conditions.specs.Roles.{role_of}
use Rattle.aom_semantics.specs.Destruction.{first_session}
use Rattle.aom_semantics.specs.Places.{Cell, Elsewhere, Going, Object, Root, held, service_of}
use Rattle.aom_semantics.specs.State.{Answered, Asks, Closing, Destroy, Dispatch, Dispatched, Main_left, Object_left, Of_main, Of_object, Of_root, Of_server, Run, OwnedObject, State, Task, Trapped, Unwind}
use Rattle.aom_transcript.specs.declared.line.Ending.{Ending}
use Rattle.aom_machine_instructions.specs.Serving.{session_there}
use Rattle.aom_cells.specs.Heap.{null}
use Rattle.aom_clients.specs.Clients.{first_there, sessions_at}
use Rattle.aom_frames.specs.declared.task.Task.{Task as Machine_task}
use Rattle.aom_frames.specs.declared.task.Task.TheVariants.{Destroy as Destroys}
use Rattle.aom_machine_state.specs.declared.parts.Parts.{Parts}
use Rattle.aom_debug_protocol.specs.declared.spot.CodeLocation.{CodeLocation}
use Rattle.aom_debug_protocol.specs.declared.answer.Answer.{Answer}
use Rattle.aom_debug_protocol.specs.declared.answer.Answer.TheVariants.{At, Gone, Between, Ended}

-- ---- destructions

-- the first step of a destruction: of its class's destructor, or else the going of the cell
abbrev pub begins_by : ℕ → Option ℕ → Answer
begins_by class None = Gone class
begins_by class (Some method) = At (record { method = method; place = 0 })

abbrev pub destruction_by : Image → Thing → Answer
destruction_by p (An_object_of class) = begins_by class (role_of p class Destruct)
destruction_by p Message = Ended

-- a session with it goes before a server
abbrev pub goes_first : Object → Option OwnedObject → Thing
goes_first o None = o.thing
goes_first o (Some x) = x.object.thing

-- of what a place owns; nothing owned, nothing to destroy
abbrev pub destruction_of : Image → List Cell → Option Object → Answer
destruction_of p cs None = Ended
destruction_of p cs (Some o) = destruction_by p (goes_first o (first_session cs o.name (service_of cs o.name).sessions))

-- the going of what a place owns
abbrev pub gone_by : Thing → Answer
gone_by (An_object_of class) = Gone class
gone_by Message = Ended

abbrev pub going_of : Option Object → Answer
going_of None = Ended
going_of (Some o) = gone_by o.thing

-- ---- what a machine shows of it

-- the number of the cell that goes first as that one is destroyed: of the first session with a server that is there, or itself
abbrev pub first_number : Option ℕ → ℕ → ℕ
first_number None n = n
first_number (Some session) n = session

pub record GoesFirst (m : Parts) (n first : ℕ) : Type 0 where
  pub number : first ≡ first_number (session_there (first_there m.clients (sessions_at m.clients n)) m.clients) n
  pub below : first < null

-- the cell that the task right under the one on top lets go
abbrev pub destroyed : Machine_task → Option ℕ
destroyed (Destroys x) = Some x
destroyed _ = None

abbrev pub destroyed_under : List Machine_task → Option ℕ
destroyed_under (t ∷ u ∷ ts) = destroyed u
destroyed_under _ = None

-- ---- what is next

-- where a server lets go of its sessions
abbrev pub next_closing : Image → State → List Task → Answer
next_closing p s (Destroy ∷ ts) = destruction_of p s.cells (held s.cells (Going (length ts)))
next_closing p s _ = Ended

abbrev pub next_in : Image → State → List Task → Answer
next_in p s [] = Between s.rest.clock
next_in p s (Run fr ∷ ts) = At (record { method = fr.method; place = fr.place })
next_in p s (Destroy ∷ ts) = going_of (held s.cells (Going (length ts)))
next_in p s (Closing ∷ ts) = next_closing p s ts
next_in p s (Trapped ∷ ts) = destruction_of p s.cells (held s.cells (Elsewhere Root))
next_in p s (Unwind code ∷ ts) = destruction_of p s.cells (held s.cells (Elsewhere Root))
next_in p s (Dispatched d ∷ ts) = destruction_of p s.cells (held s.cells (Elsewhere Root))

abbrev pub next_by : Image → State → Option Ending → Answer
next_by p s None = next_in p s s.tasks
next_by p s (Some ending) = Ended

abbrev pub next_of : Image → State → Answer
next_of p s = next_by p s s.rest.ended

-- the instruction that an answer tells of as next
abbrev pub spot_of : Answer → Option CodeLocation
spot_of (At spot) = Some spot
spot_of _ = None

-- ---- the end of a dispatch in which `stop` was run

-- an object's `error` method, if its class has one
abbrev pub has_answer : Image → Thing → Bool
has_answer p (An_object_of class) = is_some (role_of p class Answers)
has_answer p Message = false

-- with the end of the dispatch all that was at hand is over, and the run goes on
abbrev pub ends_all : Image → Dispatch → Bool
ends_all p Of_main = true
ends_all p (Main_left code) = false
ends_all p Of_root = false
ends_all p (Of_object x) = true
ends_all p (Object_left x code) = int_eq code (pos 0) && not (has_answer p x.object.thing)
ends_all p (Asks x) = true
ends_all p (Answered x answer) = int_eq answer (pos 0)
-- it ends as one of an object first
ends_all p (Of_server x client stage) = false

abbrev pub ends_all_in : Image → List Task → Bool
ends_all_in p (Dispatched d ∷ ts) = ends_all p d
ends_all_in p _ = false

-- the root's destruction is due
abbrev pub root_is_due : Image → State → Bool
root_is_due p s = s.rest.stopped && (is_some (held s.cells (Elsewhere Root)) && ends_all_in p s.tasks)

-- the dispatch is at an end after which the run may go on
abbrev pub is_last : Dispatch → Bool
is_last (Main_left code) = false
is_last Of_root = false
is_last (Of_server x client stage) = false
is_last _ = true

abbrev pub is_last_in : List Task → Bool
is_last_in (Dispatched d ∷ ts) = is_last d
is_last_in _ = false

-- the machine stays there, and the root's destruction is not due
abbrev pub pauses : Image → State → Bool
pauses p s = not (is_some s.rest.ended) && (s.rest.stopped && (is_last_in s.tasks && not (root_is_due p s)))
