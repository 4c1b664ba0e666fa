-- What moves leave: which methods are at hand, who owns each cell, which tokens requests wait for, and whose the messages are.
use Rattle.std.specs.Prelude.{ℕ, pos, ◌≡◌, map, List, [], ◌∷◌, Option, Some, None}
use Rattle.aom_image.specs.Image.{Image}
use Rattle.aom_image.specs.declared.method.Gives.TheVariants.{Nothing}
use Rattle.aom_image.specs.declared.method.Method.{Method}
use Rattle.aom_image.specs.declared.method.Role.TheVariants.{Cancel as Cancels, Destruct}
use Rattle.aom_image.specs.declared.method.Thing.TheVariants.{Message}
use Rattle.aom_instructions.specs.declared.instr.Instr.TheVariants.{Abort, PopDelete, Return, Stop}
use Rattle.aom_semantics.specs.Cases.Building.{Case, a_cell, a_method, at_bottom, begins, choice_of, fails, handing, image_of, inside, leaf, pair, small_image, state_of}
use Rattle.aom_semantics.specs.Cases.Events.{cells_left}
use Rattle.aom_semantics.specs.Cases.Moves.{an_image, moved_on}
use Rattle.aom_semantics.specs.Cases.Servers.{a_message, a_server, asked, owned_object}
use Rattle.aom_semantics.specs.Cases.Tokens.{a_token, handing_cell, hand_case, reply_case, waiting_cell}
use Rattle.aom_semantics.specs.Moves.{step}
use Rattle.aom_semantics.specs.Places.{Active, Cancelling, Cell, Elsewhere, Entry, Going, Idle, Message_of, Place, Queued, Request, Sender}
use Rattle.aom_semantics.specs.State.{A_mark, An_object, Destroy, Dispatched, Goes, IsStuck, Of_server, Outcome, Run, Service_left, State, Task, Unwind}
use Rattle.aom_semantics.specs.World.{boot_state}

-- ---- what is told of a state

abbrev pub tasks_left : Outcome → List Task
tasks_left (Goes s) = s.tasks
tasks_left (IsStuck kind) = []

abbrev pub current_method : Task → Option ℕ
current_method (Run fr) = Some fr.method
current_method _ = None

-- its name, and where it is owned
abbrev pub owned_so : Cell → ℕ × Place
owned_so c = (c.object.name, c.owner)

abbrev pub waited_for : Option Request → Option ℕ
waited_for None = None
waited_for (Some r) = r.token

abbrev pub token_waited_for : Cell → Option ℕ
token_waited_for c = waited_for c.request

abbrev pub sender_of : Cell → Option Sender
sender_of c = c.service.sender

-- the method of each task that is at hand then, none for what is no method, and the cells with their owners
abbrev pub Leaves : Outcome → List (Option ℕ) → List (ℕ × Place) → Type 0
Leaves after methods owners = (map current_method (tasks_left after) ≡ methods) × (map owned_so (cells_left after) ≡ owners)

abbrev pub after : Case → Outcome
after c = step (image_of c) (choice_of c) (begins c)

-- ---- the cases

-- the destructor of a pair
abbrev pub a_destructor : Method
a_destructor = record (a_method (Some 1) [] Nothing (Return 0 ∷ [])) { role = Destruct }

-- an object is popped and goes: its destructor runs first
abbrev pub popped : Case
popped = record (fails PopDelete []) { cells = a_cell 1 pair (Entry 1) ∷ []; items = An_object ∷ A_mark ∷ []; called = a_destructor }

-- a leave comes to an object, whose destructor runs first
abbrev pub unwound : State
unwound = state_of (Unwind (pos 7) ∷ at_bottom) (a_cell 1 pair (Entry 1) ∷ []) (An_object ∷ A_mark ∷ [])

-- of two objects it comes to the last that was pushed
abbrev pub unwound_of_two : State
unwound_of_two = state_of (Unwind (pos 7) ∷ at_bottom) (a_cell 1 leaf (Entry 1) ∷ a_cell 2 leaf (Entry 2) ∷ []) (An_object ∷ An_object ∷ A_mark ∷ [])

-- a server goes with a message in its queue
abbrev pub with_its_queue : State
with_its_queue = state_of (Destroy ∷ at_bottom) (record (a_server (asked (Message_of 0 1 ∷ []))) { owner = Going 2 } ∷ a_cell 1 Message (Elsewhere (Queued 5 1)) ∷ []) (A_mark ∷ [])

-- a `service` has left, and its message is there still
abbrev pub service_has_left : State
service_has_left = state_of (Dispatched (Of_server owned_object 0 (Service_left (pos 7))) ∷ []) (a_message ∷ []) []

-- the cancel method of an object that waits for a token
abbrev pub aborting : Case
aborting = record (fails Abort []) { receiver = inside handing; role = Cancels; cells = waiting_cell Cancelling ∷ [] }

-- an object hands out a token, where there is a place for a message
abbrev pub handing_out : Case
handing_out = hand_case (handing_cell Idle None ∷ []) []

abbrev pub with_a_place : Image → Image
with_a_place p = record p { header = record p.header { messages = 1 } }

abbrev pub handed_out : Outcome
handed_out = step (with_a_place (image_of handing_out)) (choice_of handing_out) (begins handing_out)

pub record MovesLeave : Type 0 where
  -- a run begins without a step
  pub boot : (boot_state an_image).rest.steps ≡ 0
  pub popdel : Leaves (after popped) (Some 1 ∷ None ∷ Some 0 ∷ None ∷ None ∷ []) ((1, Going 3) ∷ [])
  pub leave : Leaves (moved_on (small_image (a_method None [] Nothing (Stop ∷ [])) a_destructor) unwound) (Some 1 ∷ None ∷ None ∷ None ∷ None ∷ []) ((1, Going 3) ∷ [])
  pub last_first : Leaves (moved_on an_image unwound_of_two) (None ∷ None ∷ None ∷ None ∷ []) ((1, Entry 1) ∷ (2, Going 3) ∷ [])
  pub queue : Leaves (moved_on an_image with_its_queue) (None ∷ None ∷ []) []
  pub service : Leaves (moved_on an_image service_has_left) (None ∷ []) []
  -- it waits for no token then
  pub abort : map token_waited_for (cells_left (after aborting)) ≡ None ∷ []
  pub reply : map token_waited_for (cells_left (after (reply_case (a_token 3 ∷ waiting_cell Active ∷ []) []))) ≡ None ∷ []
  -- nobody has sent the token
  pub hand : map sender_of (cells_left handed_out) ≡ None ∷ None ∷ []
