-- What is claimed of each place, from the methods at hand and their abstract states.
use Rattle.std.specs.Prelude.{ℕ, ℤ, Bool, true, false, cond, ◌==◌, map, List, [], ◌∷◌, Option, Some, None, length, ◌&&◌}
use Rattle.aom_image.specs.Image.{Image}
use Rattle.aom_image.specs.declared.method.Gives.{Gives}
use Rattle.aom_roles.specs.Things.{Holder, Program, field_thing, holder_of}
use Rattle.aom_abstract_state.specs.AbstractState.{AbstractState}
use Rattle.aom_abstract_state.specs.Kinds.{entry_kind, filled, register, field}
use Rattle.aom_abstract_state.specs.declared.kind.InitState.TheVariants.{Ready}
use Rattle.aom_abstract_state.specs.declared.kind.CleanupEntry.{CleanupEntry}
use Rattle.aom_abstract_state.specs.declared.kind.CleanupEntry.TheVariants.{Object as Pushed_object, Operation as Pushed_operation}
use Rattle.aom_abstract_state.specs.declared.kind.FieldState.{FieldState}
use Rattle.aom_abstract_state.specs.declared.kind.FieldState.TheVariants.{Perhaps, Full}
use Rattle.aom_abstract_state.specs.declared.kind.Kind.{Kind}
use Rattle.aom_abstract_state.specs.declared.kind.Kind.TheVariants.{Null, Own}
use Rattle.aom_image.specs.Views.{method_role}
use Rattle.aom_image.specs.declared.method.Thing.{Thing}
use Rattle.aom_image.specs.declared.method.Thing.TheVariants.{Message}
use Rattle.aom_roles.specs.Roles.{is_service}
use Rattle.aom_abstract_state.specs.declared.kind.MessageState.{MessageState}
use Rattle.aom_abstract_state.specs.declared.kind.MessageState.TheVariants.{Here, Gone}
use Rattle.aom_semantics.specs.Servers.{message_thing, has_message, has_session, session_thing, is_among}
use Rattle.aom_semantics.specs.Places.{Place, Register, Entry, Field, Going, Elsewhere, Other, Root, Session, In_service, Queued, Object, Cell, named, service_of}
use Rattle.aom_semantics.specs.State.{Receiver, Static, AtRoot, Inside, Frame, Dispatch, Of_root, OwnedObject, Task, Run, Trapped, Destroy, Unwind, Dispatched, Item, An_object, An_operation, A_mark, thing_holder, Closing, Of_server, Serves, Service_left, Disconnects}

-- the method serves messages
abbrev pub serves : Image → ℕ → Bool
serves p m = is_service (method_role p m)

-- what stands behind a task: a method with its abstract state, a trap's mark, a cell that is going, a leave with the entries that are still to unwind, or a dispatch with the seats from its object's up to the root
pub data Layer : Type 0 where
  Method : Frame → AbstractState → Layer
  Mark : (gives : Gives) → Layer
  Dying : Object → Layer
  -- these sessions with a server that is going go first
  Ending : Object → (left : List ℕ) → Layer
  Unwinding : (code : ℤ) (entries : List CleanupEntry) → Layer
  Dispatching : Dispatch → (owned_chain : List OwnedObject) → Layer

abbrev pub task_of : Layer → Task
task_of (Method fr sh) = Run fr
task_of (Mark gv) = Trapped
task_of (Dying o) = Destroy
task_of (Ending o left) = Closing
task_of (Unwinding code es) = Unwind code
task_of (Dispatching d owned_chain) = Dispatched d

abbrev pub tasks_of : List Layer → List Task
tasks_of [] = []
tasks_of (l ∷ ls) = task_of l ∷ tasks_of ls

abbrev pub entries_of : Layer → List CleanupEntry
entries_of (Method fr sh) = sh.entries
entries_of (Mark gv) = []
entries_of (Dying o) = []
entries_of (Ending o left) = []
entries_of (Unwinding code es) = es
entries_of (Dispatching d owned_chain) = []

-- what is known of an item of the cleanup stack
pub data Form : Type 0 where
  Object_form : Form
  Operation_form : Form
  Mark_form : Form

abbrev pub form : Item → Form
form An_object = Object_form
form (An_operation m w) = Operation_form
form A_mark = Mark_form

abbrev pub forms : List Item → List Form
forms items = map form items

abbrev pub entry_form : CleanupEntry → Form
entry_form (Pushed_object c a) = Object_form
entry_form Pushed_operation = Operation_form

-- an item for each entry, over others
abbrev pub objects : List CleanupEntry → List Form → List Form
objects [] below = below
objects (e ∷ es) below = entry_form e ∷ objects es below

abbrev pub layer_items : Layer → List Form → List Form
layer_items (Method fr sh) below = objects sh.entries below
layer_items (Mark gv) below = Mark_form ∷ below
layer_items (Dying o) below = below
layer_items (Ending o left) below = below
layer_items (Unwinding code es) below = objects es below
layer_items (Dispatching d owned_chain) below = below

abbrev pub items_of : List Layer → List Form
items_of [] = []
items_of (l ∷ ls) = layer_items l (items_of ls)

-- a claim of each layer goes before those of the layers below it
abbrev pub entry_claim : List CleanupEntry → List Form → ℕ → Kind → Kind
entry_claim [] items k below = below
entry_claim (x ∷ xs) items k below = cond (length (objects xs items) == k) (entry_kind x) (entry_claim xs items k below)

abbrev pub register_claim : Layer → ℕ → ℕ → ℕ → Kind → Kind
register_claim (Method fr sh) depth f i below = cond (depth == f) (register sh i) below
register_claim (Mark gv) depth f i below = below
register_claim (Dying o) depth f i below = below
register_claim (Ending o left) depth f i below = below
register_claim (Unwinding code es) depth f i below = below
register_claim (Dispatching d owned_chain) depth f i below = below

-- of the fields that the method's class declares a method claims what it knows, and of the others what is claimed below
abbrev pub own_field : Option Thing → FieldState → Kind → Kind
own_field None x below = below
own_field (Some t) x below = filled (Some t) x

abbrev pub receiver_claim : Image → Holder → Receiver → AbstractState → ℕ → ℕ → Kind → Kind
receiver_claim p h Static sh n f below = below
receiver_claim p h AtRoot sh n f below = below
receiver_claim p h (Inside o from) sh n f below = cond (o.name == n) (own_field (field_thing p h f) (field sh f) below) below

abbrev pub field_claim : Image → Layer → ℕ → ℕ → Kind → Kind
field_claim p (Method fr sh) n f below = receiver_claim p (holder_of p fr.method) fr.receiver sh n f below
field_claim p (Mark gv) n f below = below
field_claim p (Dying o) n f below = cond (o.name == n) Null below
field_claim p (Ending o left) n f below = cond (o.name == n) (filled (field_thing p (thing_holder o.thing) f) Perhaps) below
field_claim p (Unwinding code es) n f below = below
field_claim p (Dispatching d owned_chain) n f below = below

abbrev pub going_claim : Layer → ℕ → ℕ → Kind → Kind
going_claim (Method fr sh) depth k below = below
going_claim (Mark gv) depth k below = below
going_claim (Dying o) depth k below = cond (depth == k) (Own o.thing Ready) below
going_claim (Ending o left) depth k below = below
going_claim (Unwinding code es) depth k below = below
going_claim (Dispatching d owned_chain) depth k below = below

abbrev pub root_claim : Image → Receiver → AbstractState → Kind → Kind
root_claim p Static sh below = below
root_claim p AtRoot sh below = filled (field_thing p Program 0) (field sh 0)
root_claim p (Inside o from) sh below = below

-- the root goes, or is gone
abbrev pub is_of_root : Dispatch → Bool
is_of_root Of_root = true
is_of_root _ = false

-- what a layer claims of the root
abbrev pub by_root : Image → Layer → Kind → Kind
by_root p (Method fr sh) below = root_claim p fr.receiver sh below
by_root p (Mark gv) below = below
by_root p (Dying o) below = below
by_root p (Ending o left) below = below
by_root p (Unwinding code es) below = below
by_root p (Dispatching d owned_chain) below = cond (is_of_root d) Null below

-- what a layer claims of the session of a client: of a server that is going those that are left are there and no other, and none of a client whose close is served
abbrev pub by_close : Dispatch → ℕ → ℕ → Kind → Kind
by_close (Of_server x client Disconnects) s c below = cond ((x.object.name == s) && (client == c)) Null below
by_close _ s c below = below

abbrev pub by_session : Image → Layer → ℕ → ℕ → Kind → Kind
by_session p (Method fr sh) s c below = below
by_session p (Mark gv) s c below = below
by_session p (Dying o) s c below = cond (o.name == s) Null below
by_session p (Ending o left) s c below = cond (o.name == s) (cond (is_among c left) (filled (session_thing p (Some o)) Full) Null) below
by_session p (Unwinding code es) s c below = below
by_session p (Dispatching d owned_chain) s c below = by_close d s c below

-- of the message that is served: it is there until it is taken, and then the method that serves knows of it
abbrev pub delivered : MessageState → Kind
delivered Here = Own Message Ready
delivered Gone = Null

abbrev pub by_stage : Dispatch → Kind → Kind
by_stage (Of_server x client (Serves o)) below = Own Message Ready
by_stage (Of_server x client (Service_left code)) below = Own Message Ready
by_stage _ below = below

abbrev pub by_service : Image → Layer → Kind → Kind
by_service p (Method fr sh) below = cond (serves p fr.method) (delivered sh.message_state) below
by_service p (Mark gv) below = below
by_service p (Dying o) below = below
by_service p (Ending o left) below = below
by_service p (Unwinding code es) below = below
by_service p (Dispatching d owned_chain) below = by_stage d below

abbrev pub other_claim : Image → Layer → Other → Kind → Kind
other_claim p l Root below = by_root p l below
other_claim p l (Session s c) below = by_session p l s c below
other_claim p l In_service below = by_service p l below
other_claim p l (Queued s m) below = below

abbrev pub layer_claim : Image → Layer → ℕ → List Form → Place → Kind → Kind
layer_claim p l depth items (Register f i) below = register_claim l depth f i below
layer_claim p l depth items (Entry k) below = entry_claim (entries_of l) items k below
layer_claim p l depth items (Field n f) below = field_claim p l n f below
layer_claim p l depth items (Going k) below = going_claim l depth k below
layer_claim p l depth items (Elsewhere o) below = other_claim p l o below

abbrev pub claim : Image → (Place → Kind) → List Layer → Place → Kind
claim p declared [] r = declared r
claim p declared (l ∷ ls) r = layer_claim p l (length (tasks_of ls)) (items_of ls) r (claim p declared ls r)

-- what holds of each place with no method at hand: fields and the root are null or hold ready objects of their classes
abbrev pub declared_field : Image → Option Object → ℕ → Kind
declared_field p None f = Null
declared_field p (Some o) f = filled (field_thing p (thing_holder o.thing) f) Perhaps

-- a server has a session of each client that is among its sessions, and each message that is in its queue
abbrev pub declared_other : Image → List Cell → Other → Kind
declared_other p cs Root = filled (field_thing p Program 0) Perhaps
declared_other p cs (Session s c) = cond (has_session (service_of cs s) c) (filled (session_thing p (named cs s)) Full) Null
declared_other p cs In_service = Null
declared_other p cs (Queued s m) = cond (has_message (service_of cs s) m) (filled (message_thing p (named cs s)) Full) Null

abbrev pub declared : Image → List Cell → Place → Kind
declared p cs (Register f i) = Null
declared p cs (Entry k) = Null
declared p cs (Field n f) = declared_field p (named cs n) f
declared p cs (Going k) = Null
declared p cs (Elsewhere o) = declared_other p cs o
