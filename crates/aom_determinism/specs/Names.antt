-- A state under other names: each cell has another name, and whatever names a cell says the new one.
use Rattle.std.specs.Prelude.{ℕ, ◌≡◌, List, map}
use Rattle.aom_clients.specs.declared.client.Client.{Client}
use Rattle.aom_clients.specs.declared.client.Client.TheVariants.{Unconnected, Connecting, Open, Closing as Closing_client, Gone, Dead, Dying}
use Rattle.aom_semantics.specs.Places.{Place, Register, Entry, Field, Going, Elsewhere, Other, Root, Session, In_service, Queued, Object, Asked, Connect_of, Message_of, Close_of, Service, Cell}
use Rattle.aom_semantics.specs.State.{Receiver, Static, AtRoot, Inside, Frame, OwnedObject, Stage, Accepts, Accepted, Accept_left, Serves, Service_left, Disconnects, Dispatch, Of_main, Main_left, Of_root, Of_object, Object_left, Asks, Answered, Of_server, Task, Run, Trapped, Destroy, Closing, Unwind, Dispatched, State, Choice, Outcome, Goes, IsStuck}
use Rattle.aom_semantics.specs.World.{Observed}

-- two names stay two
abbrev pub IsOneToOne : (ℕ → ℕ) → Type 0
IsOneToOne names = (n m : ℕ) → names n ≡ names m → n ≡ m

module _ (names : ℕ → ℕ) where
  abbrev pub renamed_object : Object → Object
  renamed_object o = record o { name = names o.name }

  -- sessions and queues stay their server's, and a message that waits goes by its name
  abbrev pub renamed_other : Other → Other
  renamed_other Root = Root
  renamed_other (Session s c) = Session (names s) c
  renamed_other In_service = In_service
  renamed_other (Queued s m) = Queued (names s) (names m)

  -- a field is one of the same cell
  abbrev pub renamed_place : Place → Place
  renamed_place (Register f r) = Register f r
  renamed_place (Entry k) = Entry k
  renamed_place (Field n f) = Field (names n) f
  renamed_place (Going k) = Going k
  renamed_place (Elsewhere o) = Elsewhere (renamed_other o)

  -- clients have numbers of their own, and a message that waits has its cell's name
  abbrev pub renamed_asked : Asked → Asked
  renamed_asked (Connect_of c) = Connect_of c
  renamed_asked (Message_of c m) = Message_of c (names m)
  renamed_asked (Close_of c) = Close_of c

  abbrev pub renamed_queue : List Asked → List Asked
  renamed_queue es = map renamed_asked es

  abbrev pub renamed_service : Service → Service
  renamed_service v = record v { queue = renamed_queue v.queue }

  abbrev pub renamed_cell : Cell → Cell
  renamed_cell c = record c { object = renamed_object c.object; service = renamed_service c.service; owner = renamed_place c.owner }

  abbrev pub renamed_cells : List Cell → List Cell
  renamed_cells cs = map renamed_cell cs

  abbrev pub renamed_receiver : Receiver → Receiver
  renamed_receiver Static = Static
  renamed_receiver AtRoot = AtRoot
  renamed_receiver (Inside o from) = Inside (renamed_object o) (renamed_place from)

  abbrev pub renamed_frame : Frame → Frame
  renamed_frame fr = record fr { receiver = renamed_receiver fr.receiver }

  -- the object and the place that owns it
  abbrev pub renamed_owned_object : OwnedObject → OwnedObject
  renamed_owned_object x = record { object = renamed_object x.object; place = renamed_place x.place }

  -- the session that serves
  abbrev pub renamed_stage : Stage → Stage
  renamed_stage Accepts = Accepts
  renamed_stage Accepted = Accepted
  renamed_stage (Accept_left code) = Accept_left code
  renamed_stage (Serves o) = Serves (renamed_object o)
  renamed_stage (Service_left code) = Service_left code
  renamed_stage Disconnects = Disconnects

  -- a dispatch of main has no seat
  abbrev pub renamed_dispatch : Dispatch → Dispatch
  renamed_dispatch Of_main = Of_main
  renamed_dispatch (Main_left code) = Main_left code
  renamed_dispatch Of_root = Of_root
  renamed_dispatch (Of_object x) = Of_object (renamed_owned_object x)
  renamed_dispatch (Object_left x code) = Object_left (renamed_owned_object x) code
  renamed_dispatch (Asks x) = Asks (renamed_owned_object x)
  renamed_dispatch (Answered x answer) = Answered (renamed_owned_object x) answer
  renamed_dispatch (Of_server x client stage) = Of_server (renamed_owned_object x) client (renamed_stage stage)

  abbrev pub renamed_task : Task → Task
  renamed_task (Run fr) = Run (renamed_frame fr)
  renamed_task Trapped = Trapped
  renamed_task Destroy = Destroy
  renamed_task Closing = Closing
  renamed_task (Unwind code) = Unwind code
  renamed_task (Dispatched d) = Dispatched (renamed_dispatch d)

  abbrev pub renamed_tasks : List Task → List Task
  renamed_tasks ts = map renamed_task ts

  -- a client says which server it is at; which cell its session is stands at the session's place
  abbrev pub renamed_client : Client → Client
  renamed_client Unconnected = Unconnected
  renamed_client (Connecting server slots) = Connecting (names server) slots
  renamed_client (Open server session slots) = Open (names server) session slots
  renamed_client (Closing_client server session) = Closing_client (names server) session
  renamed_client Gone = Gone
  renamed_client Dead = Dead
  renamed_client (Dying server session) = Dying (names server) session

  abbrev pub renamed_clients : List Client → List Client
  renamed_clients clients = map renamed_client clients

  -- items and counts name no cell
  abbrev pub renamed : State → State
  renamed s = record s { cells = renamed_cells s.cells; tasks = renamed_tasks s.tasks; clients = renamed_clients s.clients }

  abbrev pub renamed_choice : Choice → Choice
  renamed_choice c = record c { name = names c.name }

  -- what a native completes is told by the place in the list of cells
  abbrev pub renamed_observed : Observed → Observed
  renamed_observed observed = record observed { name = names observed.name }

  abbrev pub renamed_outcome : Outcome → Outcome
  renamed_outcome (Goes s) = Goes (renamed s)
  renamed_outcome (IsStuck kind) = IsStuck kind

-- the second state is the first under other names
pub record AreAlike (s u : State) : Type 0 where
  pub names : ℕ → ℕ
  pub one_to_one : IsOneToOne names
  pub same : u ≡ renamed names s

-- two moves lead to two such states, or to one stuck kind
abbrev pub AlikeOutcomes : Outcome → Outcome → Type 0
AlikeOutcomes (Goes s) (Goes u) = AreAlike s u
AlikeOutcomes (Goes s) (IsStuck kind) = ⊥
AlikeOutcomes (IsStuck kind) (Goes u) = ⊥
AlikeOutcomes (IsStuck kind) (IsStuck other) = kind ≡ other
