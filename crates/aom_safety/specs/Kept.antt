-- What clients are at, and what they have at servers, say the same.
use Rattle.std.specs.Prelude.{ℕ, ◌+◌, Bool, true, false, cond, is_some, ◌&&◌, ◌<◌, ◌==◌, ◌≡◌, ◌≤◌, List, [], ◌∷◌, Option, Some, None}
use Rattle.std.specs.List.{list_any}
use Rattle.aom_image.specs.Image.{Image}
use Rattle.aom_roles.specs.Things.{is_object}
use Rattle.aom_clients.specs.declared.client.Client.{Client}
use Rattle.aom_clients.specs.Nodes.{is_connecting_at, is_leaving, is_open_at}
use Rattle.aom_clients.specs.Table.{server_of}
use Rattle.aom_semantics.specs.Clients.{client_at, most_of}
use Rattle.aom_semantics.specs.Requests.{thing_kind}
use Rattle.aom_semantics.specs.Places.{Asked, Cell, Close_of, Connect_of, Elsewhere, In_service, Message_of, Object, Queued, Service, held, named, service_of, requested}
use Rattle.aom_semantics.specs.Servers.{has_session, is_from, is_message, is_server, sessions_in_use}
use Rattle.aom_semantics.specs.State.{Accept_left, Accepted, Accepts, Dispatched, Of_server, Disconnects, Run, Service_left, Serves, Stage, State, Task, Trapped, Destroy, Closing, Unwind}
use Rattle.aom_semantics.specs.Tokens.{TokensApart}

-- what waits in the queue of a server is of a client that is at it
abbrev pub EntryFits : List Client → ℕ → Asked → Type 0
EntryFits clients n (Connect_of c) = is_connecting_at n (client_at clients c) ≡ true
EntryFits clients n (Message_of c m) = is_open_at n (client_at clients c) ≡ true
EntryFits clients n (Close_of c) = is_leaving n (client_at clients c) ≡ true

-- the client asks for a session, closes, or sends that message
abbrev pub is_connect_of : ℕ → Asked → Bool
is_connect_of c (Connect_of d) = d == c
is_connect_of c (Message_of d m) = false
is_connect_of c (Close_of d) = false

abbrev pub is_close_of : ℕ → Asked → Bool
is_close_of c (Connect_of d) = false
is_close_of c (Message_of d m) = false
is_close_of c (Close_of d) = d == c

abbrev pub is_message_of : ℕ → ℕ → Asked → Bool
is_message_of c m (Connect_of d) = false
is_message_of c m (Message_of d k) = (d == c) && (k == m)
is_message_of c m (Close_of d) = false

-- the same is asked once more
abbrev pub asked_again : Asked → Asked → Bool
asked_again (Connect_of c) e = is_connect_of c e
asked_again (Message_of c m) e = is_message m e
asked_again (Close_of c) e = is_close_of c e

-- and nothing waits twice
abbrev pub QueueFits : List Client → ℕ → List Asked → Type 0
QueueFits clients n [] = Unit {0}
QueueFits clients n (e ∷ es) = (EntryFits clients n e × (list_any (asked_again e) es ≡ false)) × QueueFits clients n es

-- how many have given something out: the client that sent it, and the object whose token it is
abbrev pub one_if_some : {A : Type 0} → Option A → ℕ
one_if_some None = 0
one_if_some (Some x) = 1

abbrev pub sources_of : Service → ℕ
sources_of v = one_if_some v.sender + one_if_some v.token

-- a message has a sender or is a token, and never both, and nothing else has or is one
abbrev pub HasSources : List Cell → Type 0
HasSources cs = (o : Object) → named cs o.name ≡ Some o → sources_of (service_of cs o.name) ≡ cond (is_object o.thing) 0 1

-- what is served has a sender
abbrev pub ServesSent : List Cell → Type 0
ServesSent cs = (o : Object) → held cs (Elsewhere In_service) ≡ Some o → is_some (service_of cs o.name).sender ≡ true

pub record ClientsFit (p : Image) (clients : List Client) (cs : List Cell) : Type 0 where
  pub queues : (n : ℕ) → QueueFits clients n (service_of cs n).queue
  pub sessions : (n c : ℕ) → has_session (service_of cs n) c ≡ true → server_of (client_at clients c) ≡ Some n
  pub listed : (n c : ℕ) → server_of (client_at clients c) ≡ Some n → has_session (service_of cs n) c ≡ true
  -- only servers have any of it
  pub servers : (o : Object) → named cs o.name ≡ Some o → is_server p o.thing ≡ false → ((service_of cs o.name).queue ≡ []) × ((service_of cs o.name).sessions ≡ [])
  -- and of these only such as are enlisted
  pub enlisted : (o : Object) → named cs o.name ≡ Some o → requested cs o.name ≡ None → ((service_of cs o.name).queue ≡ []) × ((service_of cs o.name).sessions ≡ [])
  -- a message in a queue stands at its name, and is of the client that sent it
  pub names : (n m : ℕ) (o : Object) → held cs (Elsewhere (Queued n m)) ≡ Some o → o.name ≡ m
  pub senders : (n c m : ℕ) → list_any (is_message_of c m) (service_of cs n).queue ≡ true → is_from c (service_of cs m).sender ≡ true
  -- wherever it is, a message has a sender or is a token, and what is served has a sender
  pub sources : HasSources cs
  pub served : ServesSent cs
  -- nothing has more sessions, and connects that wait, than its class takes
  pub owned_chain : (o : Object) → named cs o.name ≡ Some o → sessions_in_use (service_of cs o.name) ≤ most_of (thing_kind p o.thing)

-- the client whose connect is served is at the server still, asks for it no more, and has a seat left
abbrev pub ConnectKept : Image → List Client → List Cell → Object → ℕ → Type 0
ConnectKept p clients cs o c =
    (is_connecting_at o.name (client_at clients c) ≡ true) × (list_any (is_connect_of c) (service_of cs o.name).queue ≡ false) × (sessions_in_use (service_of cs o.name) < most_of (thing_kind p o.thing))

-- and so is one whose close is served
abbrev pub StageKept : Image → List Client → List Cell → (server : Object) → (client : ℕ) → Stage → Type 0
StageKept p clients cs o c Accepts = ConnectKept p clients cs o c
StageKept p clients cs o c Accepted = Unit {0}
StageKept p clients cs o c (Accept_left code) = ConnectKept p clients cs o c
StageKept p clients cs o c (Serves x) = Unit {0}
StageKept p clients cs o c (Service_left code) = Unit {0}
StageKept p clients cs o c Disconnects = (is_leaving o.name (client_at clients c) ≡ true) × (list_any (is_close_of c) (service_of cs o.name).queue ≡ false)

abbrev pub TasksKept : Image → List Client → List Cell → List Task → Type 0
TasksKept p clients cs [] = Unit {0}
TasksKept p clients cs (Run fr ∷ ts) = TasksKept p clients cs ts
TasksKept p clients cs (Trapped ∷ ts) = TasksKept p clients cs ts
TasksKept p clients cs (Destroy ∷ ts) = TasksKept p clients cs ts
TasksKept p clients cs (Closing ∷ ts) = TasksKept p clients cs ts
TasksKept p clients cs (Unwind code ∷ ts) = TasksKept p clients cs ts
TasksKept p clients cs (Dispatched (Of_server x c stage) ∷ ts) = StageKept p clients cs x.object c stage
TasksKept p clients cs (Dispatched d ∷ ts) = Unit {0}

pub record StateInvariant (p : Image) (s : State) : Type 0 where
  pub fit : ClientsFit p s.clients s.cells
  pub stage : TasksKept p s.clients s.cells s.tasks
  -- a token that is not void is the only one of its request
  pub tokens : TokensApart s.cells
