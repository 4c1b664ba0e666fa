-- The dispatch of a server begins: the first of its queue is taken.
use Rattle.std.specs.Prelude.{◌≡◌, ◌<◌, ◌++◌, ℕ, ℤ, zero, suc, Bool, true, false, IsSome, is_some, [], ◌∷◌, Option, None, Some, length}
use Rattle.std.specs.Int.{w32, cast_signed, cast_unsigned}
use Rattle.aom_image.specs.Image.{Image}
use Rattle.aom_image.specs.declared.method.Role.TheVariants.{Accept as Accepts_role, Service as Attends}
use Rattle.aom_link_conditions.specs.Roles.{role_of}
use Rattle.aom_cells.specs.Heap.{class_at}
use Rattle.aom_scheduler.specs.Requests.{is_server, request_at}
use Rattle.aom_active_objects.specs.Agrees.{Active}
use Rattle.aom_active_objects.specs.Meanings.{Asks}
use Rattle.aom_clients.specs.Clients as clients
use Rattle.aom_clients.specs.Clients.{ClientsState, client_at, first_entry, queue_at}
use Rattle.aom_clients.specs.Table.{session_of}
use Rattle.aom_clients.specs.declared.entry.QueueEntry.{QueueEntry}
use Rattle.aom_clients.specs.declared.entry.QueueEntry.TheVariants.{Connect, Message, Close}
use Rattle.aom_clients.specs.declared.entry.TakenEntry.{TakenEntry}
use Rattle.aom_cells.specs.Store.{IsStored, Store, word_at}
use Rattle.aom_transcript.specs.declared.line.Asked.{Asked}
use Rattle.aom_transcript.specs.declared.line.Asked.TheVariants as lines
use Rattle.aom_transcript.specs.declared.line.Line.TheVariants.{Serve}
use Rattle.aom_frames.specs.Tasks.{fresh, with_register}
use Rattle.aom_frames.specs.declared.dispatch.Dispatch.TheVariants.{Server}
use Rattle.aom_frames.specs.declared.dispatch.Stage.TheVariants.{Accepts, Disconnects as Parts_with, Serves}
use Rattle.aom_frames.specs.declared.dispatch.Subject.{Subject}
use Rattle.aom_frames.specs.declared.frame.Frame.{Frame}
use Rattle.aom_frames.specs.declared.task.Task.TheVariants.{Dispatched}
use Rattle.aom_machine_state.specs.LineBuffer.{LineBuffer}
use Rattle.aom_machine_state.specs.declared.parts.Parts.{Parts}
use Rattle.aom_machine_state.specs.Places.{with_tasks}
use Rattle.aom_machine_state.specs.Serving.{message_name}
use Rattle.aom_machine_instructions.specs.Going.{dying}
use Rattle.aom_machine.specs.Turns.{IsIdle, begins_under}

-- ---- what the schedule hears of a queue

-- something waits in the queue of that server
abbrev pub is_queued : ClientsState → ℕ → Bool
is_queued s n = is_some (first_entry s (queue_at s n))

abbrev pub NotesBy : (serves : Bool) → Active → Active → ℕ → (waits : Bool) → Type 0
NotesBy true old new n waits = Asks old new n waits
NotesBy false old new n waits = new ≡ old

-- it hears whether something does, if a server of that number is enlisted
abbrev pub Notes : ℕ → ClientsState → Active → Active → Type 0
Notes n s old new = NotesBy (is_server (request_at old.table n)) old new n (is_queued s n)

-- it hears of that queue, or of none
abbrev pub NotesIf : Option ℕ → ClientsState → Active → Active → Type 0
NotesIf None s old new = new ≡ old
NotesIf (Some n) s old new = Notes n s old new

-- ---- how each entry begins to be served

-- what the line says that waited
abbrev pub serve_asked : QueueEntry → Asked
serve_asked (Connect client) = lines.Connect
serve_asked (Message place) = lines.Message
serve_asked (Close client) = lines.Close

-- the server's `accept` runs
abbrev pub accepting : (method : ℕ) → Subject → (client : ℕ) → Parts → Parts
accepting method x client m = begins_under (Server x client Accepts) (fresh method x.number) m

-- a word of a message is in the register of its number
abbrev pub reported_word : Store → (place word : ℕ) → Frame → Frame
reported_word s place word f = with_register word (cast_unsigned w32 (word_at s place word)) f

-- so are as many as that, the function first
abbrev pub loaded_first : Store → (place many : ℕ) → Frame → Frame
loaded_first s place zero f = f
loaded_first s place (suc n) f = reported_word s place n (loaded_first s place n f)

-- all five
abbrev pub loaded_message_words : Store → (place : ℕ) → Frame → Frame
loaded_message_words s place f = loaded_first s place 5 f

-- a word such as a register has
abbrev pub IsWord : ℤ → Type 0
IsWord w = cast_signed w32 (cast_unsigned w32 w) ≡ w

-- as many words of a message are such, the function first
abbrev pub AreRead : Store → (place many : ℕ) → Type 0
AreRead s place zero = Unit {0}
AreRead s place (suc n) = IsWord (word_at s place n) × AreRead s place n

-- the `service` of that session runs on the words of the message, which is served
abbrev pub attending : (method : ℕ) → (session server : Subject) → (client place : ℕ) → Parts → Parts
attending method o x client place m = record (begins_under (Server x client (Serves o)) (loaded_message_words m.messages place (fresh method o.number)) m) { served = message_name place }

-- the cell of that session is at hand to go, under no trap
abbrev pub parting : Image → (session : ℕ) → Subject → (client : ℕ) → Parts → Parts
parting p session x client m = with_tasks (dying p m.cells session (Dispatched (Server x client Parts_with) ∷ m.stack.tasks)) (record m { clients = clients.after_release client m.clients })

-- ---- what is needed

-- the cell of that number lives, of a class that has a number of its own
pub record IsOfClass (m : Parts) (n class : ℕ) : Type 0 where
  pub is : class_at m.cells n ≡ Some class
  pub small : class < 256

-- the client has a session that lives
pub record HasSession (m : Parts) (client session class : ℕ) : Type 0 where
  pub one : client < 64
  pub named : session_of (client_at m.clients client) ≡ Some session
  pub lives : IsOfClass m session class

-- the entry of that client can be served by a server of that class
abbrev pub CanTake : Image → (class : ℕ) → (client : ℕ) → QueueEntry → Parts → Type 0
CanTake p class client (Connect c) m = IsSome (role_of p class Accepts_role)
CanTake p class client (Message place) m = (place < 1024) × IsStored m.messages place × ((session kind : ℕ) × HasSession m client session kind × IsSome (role_of p kind Attends))
CanTake p class client (Close c) m = (session kind : ℕ) × HasSession m c session kind

-- a server of that number is enlisted and lives, and the first of its queue can be served
pub record HasCaller (p : Image) (m : Parts) (id : ℕ) : Type 0 where
  pub within : id < length m.clients.queues
  pub class : ℕ
  pub lives : IsOfClass m id class
  pub first : TakenEntry
  pub waits : first_entry m.clients (queue_at m.clients id) ≡ Some first
  pub can : CanTake p class first.client first.entry m
  pub idle : IsIdle m

-- ---- it begins

-- the method that serves it is at hand, or the session that goes
abbrev pub Begins : Image → Subject → (client : ℕ) → QueueEntry → Parts → Parts → Type 0
Begins p x client (Connect c) old new = (method : ℕ) × (role_of p x.class Accepts_role ≡ Some method) × (new ≡ accepting method x c old)
Begins p x client (Message place) old new =
    (session class method : ℕ) × (session_of (client_at old.clients client) ≡ Some session) × (class_at old.cells session ≡ Some class) × (role_of p class Attends ≡ Some method)
    × AreRead old.messages place 5 × (new ≡ attending method (record { number = session; class = class }) x client place old)
Begins p x client (Close c) old new = (session : ℕ) × (session_of (client_at old.clients c) ≡ Some session) × (new ≡ parting p session x c old)

-- the first of the queue is taken, and no step is counted yet
abbrev pub taken_from : ℕ → Active → Parts → Parts
taken_from id active m = record m { clients = clients.after_next id m.clients; active = active; rest = record m.rest { steps = 0; polled = 0 } }

-- the server of that number is dispatched for the first of its queue, with its line
pub record ServesFirst (p : Image) (id : ℕ) (old : Parts) (reported now : LineBuffer) (new : Parts) : Type 0 where
  pub class : ℕ
  pub is : class_at old.cells id ≡ Some class
  pub first : TakenEntry
  pub waits : first_entry old.clients (queue_at old.clients id) ≡ Some first
  pub active : Active
  pub noted : Notes id (clients.after_next id old.clients) old.active active
  pub begins : Begins p (record { number = id; class = class }) first.client first.entry (taken_from id active old) new
  pub lines : now ≡ record reported { lines = reported.lines ++ (Serve old.rest.clock class (serve_asked first.entry) first.client ∷ []) }
