-- What becomes of clients and of their messages as they are served, and as their server goes.
use Rattle.std.specs.Prelude.{◌≡◌, ◌<◌, ◌+◌, ◌==◌, ◌++◌, ℕ, suc, ℤ, pos, Bool, true, false, cond, flat_map, List, [], ◌∷◌, Option, Some, None, IsSome, length}
use Rattle.std.specs.List.{list_any}
use Rattle.aom_clients.specs.Clients as clients
use Rattle.aom_clients.specs.Clients.{ClientsState, place_at, queue_at}
use Rattle.aom_clients.specs.Table.{completion, session_of}
use Rattle.aom_clients.specs.declared.entry.QueueEntry.{QueueEntry}
use Rattle.aom_clients.specs.declared.entry.QueueEntry.TheVariants.{Connect, Message, Close}
use Rattle.aom_clients.specs.declared.entry.TakenEntry.{TakenEntry}
use Rattle.aom_clients.specs.declared.place.Completion.{Completion}
use Rattle.aom_cells.specs.Store.{Changes, IsStored, Store, count, first_number, message_at}
use Rattle.aom_transcript.specs.declared.line.Line.{Line}
use Rattle.aom_transcript.specs.declared.line.Line.TheVariants.{Discard, Reply}
use Rattle.aom_machine_state.specs.LineBuffer.{LineBuffer}
use Rattle.aom_cells.specs.Heap.{null}
use Rattle.aom_frames.specs.declared.dispatch.Dispatch.TheVariants.{Server}
use Rattle.aom_frames.specs.declared.dispatch.Stage.{Stage}
use Rattle.aom_frames.specs.declared.dispatch.Stage.TheVariants.{Accepted, Accepts, AcceptLeft, Disconnects as Parts_with, Serves, ServiceLeft}
use Rattle.aom_frames.specs.declared.task.Task.{Task}
use Rattle.aom_frames.specs.declared.task.Task.TheVariants.{Dispatched}
use Rattle.aom_machine_state.specs.declared.parts.Parts.{Parts}
use Rattle.aom_machine_instructions.specs.Ends.{served_by}
use Rattle.aom_semantics.specs.Natives.{terminated}

-- ---- a message is completed

-- that is the number of a message that is kept, and that waits in no queue
pub record IsTaken (n : ℕ) (m : Parts) : Type 0 where
  pub place : ℕ
  pub number : first_number + place ≡ n
  pub below : place < 1024
  pub kept : IsStored m.messages place
  pub taken : IsSome (completion (place_at m.clients place))

-- the line of a completion: its client is told, unless it has closed or died since
abbrev pub completion_line : Completion → ℤ → Line
completion_line c code = cond c.is_reported (Reply c.client code) (Discard c.client code)

abbrev pub completion_lines : Option Completion → ℤ → List Line
completion_lines None code = []
completion_lines (Some c) code = completion_line c code ∷ []

-- the message of that number is completed with that code: it is kept no more, its place and its slot are free, and its line is written
pub record Completes (n : ℕ) (code : ℤ) (old new : Parts) (reported now : LineBuffer) : Type 0 where
  pub place : ℕ
  pub number : first_number + place ≡ n
  pub released : Changes old.messages new.messages place None
  pub count : count new.messages + 1 ≡ count old.messages
  pub rest : new ≡ record old { clients = clients.after_complete place old.clients; messages = new.messages }
  pub line : now ≡ record reported { lines = reported.lines ++ completion_lines (completion (place_at old.clients place)) code }

-- ---- the dispatch of a server

-- what `accept` gave is the session of the client
abbrev pub opened_by : ℕ → List Task → ClientsState → ClientsState
opened_by n (Dispatched (Server x c Accepts) ∷ ts) s = clients.after_connected c (Some n) s
opened_by n ts s = s

-- the method that the dispatch ran has returned, with that number
abbrev pub served : ℕ → Parts → Parts
served n m = record m { stack = record m.stack { tasks = served_by m.stack.tasks }; clients = opened_by n m.stack.tasks m.clients }

-- the client of a connect that is served has one of the 64 numbers, and its session is a cell
abbrev pub CanServe : ℕ → List Task → Type 0
CanServe n (Dispatched (Server x c Accepts) ∷ ts) = (c < 64) × (n < 65536)
CanServe n ts = Unit {0}

-- the client has one of the 64 numbers, and the message that a service left is still the one that is served
abbrev pub CanEndStage : ℕ → Stage → Parts → Type 0
CanEndStage c (AcceptLeft code) m = c < 64
CanEndStage c (ServiceLeft code) m = IsTaken m.served m
CanEndStage c Parts_with m = c < 64
CanEndStage c stage m = Unit {0}

-- a stage ends, with its lines: a connect that was served or left is completed, and so is the message of a service that left; after a close there is no session
abbrev pub EndsStage : ℕ → Stage → Parts → Parts → LineBuffer → LineBuffer → Type 0
EndsStage c Accepts old new reported now = (new ≡ old) × (now ≡ reported)
EndsStage c Accepted old new reported now = (new ≡ old) × (now ≡ record reported { lines = reported.lines ++ Reply c (pos 0) ∷ [] })
EndsStage c (AcceptLeft code) old new reported now = (new ≡ record old { clients = clients.after_connected c None old.clients }) × (now ≡ record reported { lines = reported.lines ++ Reply c code ∷ [] })
EndsStage c (Serves o) old new reported now = (new ≡ old) × (now ≡ reported)
EndsStage c (ServiceLeft code) old new reported now = Completes old.served code (record old { served = null }) new reported now
EndsStage c Parts_with old new reported now = (new ≡ record old { clients = clients.after_closed c old.clients }) × (now ≡ reported)

-- ---- a server goes

-- the session of that client, and what is left once its cell is at hand to go
abbrev pub session_there : Option ℕ → ClientsState → Option ℕ
session_there None s = None
session_there (Some c) s = session_of (clients.client_at s c)

abbrev pub released_by : Option ℕ → ClientsState → ClientsState
released_by None s = s
released_by (Some c) s = clients.after_release c s

-- the entry is the message at that place
abbrev pub is_message : ℕ → QueueEntry → Bool
is_message m (Connect client) = false
is_message m (Message k) = k == m
is_message m (Close client) = false

abbrev pub has_message : ℕ → List QueueEntry → Bool
has_message m es = list_any (is_message m) es

-- its message is kept, if it is one
abbrev pub EntryKept : Store → QueueEntry → Type 0
EntryKept s (Connect client) = Unit {0}
EntryKept s (Message m) = IsStored s m
EntryKept s (Close client) = Unit {0}

-- it does not wait there twice
abbrev pub IsOnce : QueueEntry → List QueueEntry → Type 0
IsOnce (Connect client) es = Unit {0}
IsOnce (Message m) es = has_message m es ≡ false
IsOnce (Close client) es = Unit {0}

-- their messages are kept, each once
abbrev pub AllKept : Store → List QueueEntry → Type 0
AllKept s [] = Unit {0}
AllKept s (e ∷ es) = EntryKept s e × IsOnce e es × AllKept s es

-- how many of them are messages, and how many are completed as their server goes
abbrev pub count_messages : List QueueEntry → ℕ
count_messages [] = 0
count_messages (Connect client ∷ es) = count_messages es
count_messages (Message m ∷ es) = suc (count_messages es)
count_messages (Close client ∷ es) = count_messages es

abbrev pub answers : List QueueEntry → ℕ
answers [] = 0
answers (Connect client ∷ es) = suc (answers es)
answers (Message m ∷ es) = suc (answers es)
answers (Close client ∷ es) = answers es

abbrev pub reported_of : QueueEntry → ℕ → List Line
reported_of (Connect c) client = Reply client terminated ∷ []
reported_of (Message m) client = Reply client terminated ∷ []
reported_of (Close c) client = []

-- the messages of these entries are kept no more, and all others are
pub record Drops (es : List QueueEntry) (old new : Store) : Type 0 where
  pub gone : (m : ℕ) → has_message m es ≡ true → message_at new m ≡ None
  pub others : (m : ℕ) → has_message m es ≡ false → message_at new m ≡ message_at old m
  pub count : count new + count_messages es ≡ count old
  pub limit : new.limit ≡ old.limit

-- what a client is told of an entry as its server goes: the code of that, and of a close nothing
abbrev pub gone_line : TakenEntry → List Line
gone_line t = reported_of t.entry t.client

abbrev pub gone_lines : ClientsState → List QueueEntry → List Line
gone_lines s es = flat_map (λ e. gone_line (clients.taken_entry s e)) es

-- a server of that number can go: its messages are kept
pub record CanReclaim (n : ℕ) (m : Parts) : Type 0 where
  pub small : n < 65536
  pub within : n < length m.clients.queues
  pub kept : AllKept m.messages (queue_at m.clients n)
