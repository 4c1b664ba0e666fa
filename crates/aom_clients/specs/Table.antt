-- What a client may do in each state, and what a message place has.
use Rattle.std.specs.Prelude.{◌==◌, ℕ, ℤ, negsuc, Bool, true, false, not, Option, Some, None}
use Rattle.aom_clients.specs.declared.client.Client.{Client}
use Rattle.aom_clients.specs.declared.client.Client.TheVariants.{Unconnected, Connecting, Open, Closing, Gone, Dead, Dying}
use Rattle.aom_clients.specs.declared.refusal.CommandRefusal.{CommandRefusal}
use Rattle.aom_clients.specs.declared.refusal.CommandRefusal.TheVariants.{NotFound, Died, ServerTerminated, ServerBusy}
use Rattle.aom_clients.specs.declared.place.MessagePlace.{MessagePlace}
use Rattle.aom_clients.specs.declared.place.MessagePlace.TheVariants.{Free, Queued, Held, Discarded}
use Rattle.aom_clients.specs.declared.place.Completion.{Completion}

-- the code that a refused client is told
abbrev pub code_of : CommandRefusal → ℤ
code_of NotFound = negsuc 0
code_of Died = negsuc 12
code_of ServerTerminated = negsuc 14
code_of ServerBusy = negsuc 15

-- of each command: why it is refused, where the client alone decides that, or what the client is at then, if anything comes of it;
-- a connect that is not refused so asks the server, and a send asks for a slot and a place
pub record Row : Type 0 where
  pub connect : Option CommandRefusal
  pub send : Option CommandRefusal
  pub close : Option Client
  pub die : Option Client

abbrev row_of : Option CommandRefusal → Option CommandRefusal → Option Client → Option Client → Row
row_of connect send close die = record { connect = connect; send = send; close = close; die = die }

-- | at            | connect       | send               | close          | die   |
-- | Unconnected   | asks a server | NotFound           | nothing        | Dead  |
-- | Connecting    | ServerBusy    | ServerBusy         | Unconnected    | Dead  |
-- | Open          | ServerBusy    | asks for a slot    | Closing        | Dying |
-- | Closing       | ServerBusy    | ServerBusy         | nothing        | Dying |
-- | Gone          | asks a server | ServerTerminated   | Unconnected    | Dead  |
-- | Dead, Dying   | Died          | Died               | nothing        | nothing |
abbrev pub row : Client → Row
row Unconnected = row_of None (Some NotFound) None (Some Dead)
row (Connecting server slots) = row_of (Some ServerBusy) (Some ServerBusy) (Some Unconnected) (Some Dead)
row (Open server session slots) = row_of (Some ServerBusy) None (Some (Closing server session)) (Some (Dying server session))
row (Closing server session) = row_of (Some ServerBusy) (Some ServerBusy) None (Some (Dying server session))
row Gone = row_of None (Some ServerTerminated) (Some Unconnected) (Some Dead)
row Dead = row_of (Some Died) (Some Died) None None
row (Dying server session) = row_of (Some Died) (Some Died) None None

-- what a client with a session is at once its server went
abbrev pub after_server_destroyed : Client → Client
after_server_destroyed (Open server session slots) = Gone
after_server_destroyed (Closing server session) = Unconnected
after_server_destroyed (Dying server session) = Dead
after_server_destroyed other = other

-- the cell of its session
abbrev pub session_of : Client → Option ℕ
session_of (Open server session slots) = Some session
session_of (Closing server session) = Some session
session_of (Dying server session) = Some session
session_of other = None

-- the server of its session
abbrev pub server_of : Client → Option ℕ
server_of (Open server session slots) = Some server
server_of (Closing server session) = Some server
server_of (Dying server session) = Some server
server_of other = None

-- no cell has that number
abbrev pub no_cell : ℕ
no_cell = 65535

-- the client names a cell for its session
abbrev pub has_cell : Client → Bool
has_cell (Open server session slots) = not (session == no_cell)
has_cell (Closing server session) = not (session == no_cell)
has_cell (Dying server session) = not (session == no_cell)
has_cell other = false

-- the same once the cell of its session is at hand to go: the client names none any more
abbrev pub released : Client → Client
released (Open server session slots) = Open server no_cell slots
released (Closing server session) = Closing server no_cell
released (Dying server session) = Dying server no_cell
released other = other

-- the client that sent the message of a place; 0 where there is none
abbrev pub sender : MessagePlace → ℕ
sender Free = 0
sender (Queued client) = client
sender (Held client) = client
sender (Discarded client) = client

-- the place has a message that waits in a queue
abbrev pub is_queued : MessagePlace → Bool
is_queued (Queued client) = true
is_queued other = false

-- what is left of a message when its client closes or dies: one that waits is no more, and one that is held is discarded
abbrev pub closed_place : MessagePlace → MessagePlace
closed_place (Queued client) = Free
closed_place (Held client) = Discarded client
closed_place other = other

-- a message that waited is held once it is taken
abbrev pub held_place : MessagePlace → MessagePlace
held_place (Queued client) = Held client
held_place other = other

-- how a message that was taken is completed: its client is told, unless it is discarded
abbrev pub completion : MessagePlace → Option Completion
completion (Held client) = Some (record { client = client; is_reported = true })
completion (Discarded client) = Some (record { client = client; is_reported = false })
completion other = None

-- the message waits or is held, and is of that client
abbrev pub is_out_of : ℕ → MessagePlace → Bool
is_out_of c (Queued client) = client == c
is_out_of c (Held client) = client == c
is_out_of c other = false

-- the message waits, and is of that client
abbrev pub is_waiting_of : ℕ → MessagePlace → Bool
is_waiting_of c (Queued client) = client == c
is_waiting_of c other = false
