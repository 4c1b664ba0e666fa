-- All clients and servers, and what each command and each part of a service makes of them.
use Rattle.std.specs.Prelude.{◌==◌, ◌<◌, ◌+◌, ◌++◌, ℕ, Bool, true, false, not, nat_lt, if◌then◌else◌, List, [], ◌∷◌, Option, Some, None, Result, Ok, Err, length, map, filter, replicate, slice_index_or, slice_set}
use Rattle.aom_clients.specs.declared.client.Client.{Client}
use Rattle.aom_clients.specs.declared.client.Client.TheVariants.{Unconnected, Connecting, Open, Closing, Dead, Dying}
use Rattle.aom_clients.specs.declared.refusal.CommandRefusal.{CommandRefusal}
use Rattle.aom_clients.specs.declared.refusal.CommandRefusal.TheVariants.{NotFound, ServerBusy}
use Rattle.aom_clients.specs.declared.place.MessagePlace.{MessagePlace}
use Rattle.aom_clients.specs.declared.place.MessagePlace.TheVariants.{Free, Queued}
use Rattle.aom_clients.specs.declared.server.Server.{Server}
use Rattle.aom_clients.specs.declared.entry.QueueEntry.{QueueEntry}
use Rattle.aom_clients.specs.declared.entry.QueueEntry.TheVariants.{Connect, Message, Close}
use Rattle.aom_clients.specs.declared.entry.TakenEntry.{TakenEntry}
use Rattle.aom_clients.specs.Table.{row, after_server_destroyed, has_cell, released, sender, is_queued, is_out_of, is_waiting_of, closed_place, held_place}

-- what each client is at, what each message place has, the queue of each server, first in, first out, the clients that have a session with
-- each server, in order of connection, and of each client the messages that hold a slot of it, the first sent first
pub record ClientsState : Type 0 where
  pub clients : List Client
  pub places : List MessagePlace
  pub queues : List (List QueueEntry)
  pub sessions : List (List ℕ)
  pub sent : List (List ℕ)

-- nobody asked for anything yet; so many cells may be servers
unfoldable pub at_first : ℕ → ClientsState
at_first cells =
    record { clients = replicate 64 Unconnected; places = replicate 1024 Free; queues = replicate cells []; sessions = replicate cells []; sent = replicate 64 [] }

abbrev pub client_at : ClientsState → ℕ → Client
client_at s c = slice_index_or s.clients c Unconnected

abbrev pub place_at : ClientsState → ℕ → MessagePlace
place_at s m = slice_index_or s.places m Free

abbrev pub queue_at : ClientsState → ℕ → List QueueEntry
queue_at s k = slice_index_or s.queues k []

abbrev pub sessions_at : ClientsState → ℕ → List ℕ
sessions_at s k = slice_index_or s.sessions k []

abbrev pub sent_at : ClientsState → ℕ → List ℕ
sent_at s c = slice_index_or s.sent c []

-- the state with one part written
abbrev pub with_client : ℕ → Client → ClientsState → ClientsState
with_client c to s = record s { clients = slice_set s.clients c to }

abbrev pub with_place : ℕ → MessagePlace → ClientsState → ClientsState
with_place m to s = record s { places = slice_set s.places m to }

abbrev pub with_queue : ℕ → List QueueEntry → ClientsState → ClientsState
with_queue k entries s = record s { queues = slice_set s.queues k entries }

abbrev pub with_sessions : ℕ → List ℕ → ClientsState → ClientsState
with_sessions k clients s = record s { sessions = slice_set s.sessions k clients }

abbrev pub with_sent : ℕ → List ℕ → ClientsState → ClientsState
with_sent c messages s = record s { sent = slice_set s.sent c messages }

-- an entry is queued last
abbrev pub queued : ℕ → QueueEntry → ClientsState → ClientsState
queued k entry s = with_queue k (queue_at s k ++ entry ∷ []) s

-- a command that is refused, or not
abbrev pub answer : Option CommandRefusal → Result (Unit {0}) CommandRefusal
answer None = Ok tt
answer (Some refusal) = Err refusal

-- connect ------------------------------------------------------------------------------------------------------------------------------
abbrev pub is_connect : QueueEntry → Bool
is_connect (Connect client) = true
is_connect other = false

-- the server's sessions and the connects in its queue are fewer than the most that it takes
abbrev pub has_room : Server → ClientsState → Bool
has_room server s = nat_lt (length (sessions_at s server.cell) + length (filter is_connect (queue_at s server.cell))) server.most

abbrev pub asked : Option CommandRefusal → Option Server → ClientsState → Option CommandRefusal
asked (Some refusal) server s = Some refusal
asked None None s = Some NotFound
asked None (Some server) s = if has_room server s then None else Some ServerBusy

-- why a connect is refused
abbrev pub connect_refusal : ℕ → Option Server → ClientsState → Option CommandRefusal
connect_refusal c server s = asked (row (client_at s c)).connect server s

abbrev pub connecting : Option CommandRefusal → ℕ → Option Server → ℕ → ClientsState → ClientsState
connecting None c (Some server) slots s = queued server.cell (Connect c) (with_client c (Connecting server.cell slots) s)
connecting other c server slots s = s

-- what a connect comes to
abbrev pub after_connect : ℕ → Option Server → ℕ → ClientsState → ClientsState
after_connect c server slots s = connecting (connect_refusal c server s) c server slots s

-- send ---------------------------------------------------------------------------------------------------------------------------------
-- so many slots are taken of those that an open client has
abbrev pub has_slot : ℕ → Client → Bool
has_slot used (Open server session slots) = nat_lt used slots
has_slot used other = false

abbrev pub sending_to : Option CommandRefusal → Bool → Option ℕ → Option CommandRefusal
sending_to (Some refusal) free place = Some refusal
sending_to None true (Some place) = None
sending_to None free place = Some ServerBusy

-- why a send is refused; the place is one that is free, if any is
abbrev pub send_refusal : ℕ → Option ℕ → ClientsState → Option CommandRefusal
send_refusal c place s = sending_to (row (client_at s c)).send (has_slot (length (sent_at s c)) (client_at s c)) place

abbrev pub sending : Option CommandRefusal → Client → ℕ → Option ℕ → ClientsState → ClientsState
sending None (Open server session slots) c (Some m) s = queued server (Message m) (with_sent c (sent_at s c ++ m ∷ []) (with_place m (Queued c) s))
sending other client c place s = s

-- what a send comes to
abbrev pub after_send : ℕ → Option ℕ → ClientsState → ClientsState
after_send c place s = sending (send_refusal c place s) (client_at s c) c place s

-- close and die ------------------------------------------------------------------------------------------------------------------------
-- a place after its client's close or death, and one of another client as before
abbrev pub left_place : ℕ → MessagePlace → MessagePlace
left_place c p = if is_out_of c p then closed_place p else p

-- an entry stays that is no connect of the client and no message of it
abbrev pub stays : ℕ → List MessagePlace → QueueEntry → Bool
stays c places (Connect client) = not (client == c)
stays c places (Message m) = not (is_waiting_of c (slice_index_or places m Free))
stays c places (Close client) = true

-- the client's connect and messages leave the queues, and its messages that are held are discarded
abbrev pub withdrawn : ℕ → ClientsState → ClientsState
withdrawn c s = record s { places = map (left_place c) s.places; queues = map (filter (stays c s.places)) s.queues; sent = slice_set s.sent c [] }

abbrev pub reported : Client → ℕ → ClientsState → ClientsState
reported (Open server session slots) c s = queued server (Close c) s
reported other c s = s

-- a client that had its session open has a close queued last
abbrev pub leaving : Option Client → ℕ → ClientsState → ClientsState
leaving None c s = s
leaving (Some to) c s = reported (client_at s c) c (with_client c to (withdrawn c s))

-- what a close comes to, and a death
abbrev pub after_close : ℕ → ClientsState → ClientsState
after_close c s = leaving (row (client_at s c)).close c s

abbrev pub after_die : ℕ → ClientsState → ClientsState
after_die c s = leaving (row (client_at s c)).die c s

-- the messages that a close or a death takes out of a queue
abbrev pub freed : Option Client → ℕ → ClientsState → List ℕ
freed None c s = []
freed (Some to) c s = filter (λ m. is_queued (place_at s m)) (sent_at s c)

-- a service ----------------------------------------------------------------------------------------------------------------------------
-- the place of an entry's message is below that number
abbrev pub MessageBelow : ℕ → QueueEntry → Type 0
MessageBelow n (Connect client) = Unit {0}
MessageBelow n (Message m) = m < n
MessageBelow n (Close client) = Unit {0}

-- the entry and the client that it is of
abbrev pub taken_entry : ClientsState → QueueEntry → TakenEntry
taken_entry s (Connect client) = record { entry = Connect client; client = client }
taken_entry s (Message m) = record { entry = Message m; client = sender (place_at s m) }
taken_entry s (Close client) = record { entry = Close client; client = client }

-- its client and its message's place are among those that there are
abbrev pub IsNumbered : TakenEntry → Type 0
IsNumbered t = (t.client < 64) × MessageBelow 1024 t.entry

-- the first entry of a queue
abbrev pub first_entry : ClientsState → List QueueEntry → Option TakenEntry
first_entry s [] = None
first_entry s (e ∷ es) = Some (taken_entry s e)

-- a message that is taken is held
abbrev pub taking : QueueEntry → ClientsState → ClientsState
taking (Message m) s = with_place m (held_place (place_at s m)) s
taking other s = s

abbrev pub taken : ℕ → List QueueEntry → ClientsState → ClientsState
taken k [] s = s
taken k (e ∷ es) s = taking e (with_queue k es s)

-- what is left once the first entry of a server was taken
abbrev pub after_next : ℕ → ClientsState → ClientsState
after_next k s = taken k (queue_at s k) s

-- the cell of the client's session is at hand to go
abbrev pub after_release : ℕ → ClientsState → ClientsState
after_release c s = with_client c (released (client_at s c)) s

-- no connect of the client is in a queue, and no close
abbrev pub is_no_connect_of : ℕ → QueueEntry → Bool
is_no_connect_of c (Connect client) = not (client == c)
is_no_connect_of c other = true

abbrev pub is_no_close_of : ℕ → QueueEntry → Bool
is_no_close_of c (Close client) = not (client == c)
is_no_close_of c other = true

abbrev pub opened : Client → Option ℕ → ℕ → ClientsState → ClientsState
opened (Connecting server slots) (Some session) c s =
    with_sessions server (sessions_at s server ++ c ∷ []) (with_client c (Open server session slots) (record s { queues = map (filter (is_no_connect_of c)) s.queues }))
opened (Connecting server slots) None c s = with_client c Unconnected (record s { queues = map (filter (is_no_connect_of c)) s.queues })
opened other session c s = s

-- what comes of a client whose connect was served, with the cell of its session or none
abbrev pub after_connected : ℕ → Option ℕ → ClientsState → ClientsState
after_connected c session s = opened (client_at s c) session c s

-- the client has no session any more
abbrev pub parted : ℕ → Client → ClientsState → ClientsState
parted c to s = record s {
  clients = slice_set s.clients c to;
  queues = map (filter (is_no_close_of c)) s.queues;
  sessions = map (filter (λ d. not (d == c))) s.sessions;
}

abbrev pub ended : Client → ℕ → ClientsState → ClientsState
ended (Closing server session) c s = parted c Unconnected s
ended (Dying server session) c s = parted c Dead s
ended other c s = s

-- what comes of a client whose close was served
abbrev pub after_closed : ℕ → ClientsState → ClientsState
after_closed c s = ended (client_at s c) c s

-- what is left once a message was completed: its place is free, and so is its slot, if it held one
abbrev pub after_complete : ℕ → ClientsState → ClientsState
after_complete m s = record s { places = slice_set s.places m Free; sent = map (filter (λ n. not (n == m))) s.sent }

-- the going of a server ----------------------------------------------------------------------------------------------------------------
-- an entry goes with its server: a connect and a message are completed
abbrev pub going : QueueEntry → ClientsState → ClientsState
going (Connect client) s = with_client client Unconnected s
going (Message m) s = after_complete m s
going (Close client) s = s

abbrev pub gone : ℕ → List QueueEntry → ClientsState → ClientsState
gone k [] s = s
gone k (e ∷ es) s = going e (with_queue k es s)

-- what is left once the first entry of a server went with it
abbrev pub after_next_gone : ℕ → ClientsState → ClientsState
after_next_gone k s = gone k (queue_at s k) s

abbrev pub session_gone : ℕ → List ℕ → ClientsState → ClientsState
session_gone k [] s = s
session_gone k (c ∷ cs) s = with_client c (after_server_destroyed (client_at s c)) (with_sent c [] (with_sessions k cs s))

-- what is left once the first session of a server went with it: its client's messages hold no slot any more
abbrev pub after_session_gone : ℕ → ClientsState → ClientsState
after_session_gone k s = session_gone k (sessions_at s k) s

-- what is left once all that goes with a server went: the entries of its queue in their order, and then its sessions in theirs
abbrev pub queue_gone : ℕ → List QueueEntry → ClientsState → ClientsState
queue_gone k [] s = s
queue_gone k (e ∷ es) s = queue_gone k es (gone k (e ∷ es) s)

abbrev pub sessions_gone : ℕ → List ℕ → ClientsState → ClientsState
sessions_gone k [] s = s
sessions_gone k (c ∷ cs) s = sessions_gone k cs (session_gone k (c ∷ cs) s)

abbrev pub server_gone : ℕ → ClientsState → ClientsState
server_gone k s = sessions_gone k (sessions_at s k) (queue_gone k (queue_at s k) s)

abbrev pub first_client : List ℕ → Option ℕ
first_client [] = None
first_client (c ∷ cs) = Some c

-- the client that comes after this one
abbrev pub client_after : ℕ → List ℕ → Option ℕ
client_after c [] = None
client_after c (d ∷ ds) = if d == c then first_client ds else client_after c ds

-- the first of these clients whose session has its cell still
abbrev pub first_there : ClientsState → List ℕ → Option ℕ
first_there s [] = None
first_there s (c ∷ cs) = if has_cell (client_at s c) then Some c else first_there s cs
