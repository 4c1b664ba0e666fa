-- How the calls keep the state: lists of nodes.
use Rattle.std.specs.Prelude.{◌≡◌, ◌≤◌, ◌<◌, ◌+◌, ◌-◌, ◌⊎◌, ℕ, Bool, true, false, nat_lt, if◌then◌else◌, List, [], ◌∷◌, Option, Some, length, map, take, slice_index_or, ◌==◌}
use Rattle.aom_clients.specs.Lists.{Table, IsIn, list_at}
use Rattle.aom_clients.specs.declared.client.Client.{Client}
use Rattle.aom_clients.specs.declared.client.Client.TheVariants.{Unconnected, Connecting, Open, Closing, Dying}
use Rattle.aom_clients.specs.declared.place.MessagePlace.{MessagePlace}
use Rattle.aom_clients.specs.declared.place.MessagePlace.TheVariants.{Free, Queued, Held, Discarded}
use Rattle.aom_clients.specs.declared.entry.QueueEntry.{QueueEntry}
use Rattle.aom_clients.specs.declared.entry.QueueEntry.TheVariants.{Connect, Message, Close}
use Rattle.aom_clients.specs.Table.{server_of, is_queued, is_out_of}
use Rattle.aom_clients.specs.Clients.{ClientsState}

-- the entry that a node stands for
abbrev pub entry_of : ℕ → QueueEntry
entry_of n = if nat_lt n 1024 then Message n else (if nat_lt n 1088 then Connect (n - 1024) else Close (n - 1088))

-- the nodes of connects
abbrev pub is_connect_node : ℕ → Bool
is_connect_node n = if nat_lt n 1024 then false else nat_lt n 1088

-- the clients of the connects among these nodes
abbrev pub connecting_in : List ℕ → List ℕ
connecting_in [] = []
connecting_in (n ∷ ns) = if is_connect_node n then (n - 1024) ∷ connecting_in ns else connecting_in ns

-- the client asked that server for a session
abbrev pub is_connecting_at : ℕ → Client → Bool
is_connecting_at k (Connecting server slots) = server == k
is_connecting_at k other = false

-- the client closes its session with that server
abbrev pub is_leaving : ℕ → Client → Bool
is_leaving k (Closing server session) = server == k
is_leaving k (Dying server session) = server == k
is_leaving k other = false

-- the client has its session open with that server
abbrev pub is_open_at : ℕ → Client → Bool
is_open_at k (Open server session slots) = server == k
is_open_at k other = false

-- how many slots a client is to have at most
abbrev pub slots_of : Client → ℕ
slots_of (Connecting server slots) = slots
slots_of (Open server session slots) = slots
slots_of other = 0

-- the server that a client names, if it names one
abbrev pub named_by : Client → Option ℕ
named_by (Connecting server slots) = Some server
named_by other = server_of other

-- the message is held, by a service of this client
abbrev pub is_held_of : ℕ → MessagePlace → Bool
is_held_of c (Held client) = client == c
is_held_of c other = false

-- the state that the lists tell: the queues by their nodes, and the messages with a slot in the first 64 lists
abbrev pub state_of : List Client → List MessagePlace → Table → Table → Table → ClientsState
state_of clients places queues sessions sent =
    record { clients = clients; places = places; queues = map (map entry_of) queues.lists; sessions = sessions.lists; sent = take 64 sent.lists }

-- how many of each there are
pub record AreSized (clients : List Client) (places : List MessagePlace) (queues connects sessions sent : Table) : Type 0 where
  pub clients_long : length clients ≡ 64
  pub places_long : length places ≡ 1024
  pub queues_nodes : queues.nodes ≡ 1152
  pub connects_nodes : connects.nodes ≡ 64
  pub sessions_nodes : sessions.nodes ≡ 64
  pub sent_nodes : sent.nodes ≡ 1024
  pub cells : length queues.lists ≤ 4096
  pub connects_long : length connects.lists ≡ length queues.lists
  pub sessions_long : length sessions.lists ≡ length queues.lists
  pub sent_long : length sent.lists ≡ 128

-- a message that waits is in the queue of the server with which its client has its session open
pub record Waits (clients : List Client) (queues : Table) (c m : ℕ) : Type 0 where
  pub server : ℕ
  pub open_there : is_open_at server (slice_index_or clients c Unconnected) ≡ true
  pub there : IsIn m (list_at queues server)

-- an entry is of a client that is at it, and of a message that waits
pub record AreEntries (clients : List Client) (places : List MessagePlace) (queues : Table) : Type 0 where
  pub messages : (k m : ℕ) → m < 1024 → IsIn m (list_at queues k) → is_queued (slice_index_or places m Free) ≡ true
  pub connects : (k c : ℕ) → c < 64 → IsIn (1024 + c) (list_at queues k) → is_connecting_at k (slice_index_or clients c Unconnected) ≡ true
  pub closes : (k c : ℕ) → c < 64 → IsIn (1088 + c) (list_at queues k) → is_leaving k (slice_index_or clients c Unconnected) ≡ true
  pub waits : (c m : ℕ) → slice_index_or places m Free ≡ Queued c → Waits clients queues c m

-- the connects of a queue are listed once more
pub record AreConnects (queues connects : Table) : Type 0 where
  pub same : (k : ℕ) → list_at connects k ≡ connecting_in (list_at queues k)

-- a client is among the sessions of the server of its session
pub record AreSessions (clients : List Client) (sessions : Table) : Type 0 where
  pub has : (k c : ℕ) → IsIn c (list_at sessions k) → server_of (slice_index_or clients c Unconnected) ≡ Some k
  pub listed : (k c : ℕ) → server_of (slice_index_or clients c Unconnected) ≡ Some k → IsIn c (list_at sessions k)

-- the messages of each client that wait or are held, with a slot of it, and those that are held and have no slot any more
pub record AreSent (places : List MessagePlace) (sent : Table) : Type 0 where
  pub out : (c m : ℕ) → c < 64 → IsIn m (list_at sent c) → is_out_of c (slice_index_or places m Free) ≡ true
  pub past : (c m : ℕ) → c < 64 → IsIn m (list_at sent (64 + c)) → is_held_of c (slice_index_or places m Free) ≡ true
  pub waiting : (c m : ℕ) → slice_index_or places m Free ≡ Queued c → (c < 64) × IsIn m (list_at sent c)
  pub held : (c m : ℕ) → slice_index_or places m Free ≡ Held c → (c < 64) × (IsIn m (list_at sent c) ⊎ IsIn m (list_at sent (64 + c)))
  pub senders : (c m : ℕ) → slice_index_or places m Free ≡ Discarded c → c < 64
  pub few : (c : ℕ) → c < 64 → length (list_at sent c) ≤ 64

-- what clients name is there
pub record AreNamed (clients : List Client) (cells : ℕ) : Type 0 where
  pub servers : (c k : ℕ) → named_by (slice_index_or clients c Unconnected) ≡ Some k → k < cells
  pub slots : (c : ℕ) → slots_of (slice_index_or clients c Unconnected) ≤ 64

-- all of these
pub record ClientTablesAgree (clients : List Client) (places : List MessagePlace) (queues connects sessions sent : Table) : Type 0 where
  pub sized : AreSized clients places queues connects sessions sent
  pub entries : AreEntries clients places queues
  pub listed : AreConnects queues connects
  pub connected : AreSessions clients sessions
  pub out : AreSent places sent
  pub named : AreNamed clients (length queues.lists)
