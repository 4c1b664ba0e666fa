-- What an entry that is taken, and a client that leaves, make of each part of the state.
use Rattle.std.specs.Prelude.{◌≡◌, ◌<◌, ◌+◌, ◌⊎◌, ◌++◌, ℕ, Bool, true, false, List, [], ◌∷◌, Option, None, Some, length, map, slice_index_or, slice_set}
use Rattle.aom_clients.specs.Lists.{Table, IsFree, list_at, with_list, without, rest_of}
use Rattle.aom_clients.specs.declared.client.Client.{Client}
use Rattle.aom_clients.specs.declared.client.Client.TheVariants.{Unconnected, Connecting, Open, Closing, Gone, Dead, Dying}
use Rattle.aom_clients.specs.declared.place.MessagePlace.{MessagePlace}
use Rattle.aom_clients.specs.declared.place.MessagePlace.TheVariants.{Free}
use Rattle.aom_clients.specs.declared.entry.QueueEntry.{QueueEntry}
use Rattle.aom_clients.specs.declared.entry.QueueEntry.TheVariants.{Connect, Message, Close}
use Rattle.aom_clients.specs.declared.entry.TakenEntry.{TakenEntry}
use Rattle.aom_clients.specs.Table.{row, sender, held_place}
use Rattle.aom_clients.specs.Nodes.{entry_of}

-- the client of a connect is below that number
abbrev pub ConnectBelow : ℕ → QueueEntry → Type 0
ConnectBelow n (Connect c) = c < n
ConnectBelow n other = Unit {0}

-- the client that an entry is of
abbrev pub client_in : List MessagePlace → QueueEntry → ℕ
client_in places (Connect c) = c
client_in places (Message m) = sender (slice_index_or places m Free)
client_in places (Close c) = c

-- what is taken with a node that stood first in a queue
abbrev pub taken_of : List MessagePlace → Option ℕ → Option TakenEntry
taken_of places None = None
taken_of places (Some n) = Some (record { entry = entry_of n; client = client_in places (entry_of n) })

-- what the entry that was taken makes of a part; nothing is made of it where none was
abbrev pub if_taken : {X : Type 0} → (QueueEntry → X → X) → Option TakenEntry → X → X
if_taken f None x = x
if_taken f (Some t) x = f t.entry x

-- the place of the message that was taken
abbrev message_at : QueueEntry → Option ℕ
message_at (Message m) = Some m
message_at other = None

abbrev pub message_in : Option TakenEntry → Option ℕ
message_in None = None
message_in (Some t) = message_at t.entry

-- a connect that left its queue is listed no more
abbrev pub unlisted : ℕ → QueueEntry → Table → Table
unlisted k (Connect c) connects = with_list k (rest_of (list_at connects k)) connects
unlisted k other connects = connects

-- a message that is taken is held
abbrev pub held_by : QueueEntry → List MessagePlace → List MessagePlace
held_by (Message m) places = slice_set places m (held_place (slice_index_or places m Free))
held_by other places = places

-- a client whose connect went is unconnected
abbrev pub given_up : QueueEntry → List Client → List Client
given_up (Connect c) clients = slice_set clients c Unconnected
given_up other clients = clients

-- a message that went has no slot and no place
abbrev pub slot_freed : QueueEntry → Table → Table
slot_freed (Message m) sent = record sent { lists = map (without m) sent.lists }
slot_freed other sent = sent

abbrev pub place_freed : QueueEntry → List MessagePlace → List MessagePlace
place_freed (Message m) places = slice_set places m Free
place_freed other places = places

-- the close of a client that had its session open is queued last
abbrev pub close_queued : Client → ℕ → Table → Table
close_queued (Open server session slots) c queues = with_list server (list_at queues server ++ (1088 + c) ∷ []) queues
close_queued other c queues = queues

-- and can be queued
pub record CloseFits (server c : ℕ) (queues : Table) : Type 0 where
  pub list : server < length queues.lists
  pub node : 1088 + c < queues.nodes
  pub free : IsFree queues (1088 + c)

abbrev pub CanClose : Client → ℕ → Table → Type 0
CanClose (Open server session slots) c queues = CloseFits server c queues
CanClose other c queues = Unit {0}

-- the second is what a close or a death makes of the first
abbrev pub IsLeft : Client → Client → Type 0
IsLeft was next = ((row was).close ≡ Some next) ⊎ ((row was).die ≡ Some next)

abbrev pub is_connecting : Client → Bool
is_connecting (Connecting server slots) = true
is_connecting other = false

-- the client's session closes
abbrev pub is_ending : Client → Bool
is_ending (Closing server session) = true
is_ending (Dying server session) = true
is_ending other = false

-- the client names no server
abbrev pub is_apart : Client → Bool
is_apart Unconnected = true
is_apart Gone = true
is_apart Dead = true
is_apart other = false
