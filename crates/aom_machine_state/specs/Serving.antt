-- What the machine's clients, queues and message places stand for.
use Rattle.std.specs.Prelude.{◌≡◌, ◌+◌, ◌<◌, ◌==◌, ℕ, Bool, true, false, cond, List, [], ◌∷◌, Option, Some, None, length, map, slice_index_or}
use Rattle.aom_clients.specs.declared.client.Client.{Client}
use Rattle.aom_clients.specs.declared.client.Client.TheVariants.{Open, Closing, Dying}
use Rattle.aom_clients.specs.declared.entry.QueueEntry.{QueueEntry}
use Rattle.aom_clients.specs.declared.entry.QueueEntry.TheVariants.{Connect, Message, Close}
use Rattle.aom_clients.specs.declared.place.MessagePlace.{MessagePlace}
use Rattle.aom_clients.specs.declared.place.MessagePlace.TheVariants.{Free, Queued, Held, Discarded}
use Rattle.aom_clients.specs.Clients as kept
use Rattle.aom_clients.specs.Table.{is_out_of, is_queued, sender}
use Rattle.aom_semantics.specs.Clients.{client_at}
use Rattle.aom_semantics.specs.Places.{Asked, Cell, Close_of, Connect_of, Message_of, Place as Owner, Sender, service_of}
use Rattle.aom_semantics.specs.Servers.{holds_slot, is_among, is_queue}

-- the number of the message at a place, past those of cells
abbrev pub message_name : ℕ → ℕ
message_name place = 4096 + place

-- in the checked machine no client says which cell its session is
abbrev pub sessionless : Client → Client
sessionless (Open server session slots) = Open server 0 slots
sessionless (Closing server session) = Closing server 0
sessionless (Dying server session) = Dying server 0
sessionless other = other

-- what waits in a queue, with the client that it is of
abbrev pub asked_by : List MessagePlace → QueueEntry → Asked
asked_by places (Connect client) = Connect_of client
asked_by places (Message place) = Message_of (sender (slice_index_or places place Free)) (message_name place)
asked_by places (Close client) = Close_of client

-- the sender of the message of a place, where it holds a slot or none
abbrev pub sent_by : Bool → MessagePlace → Option Sender
sent_by slot Free = None
sent_by slot (Queued client) = Some (record { client = client; holds_slot = slot; is_reported = true })
sent_by slot (Held client) = Some (record { client = client; holds_slot = slot; is_reported = true })
sent_by slot (Discarded client) = Some (record { client = client; holds_slot = slot; is_reported = false })

-- the place has a message
abbrev pub is_taken : MessagePlace → Bool
is_taken Free = false
is_taken other = true

-- the message of a place holds a slot of its client's session
abbrev pub holds : kept.ClientsState → ℕ → Bool
holds s place = is_among place (kept.sent_at s (sender (kept.place_at s place)))

-- the place that owns the cell of that name
abbrev pub owner_of : List Cell → ℕ → Option Owner
owner_of [] n = None
owner_of (c ∷ cs) n = cond (c.object.name == n) (Some c.owner) (owner_of cs n)

-- it is owned by a queue
abbrev pub waits_in : Option Owner → Bool
waits_in None = false
waits_in (Some p) = is_queue p

-- each is there once
abbrev pub Once : List ℕ → Type 0
Once [] = Unit {0}
Once (m ∷ ms) = (is_among m ms ≡ false) × Once ms

-- each client is at the same, each server has the same queue and the same sessions, and each message place the sender of the message of that number
pub record SameClients (s : kept.ClientsState) (cs : List Cell) (clients : List Client) : Type 0 where
  pub at : (c : ℕ) → sessionless (kept.client_at s c) ≡ client_at clients c
  pub queues : (n : ℕ) → map (asked_by s.places) (kept.queue_at s n) ≡ (service_of cs n).queue
  pub sessions : (n : ℕ) → kept.sessions_at s n ≡ (service_of cs n).sessions
  pub senders : (m : ℕ) → sent_by (holds s m) (kept.place_at s m) ≡ (service_of cs (message_name m)).sender
  pub waits : (m : ℕ) → is_queued (kept.place_at s m) ≡ waits_in (owner_of cs (message_name m))
  -- the messages that hold a slot of a client wait or are held, and are of it, each once
  pub out : (c m : ℕ) → is_among m (kept.sent_at s c) ≡ true → is_out_of c (kept.place_at s m) ≡ true
  -- what waits holds one
  pub slotted : (m c : ℕ) → kept.place_at s m ≡ Queued c → is_among m (kept.sent_at s c) ≡ true
  pub once : (c : ℕ) → Once (kept.sent_at s c)
  -- an object holds none
  pub silent : (n c : ℕ) → n < 4096 → holds_slot c (service_of cs n).sender ≡ false
  pub many : length s.clients ≡ 64
  pub lists : length s.sent ≡ 64

-- so many cells may be servers, and there are 1,024 places of messages
pub record AreSized (cells : ℕ) (s : kept.ClientsState) : Type 0 where
  pub places : length s.places ≡ 1024
  pub queues : length s.queues ≡ cells
  pub sessions : length s.sessions ≡ cells
