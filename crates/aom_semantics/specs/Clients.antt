-- What clients do: what each is at, whom it asks, and what becomes of it as it is served or its server goes.
use Rattle.std.specs.Prelude.{ℕ, suc, ℤ, Bool, true, false, cond, nat_lt, ◌&&◌, ◌==◌, List, [], ◌∷◌, Option, Some, None}
use Rattle.aom_image.specs.Image.{Image}
use Rattle.aom_image.specs.declared.class.ClassKind.{ClassKind}
use Rattle.aom_image.specs.declared.class.ClassKind.TheVariants.{Server as A_server}
use Rattle.aom_image.specs.declared.method.Thing.{Thing}
use Rattle.aom_image.specs.declared.method.Thing.TheVariants.{Object as An_object_of, Message}
use Rattle.aom_roles.specs.Things.{is_object}
use Rattle.aom_roles.specs.Shapes.{kind_of}
use Rattle.aom_clients.specs.declared.client.Client.{Client}
use Rattle.aom_clients.specs.declared.client.Client.TheVariants.{Unconnected, Connecting, Open, Closing, Dead, Dying}
use Rattle.aom_clients.specs.declared.refusal.CommandRefusal.{CommandRefusal}
use Rattle.aom_clients.specs.declared.refusal.CommandRefusal.TheVariants.{NotFound, ServerBusy}
use Rattle.aom_clients.specs.Table.{after_server_destroyed, row}
use Rattle.aom_roles.specs.Tables.{at, set_extending}
use Rattle.aom_semantics.specs.Places.{Asked, Cell, Close_of, Connect_of, Message_of, Elsewhere, Object, Queued, Request, service_of, unserved}
use Rattle.aom_semantics.specs.Servers.{asked_last, is_server, reserved, sessions_in_use, slots_taken, withdrawn, all_slot_released}
use Rattle.aom_semantics.specs.State.{State}
use Rattle.aom_transcript.specs.declared.event.ClientCommand.{ClientCommand}
use Rattle.aom_transcript.specs.declared.event.ClientCommand.TheVariants.{Connect, Send, Close, Die}

-- how many clients there are
abbrev pub client_count : ℕ
client_count = 64

-- ---- what each is at

abbrev pub client_at : List Client → ℕ → Client
client_at clients c = at Unconnected clients c

abbrev pub with_client : ℕ → Client → List Client → List Client
with_client c to clients = set_extending Unconnected clients c to

-- its connect is served
abbrev pub at_opening : ℕ → Client → Client
at_opening session (Connecting server slots) = Open server session slots
at_opening session other = other

-- its close is served
abbrev pub at_parting : Client → Client
at_parting (Closing server session) = Unconnected
at_parting (Dying server session) = Dead
at_parting other = other

-- ---- whom it asks

-- a server that is enlisted, and how many were before it
pub record Listed : Type 0 where
  pub name : ℕ
  pub order : ℕ

abbrev pub earlier : Listed → Option Listed → Listed
earlier a None = a
earlier a (Some b) = cond (nat_lt b.order a.order) b a

abbrev pub is_of_class : ℕ → Thing → Bool
is_of_class class (An_object_of c) = c == class
is_of_class class Message = false

abbrev pub among_listed : ℕ → Object → Option Request → Option Listed → Option Listed
among_listed class o None others = others
among_listed class o (Some r) others = cond (is_of_class class o.thing) (Some (earlier (record { name = o.name; order = r.order }) others)) others

-- the one of that class that was enlisted first
abbrev pub first_listed : ℕ → List Cell → Option Listed
first_listed class [] = None
first_listed class (c ∷ cs) = among_listed class c.object c.request (first_listed class cs)

-- the most sessions that a server of the class takes
abbrev pub most_of : Option ClassKind → ℕ
most_of (Some (A_server most session)) = most
most_of _ = 0

-- the server that a connect asks: no class but one of servers has one
abbrev pub asked_server : Image → ℕ → List Cell → Option Listed
asked_server p class cs = cond (is_server p (An_object_of class)) (first_listed class cs) None

abbrev pub asked_of : Option CommandRefusal → ℕ → Option Listed → List Cell → Option CommandRefusal
asked_of (Some refusal) most server cs = Some refusal
asked_of None most None cs = Some NotFound
asked_of None most (Some x) cs = cond (nat_lt (sessions_in_use (service_of cs x.name)) most) None (Some ServerBusy)

-- ---- a command

-- how many messages there are
abbrev pub count_messages : List Cell → ℕ
count_messages [] = 0
count_messages (c ∷ cs) = cond (is_object c.object.thing) (count_messages cs) (suc (count_messages cs))

-- the slots that an open client has
abbrev pub slots_of : Client → ℕ
slots_of (Open server session slots) = slots
slots_of other = 0

-- a message as its client sends it to a server, which holds a slot
abbrev pub sent_message : ℕ → ℕ → List ℤ → ℕ → Cell
sent_message c name words server = record {
  object = record { name = name; thing = Message };
  words = words;
  request = None;
  session = false;
  service = record unserved { sender = Some (record { client = c; holds_slot = true; is_reported = true }) };
  owner = Elsewhere (Queued server name);
}

module _ (p : Image) (client : ℕ) (s : State) where
  abbrev pub own : Client
  own = client_at s.clients client

  abbrev pub room : Option CommandRefusal → Option CommandRefusal
  room (Some refusal) = Some refusal
  room None = cond (nat_lt (slots_taken client s.cells) (slots_of own) && nat_lt (count_messages s.cells) p.header.messages) None (Some ServerBusy)

  -- why a command is refused, if it is
  abbrev pub refusal : ClientCommand → Option CommandRefusal
  refusal (Connect class slots) = asked_of (row own).connect (most_of (kind_of p (Some class))) (asked_server p class s.cells) s.cells
  refusal (Send words) = room (row own).send
  refusal Close = None
  refusal Die = None

  abbrev pub connecting : Option CommandRefusal → Option Listed → ℕ → State
  connecting None (Some x) slots = record s { cells = reserved (asked_last (Connect_of client)) x.name s.cells; clients = with_client client (Connecting x.name slots) s.clients }
  connecting _ server slots = s

  -- one more message in the queue of that server
  abbrev pub with_message : ℕ → List ℤ → ℕ → List Cell
  with_message name words server = sent_message client name words server ∷ reserved (asked_last (Message_of client name)) server s.cells

  abbrev pub sending : Option CommandRefusal → Client → ℕ → List ℤ → State
  sending None (Open server session slots) name words = record s { cells = with_message name words server }
  sending _ _ name words = s

  -- a client that had its session open has a close queued last
  abbrev pub reported : Client → List Cell → List Cell
  reported (Open server session slots) cs = reserved (asked_last (Close_of client)) server cs
  reported _ cs = cs

  abbrev pub leaving : Option Client → State
  leaving None = s
  leaving (Some to) = record s { cells = reported own (withdrawn client s.cells); clients = with_client client to s.clients }

  -- what it comes to, with that name for a message
  abbrev pub commanded : ClientCommand → ℕ → State
  commanded (Connect class slots) name = connecting (refusal (Connect class slots)) (asked_server p class s.cells) slots
  commanded (Send words) name = sending (refusal (Send words)) own name words
  commanded Close name = leaving (row own).close
  commanded Die name = leaving (row own).die

-- ---- a server goes

abbrev pub queue_ended : List Asked → List Client → List Client
queue_ended [] clients = clients
queue_ended (Connect_of c ∷ es) clients = queue_ended es (with_client c Unconnected clients)
queue_ended (Message_of c m ∷ es) clients = queue_ended es clients
queue_ended (Close_of c ∷ es) clients = queue_ended es clients

abbrev pub sessions_ended : List ℕ → List Client → List Client
sessions_ended [] clients = clients
sessions_ended (c ∷ cs) clients = sessions_ended cs (with_client c (after_server_destroyed (client_at clients c)) clients)

-- the messages of these hold no slot any more
abbrev pub each_slot_released : List ℕ → List Cell → List Cell
each_slot_released [] cells = cells
each_slot_released (c ∷ cs) cells = each_slot_released cs (all_slot_released c cells)
