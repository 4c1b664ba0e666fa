-- Servers, sessions and messages: whose cell is a server, what waits in its queue, and who sent a message.
use Rattle.std.specs.Prelude.{ℕ, suc, Bool, true, false, cond, not, is_some, ◌&&◌, ◌==◌, ◌+◌, ◌++◌, length, filter, List, [], ◌∷◌, Option, Some, None}
use Rattle.std.specs.List.{list_any}
use Rattle.aom_image.specs.Image.{Image}
use Rattle.aom_image.specs.declared.method.Thing.{Thing}
use Rattle.aom_image.specs.declared.method.Thing.TheVariants.{Message, Object as An_object_of}
use Rattle.aom_roles.specs.Classes.{sessions_in}
use Rattle.aom_semantics.specs.Requests.{thing_kind}
use Rattle.aom_semantics.specs.Places.{Asked, Cell, Close_of, Connect_of, Elsewhere, Object, Place, Queued, Sender, Message_of, Service, service_of, set_service}

-- the class of the sessions of what that names, if it is a server
abbrev pub session_class : Image → Thing → Option ℕ
session_class p t = sessions_in (thing_kind p t)

abbrev pub is_server : Image → Thing → Bool
is_server p t = is_some (session_class p t)

abbrev pub of_class : Option ℕ → Option Thing
of_class None = None
of_class (Some c) = Some (An_object_of c)

-- what a session with it is
abbrev pub session_thing : Image → Option Object → Option Thing
session_thing p None = None
session_thing p (Some o) = of_class (session_class p o.thing)

-- what waits in its queue is a message, and nothing waits at what is no server
abbrev pub message_thing : Image → Option Object → Option Thing
message_thing p None = None
message_thing p (Some o) = cond (is_server p o.thing) (Some Message) None

-- ---- what a server has

-- the client is among these
abbrev pub is_among : ℕ → List ℕ → Bool
is_among c cs = list_any (λ d. d == c) cs

-- the client has a session with it
abbrev pub has_session : Service → ℕ → Bool
has_session v c = is_among c v.sessions

abbrev pub is_message : ℕ → Asked → Bool
is_message m (Connect_of c) = false
is_message m (Message_of c k) = k == m
is_message m (Close_of c) = false

-- that message waits in its queue
abbrev pub has_message : Service → ℕ → Bool
has_message v m = list_any (is_message m) v.queue

abbrev pub is_connect : Asked → Bool
is_connect (Connect_of c) = true
is_connect (Message_of c m) = false
is_connect (Close_of c) = false

-- how many sessions it has or is asked for
abbrev pub sessions_in_use : Service → ℕ
sessions_in_use v = length v.sessions + length (filter is_connect v.queue)

-- that is queued last
abbrev pub asked_last : Asked → Service → Service
asked_last a v = record v { queue = v.queue ++ a ∷ [] }

abbrev pub has_more : List Asked → Bool
has_more [] = false
has_more (e ∷ es) = true

-- something waits in the queue of the cell
abbrev pub is_asked_for : Cell → Bool
is_asked_for c = has_more c.service.queue

-- ---- what becomes of it

-- the first in its queue is taken
abbrev pub rest_of : List Asked → List Asked
rest_of [] = []
rest_of (e ∷ es) = es

abbrev pub taken_first : Service → Service
taken_first v = record v { queue = rest_of v.queue }

-- the client's session is the last
abbrev pub opened : ℕ → Service → Service
opened c v = record v { sessions = v.sessions ++ c ∷ [] }

abbrev pub is_other : ℕ → ℕ → Bool
is_other c d = not (d == c)

-- the client has none any more
abbrev pub parted : ℕ → Service → Service
parted c v = record v { sessions = filter (is_other c) v.sessions }

-- what of the client stays where it closes or dies: its close alone
abbrev pub stays : ℕ → Asked → Bool
stays c (Connect_of d) = is_other c d
stays c (Message_of d m) = is_other c d
stays c (Close_of d) = true

-- the service of the cell of that name, changed
abbrev pub reserved : (Service → Service) → ℕ → List Cell → List Cell
reserved f n cs = set_service n (f (service_of cs n)) cs

-- ---- messages

abbrev pub is_queue : Place → Bool
is_queue (Elsewhere (Queued s m)) = true
is_queue _ = false

abbrev pub is_from : ℕ → Option Sender → Bool
is_from c None = false
is_from c (Some m) = m.client == c

abbrev pub holds_slot : ℕ → Option Sender → Bool
holds_slot c None = false
holds_slot c (Some m) = (m.client == c) && m.holds_slot

-- how many slots of the client's session are taken
abbrev pub slots_taken : ℕ → List Cell → ℕ
slots_taken c [] = 0
slots_taken c (x ∷ xs) = cond (holds_slot c x.service.sender) (suc (slots_taken c xs)) (slots_taken c xs)

-- a message of the client has no slot any more
abbrev pub slot_released : ℕ → Option Sender → Option Sender
slot_released c None = None
slot_released c (Some m) = Some (cond (m.client == c) (record m { holds_slot = false }) m)

-- and its completion is told to nobody
abbrev pub discarded : ℕ → Option Sender → Option Sender
discarded c None = None
discarded c (Some m) = Some (cond (m.client == c) (record m { holds_slot = false; is_reported = false }) m)

-- what the client leaves of a service as it closes or dies, and of all: its messages that wait go
abbrev pub left_by : ℕ → Service → Service
left_by c v = record v { queue = filter (stays c) v.queue; sender = discarded c v.sender }

abbrev pub withdrawn : ℕ → List Cell → List Cell
withdrawn c [] = []
withdrawn c (x ∷ xs) = cond (is_queue x.owner && is_from c x.service.sender) (withdrawn c xs) (record x { service = left_by c x.service } ∷ withdrawn c xs)

-- the messages of the client hold no slot any more
abbrev pub all_slot_released : ℕ → List Cell → List Cell
all_slot_released c [] = []
all_slot_released c (x ∷ xs) = record x { service = record x.service { sender = slot_released c x.service.sender } } ∷ all_slot_released c xs

-- what waits in the queue of that server goes
abbrev pub is_queue_of : ℕ → Place → Bool
is_queue_of n (Elsewhere (Queued s m)) = s == n
is_queue_of n _ = false

abbrev pub without_queue : ℕ → List Cell → List Cell
without_queue n [] = []
without_queue n (x ∷ xs) = cond (is_queue_of n x.owner) (without_queue n xs) (x ∷ without_queue n xs)
