-- Each row of the table, command by command, on a state of one client and one server.
use Rattle.std.proofs.Common.{◌≡◌, ℕ, List, [], ◌∷◌, Option, Some, None, refl}
use Rattle.aom_clients.specs.declared.client.Client.{Client}
use Rattle.aom_clients.specs.declared.client.Client.TheVariants.{Unconnected, Connecting, Open, Closing, Gone, Dead, Dying}
use Rattle.aom_clients.specs.declared.refusal.CommandRefusal.{CommandRefusal}
use Rattle.aom_clients.specs.declared.refusal.CommandRefusal.TheVariants.{NotFound, Died, ServerTerminated, ServerBusy}
use Rattle.aom_clients.specs.declared.place.MessagePlace.{MessagePlace}
use Rattle.aom_clients.specs.declared.place.MessagePlace.TheVariants.{Free, Queued, Held, Discarded}
use Rattle.aom_clients.specs.declared.server.Server.{Server}
use Rattle.aom_clients.specs.declared.entry.QueueEntry.{QueueEntry}
use Rattle.aom_clients.specs.declared.entry.QueueEntry.TheVariants.{Connect, Message, Close}
use Rattle.aom_clients.specs.Table.{row}
use Rattle.aom_clients.specs.Clients.{ClientsState, connect_refusal, after_connect, send_refusal, after_send, after_close, after_die, freed, after_next}
use Rattle.aom_clients.specs.Clients.{after_connected, after_closed, after_complete, after_next_gone, after_session_gone, server_gone}

-- client 0 with two message places and server 0: what it is at, what the places have, the queue, the sessions, and what holds a slot
abbrev one : Client → MessagePlace → MessagePlace → List QueueEntry → List ℕ → List ℕ → ClientsState
one x p q queue sessions sent = record { clients = x ∷ []; places = p ∷ q ∷ []; queues = queue ∷ []; sessions = sessions ∷ []; sent = sent ∷ [] }

-- with nothing on its way
abbrev alone : Client → ClientsState
alone x = one x Free Free [] [] []

-- with its session open, and so many slots
abbrev open_with : ℕ → ClientsState
open_with slots = one (Open 0 5 slots) Free Free [] (0 ∷ []) []

abbrev to : ℕ → Option Server
to most = Some (record { cell = 0; most = most })

-- what comes of each command where the client alone decides that: why a connect and a send are refused, and the state after a close and a death
abbrev reported : ClientsState → Option CommandRefusal × Option CommandRefusal × ClientsState × ClientsState
reported s = (connect_refusal 0 (to 9) s, send_refusal 0 (Some 1) s, after_close 0 s, after_die 0 s)

-- unconnected
unconnected-nowhere : connect_refusal 0 None (alone Unconnected) ≡ Some NotFound
unconnected-nowhere = refl

unconnected-full : connect_refusal 0 (to 0) (alone Unconnected) ≡ Some ServerBusy
unconnected-full = refl

unconnected-connects : after_connect 0 (to 1) 2 (alone Unconnected) ≡ one (Connecting 0 2) Free Free (Connect 0 ∷ []) [] []
unconnected-connects = refl

unconnected-send : send_refusal 0 (Some 1) (alone Unconnected) ≡ Some NotFound
unconnected-send = refl

unconnected-close : after_close 0 (alone Unconnected) ≡ alone Unconnected
unconnected-close = refl

unconnected-die : after_die 0 (alone Unconnected) ≡ alone Dead
unconnected-die = refl

-- connecting
abbrev asking : ClientsState
asking = one (Connecting 0 2) Free Free (Connect 0 ∷ []) [] []

connecting-reported : reported asking ≡ (Some ServerBusy, Some ServerBusy, alone Unconnected, alone Dead)
connecting-reported = refl

-- open: a message is sent while a slot and a place are free
open-connect : connect_refusal 0 (to 9) (open_with 2) ≡ Some ServerBusy
open-connect = refl

open-send : after_send 0 (Some 1) (open_with 2) ≡ one (Open 0 5 2) Free (Queued 0) (Message 1 ∷ []) (0 ∷ []) (1 ∷ [])
open-send = refl

open-no-slot : send_refusal 0 (Some 1) (open_with 0) ≡ Some ServerBusy
open-no-slot = refl

open-no-place : send_refusal 0 None (open_with 2) ≡ Some ServerBusy
open-no-place = refl

-- what waits goes, what is held is discarded, and a close is queued last
abbrev busy : ClientsState
busy = one (Open 0 5 2) (Held 0) (Queued 0) (Message 1 ∷ []) (0 ∷ []) (0 ∷ 1 ∷ [])

open-close : after_close 0 busy ≡ one (Closing 0 5) (Discarded 0) Free (Close 0 ∷ []) (0 ∷ []) []
open-close = refl

open-die : after_die 0 busy ≡ one (Dying 0 5) (Discarded 0) Free (Close 0 ∷ []) (0 ∷ []) []
open-die = refl

open-freed : freed (row (Open 0 5 2)).close 0 busy ≡ 1 ∷ []
open-freed = refl

-- closing
abbrev ends : Client → ClientsState
ends x = one x Free Free (Close 0 ∷ []) (0 ∷ []) []

closing-reported : reported (ends (Closing 0 5)) ≡ (Some ServerBusy, Some ServerBusy, ends (Closing 0 5), ends (Dying 0 5))
closing-reported = refl

-- gone: it stays so where its connect is refused
gone-refused : after_connect 0 (to 0) 2 (alone Gone) ≡ alone Gone
gone-refused = refl

gone-connects : after_connect 0 (to 1) 2 (alone Gone) ≡ one (Connecting 0 2) Free Free (Connect 0 ∷ []) [] []
gone-connects = refl

gone-send : send_refusal 0 (Some 1) (alone Gone) ≡ Some ServerTerminated
gone-send = refl

gone-close : after_close 0 (one Gone (Held 0) Free [] [] []) ≡ one Unconnected (Discarded 0) Free [] [] []
gone-close = refl

gone-die : after_die 0 (alone Gone) ≡ alone Dead
gone-die = refl

-- dead and dying
dead-reported : reported (alone Dead) ≡ (Some Died, Some Died, alone Dead, alone Dead)
dead-reported = refl

dying-reported : reported (ends (Dying 0 5)) ≡ (Some Died, Some Died, ends (Dying 0 5), ends (Dying 0 5))
dying-reported = refl

-- a service: a connect, a message and a close are taken and served
connect-served : after_connected 0 (Some 5) (after_next 0 asking) ≡ open_with 2
connect-served = refl

connect-declined : after_connected 0 None (after_next 0 asking) ≡ alone Unconnected
connect-declined = refl

message-taken : after_next 0 busy ≡ one (Open 0 5 2) (Held 0) (Held 0) [] (0 ∷ []) (0 ∷ 1 ∷ [])
message-taken = refl

message-completed : after_complete 0 busy ≡ one (Open 0 5 2) Free (Queued 0) (Message 1 ∷ []) (0 ∷ []) (1 ∷ [])
message-completed = refl

close-served : after_closed 0 (after_next 0 (ends (Closing 0 5))) ≡ alone Unconnected
close-served = refl

death-served : after_closed 0 (after_next 0 (ends (Dying 0 5))) ≡ alone Dead
death-served = refl

-- a server goes: a connect and a message are completed, and a session ends
connect-gone : after_next_gone 0 asking ≡ alone Unconnected
connect-gone = refl

message-gone : after_next_gone 0 busy ≡ one (Open 0 5 2) (Held 0) Free [] (0 ∷ []) (0 ∷ [])
message-gone = refl

session-over : after_session_gone 0 (after_next_gone 0 busy) ≡ one Gone (Held 0) Free [] [] []
session-over = refl

closing-over : after_session_gone 0 (after_next_gone 0 (ends (Closing 0 5))) ≡ alone Unconnected
closing-over = refl

dying-over : after_session_gone 0 (after_next_gone 0 (ends (Dying 0 5))) ≡ alone Dead
dying-over = refl

server-gone : server_gone 0 busy ≡ one Gone (Held 0) Free [] [] []
server-gone = refl

server-gone-asked : server_gone 0 asking ≡ alone Unconnected
server-gone-asked = refl

server-gone-dying : server_gone 0 (ends (Dying 0 5)) ≡ alone Dead
server-gone-dying = refl
