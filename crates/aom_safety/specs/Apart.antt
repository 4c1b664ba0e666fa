-- What is kept of clients, by closed states: one where clients and a server say the same, and one for each way in which they do not.
use Rattle.std.specs.Prelude.{ℕ, pos, true, List, [], ◌∷◌, Option, Some, None}
use Rattle.aom_clients.specs.declared.client.Client.{Client}
use Rattle.aom_clients.specs.declared.client.Client.TheVariants.{Closing, Connecting, Open}
use Rattle.aom_image.specs.declared.method.Thing.{Thing}
use Rattle.aom_image.specs.declared.method.Thing.TheVariants.{Message}
use Rattle.aom_safety.specs.Kept.{ClientsFit, TasksKept}
use Rattle.aom_semantics.specs.Places.{Asked, Cell, Close_of, Connect_of, Elsewhere, In_service, Issued, Message_of, Place, Queued, Root, Sender, unserved}
use Rattle.aom_semantics.specs.Tokens.{TokensApart}
use Rattle.aom_semantics.specs.Requests.{pending}
use Rattle.aom_semantics.specs.State.{Accept_left, Accepts, Dispatched, Of_server, Disconnects, Stage}
use Rattle.aom_semantics.specs.Cases.Building.{a_cell, pair}
use Rattle.aom_semantics.specs.Cases.Moves.{an_image}
use Rattle.aom_semantics.specs.Cases.Servers.{a_server, a_session, asked, listed, owned_object}

-- clients that are at that, and these cells
abbrev pub Fit : List Client → List Cell → Type 0
Fit clients cells = ClientsFit an_image clients cells

-- client 0 has its session open with the server, which takes one
abbrev pub opened : List Client
opened = Open 5 2 4 ∷ []

abbrev pub connecting : List Client
connecting = Connecting 5 4 ∷ []

abbrev pub leaving : List Client
leaving = Closing 5 2 ∷ []

-- enlisted, with that queue, and sessions of these clients
abbrev pub serves : List Asked → List ℕ → Cell
serves queue sessions = listed (a_server (record { queue = queue; sessions = sessions; sender = None; token = None }))

abbrev pub by_client : ℕ → Option Sender
by_client client = Some (record { client = client; holds_slot = true; is_reported = true })

-- what that client sent: such a thing, in that place
abbrev pub sent : Thing → Option Sender → Place → Cell
sent thing sender owner = record (a_cell 7 thing owner) { service = record unserved { sender = sender } }

-- a message of that client, by that name, in the server's queue where the number says
abbrev pub waits : (name client place : ℕ) → Cell
waits name client place = record (a_cell name Message (Elsewhere (Queued 5 place))) { service = record unserved { sender = by_client client } }

-- a token with that sender, of such a thing in that place
abbrev pub a_token : Option Sender → Thing → Place → Cell
a_token sender thing owner = record (a_cell 7 thing owner) { service = record unserved { sender = sender; token = Some (record { class = 2; order = 0 }) } }

-- a token by that name with that order, and an object that waits for the one of that order
abbrev pub of_order : ℕ → ℕ → Cell
of_order name order = record (a_cell name Message (Elsewhere Root)) { service = record unserved { token = Some (record { class = 2; order = order }) } }

abbrev pub awaiting : ℕ → ℕ → Cell
awaiting name order = record (a_cell name pair (Elsewhere Root)) { request = Some (record { order = 0; priority = pos 0; phase = Issued; status = pending; timer = None; token = Some order }) }

-- that stage of the server's dispatch is at hand for client 0
abbrev pub Serving : List Client → Cell → Stage → Type 0
Serving clients cell stage = TasksKept an_image clients (cell ∷ []) (Dispatched (Of_server owned_object 0 stage) ∷ [])

pub record KeptNeedsFail : Type 0 where
  -- the session is listed, and a message of the client waits
  pub kept : Fit opened (serves (Message_of 0 7 ∷ []) (0 ∷ []) ∷ waits 7 0 7 ∷ a_session ∷ [])
  -- nothing waits twice
  pub twice_connected : Fit connecting (serves (Connect_of 0 ∷ Connect_of 0 ∷ []) [] ∷ []) → ⊥
  pub twice_closed : Fit leaving (serves (Close_of 0 ∷ Close_of 0 ∷ []) (0 ∷ []) ∷ []) → ⊥
  pub twice_sent : Fit opened (serves (Message_of 0 7 ∷ Message_of 0 7 ∷ []) (0 ∷ []) ∷ waits 7 0 7 ∷ []) → ⊥
  -- what waits is of a client that is at that server, and at that
  pub connects_nowhere : Fit [] (serves (Connect_of 0 ∷ []) [] ∷ []) → ⊥
  pub connects_elsewhere : Fit (Connecting 6 4 ∷ []) (serves (Connect_of 0 ∷ []) [] ∷ []) → ⊥
  pub sends_while_closing : Fit leaving (serves (Message_of 0 7 ∷ []) (0 ∷ []) ∷ waits 7 0 7 ∷ []) → ⊥
  pub closes_while_open : Fit opened (serves (Close_of 0 ∷ []) (0 ∷ []) ∷ []) → ⊥
  -- a session is of a client that has it, and each that has one is listed
  pub session_of_nobody : Fit [] (serves [] (0 ∷ []) ∷ a_session ∷ []) → ⊥
  pub session_not_listed : Fit opened (serves [] [] ∷ a_session ∷ []) → ⊥
  -- no other cell has a queue or sessions
  pub plain_queue : Fit connecting (listed (record (a_cell 5 pair (Elsewhere Root)) { service = record unserved { queue = Connect_of 0 ∷ [] } }) ∷ []) → ⊥
  pub plain_sessions : Fit opened (listed (record (a_cell 5 pair (Elsewhere Root)) { service = record unserved { sessions = 0 ∷ [] } }) ∷ []) → ⊥
  -- nor has a server that is not enlisted
  pub unlisted_queue : Fit connecting (a_server (asked (Connect_of 0 ∷ [])) ∷ []) → ⊥
  pub unlisted_sessions : Fit opened (a_server (record unserved { sessions = 0 ∷ [] }) ∷ []) → ⊥
  -- a message stands at its name, and is of the client that sent it
  pub misplaced : Fit opened (serves (Message_of 0 7 ∷ []) (0 ∷ []) ∷ waits 7 0 8 ∷ []) → ⊥
  pub sent_by_another : Fit opened (serves (Message_of 0 7 ∷ []) (0 ∷ []) ∷ waits 7 1 7 ∷ []) → ⊥
  -- a message has a sender, be it served or not, and nothing else has one; what is served has one
  pub serves_sent : Fit [] (sent Message (by_client 0) (Elsewhere In_service) ∷ [])
  pub unsent : Fit [] (sent Message None (Elsewhere Root) ∷ []) → ⊥
  pub sent_no_message : Fit [] (sent pair (by_client 0) (Elsewhere Root) ∷ []) → ⊥
  pub serves_no_message : Fit [] (sent pair None (Elsewhere In_service) ∷ []) → ⊥
  -- a token has none, is a message, and is not served
  pub has_token : Fit [] (a_token None Message (Elsewhere Root) ∷ [])
  pub token_is_sent : Fit [] (a_token (by_client 0) Message (Elsewhere Root) ∷ []) → ⊥
  pub token_no_message : Fit [] (a_token None pair (Elsewhere Root) ∷ []) → ⊥
  pub serves_token : Fit [] (a_token None Message (Elsewhere In_service) ∷ []) → ⊥
  -- no two requests wait for one token, and no two tokens have one order
  pub waits_alone : TokensApart (awaiting 1 0 ∷ awaiting 2 0 ∷ []) → ⊥
  pub tokens_alike : TokensApart (of_order 1 0 ∷ of_order 2 0 ∷ []) → ⊥
  -- sessions and connects that wait are no more than the server takes
  pub too_many : Fit (Open 5 2 4 ∷ Connecting 5 4 ∷ []) (serves (Connect_of 1 ∷ []) (0 ∷ []) ∷ a_session ∷ []) → ⊥
  -- the client whose connect or close is served is at it, and asks for it no more
  pub accepts : Serving connecting (serves [] []) Accepts
  pub accepts_nobody : Serving [] (serves [] []) Accepts → ⊥
  pub accepts_again : Serving connecting (serves (Connect_of 0 ∷ []) []) Accepts → ⊥
  pub accepts_too_many : Serving connecting (serves [] (1 ∷ [])) Accepts → ⊥
  pub leaves_nobody : Serving [] (serves [] []) (Accept_left (pos 7)) → ⊥
  pub parts : Serving leaving (serves [] (0 ∷ [])) Disconnects
  pub parts_with_nobody : Serving opened (serves [] (0 ∷ [])) Disconnects → ⊥
  pub parts_again : Serving leaving (serves (Close_of 0 ∷ []) (0 ∷ [])) Disconnects → ⊥
