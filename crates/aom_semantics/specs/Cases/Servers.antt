-- The needs of servers: of the instructions on messages, of what returns to a server's dispatch and of its end, of a server that goes, and of what its queue asks; and when a server signals.
use Rattle.std.specs.Prelude.{Bool, pos, List, [], ◌∷◌, ◌≡◌, map, None, Some}
use Rattle.aom_instructions.specs.declared.instr.Instr.TheVariants.{TakeMessage, Reply, Return}
use Rattle.aom_image.specs.declared.method.Gives.TheVariants.{Own as An_own}
use Rattle.aom_image.specs.declared.method.Role.TheVariants.{Do, Service as Attends}
use Rattle.aom_image.specs.declared.method.Thing.TheVariants.{Message}
use Rattle.aom_semantics.specs.Places.{Asked, Cell, Close_of, Connect_of, Elsewhere, Going, Idle, In_service, Message_of, Object, Root, Service, Session, unserved}
use Rattle.aom_semantics.specs.State.{Accept_left, Accepted, Accepts, Closing, CompletedTwice, Destroy, Dispatched, MessageLost, NullOrDead, Of_server, Orphan, Disconnects, OwnedObject, Serves, Service_left, Stage, State, Stray, Task, Trapped, Unbalanced, WrongKind, A_mark}
use Rattle.aom_semantics.specs.World.{Picks, Waits, turned}
use Rattle.aom_semantics.specs.Cases.Building.{AllComeOut, Case, a_cell, at_bottom, fails, is_stuck_by, keeper, leaf, mine, missed, seven, state_of}
use Rattle.aom_semantics.specs.Cases.Moves.{AllTurn, Turning, an_image, at}
use Rattle.aom_semantics.specs.Cases.Turns.{AllCome, AllCount, Count_case, Turn_case, comes_to, count}

-- a server that the root owns, and what clients have at it
abbrev pub a_server : Service → Cell
a_server v = record (a_cell 5 keeper (Elsewhere Root)) { service = v }

abbrev pub asked : List Asked → Service
asked queue = record unserved { queue = queue }

abbrev pub owned_object : OwnedObject
owned_object = record { object = record { name = 5; thing = keeper }; place = Elsewhere Root }

-- the session of client 0 with it
abbrev pub a_session : Cell
a_session = a_cell 2 leaf (Elsewhere (Session 5 0))

abbrev pub its_session : Object
its_session = record { name = 2; thing = leaf }

-- the message that is served
abbrev pub a_message : Cell
a_message = a_cell 1 Message (Elsewhere In_service)

-- ---- instructions

-- the method of a session, whose message is there
abbrev pub taking : Case
taking = record (fails (TakeMessage 0) []) { role = Attends; cells = a_message ∷ [] }

abbrev pub taking_cases : List Case
taking_cases =
    taking
    ∷ fails (TakeMessage 0) (NullOrDead ∷ NullOrDead ∷ [])
    ∷ record taking { role = Do; unmet = NullOrDead ∷ [] }
    ∷ record taking { cells = []; unmet = NullOrDead ∷ [] }
    ∷ record taking { cells = a_message ∷ a_cell 3 leaf (mine 0) ∷ []; unmet = Orphan ∷ [] }
    -- a second one is asked for its register first, which owns the message that is taken
    ∷ record taking { cells = a_cell 1 Message (mine 0) ∷ []; unmet = Orphan ∷ NullOrDead ∷ [] }
    ∷ record taking { role = Do; cells = a_cell 1 Message (mine 0) ∷ []; unmet = Orphan ∷ NullOrDead ∷ NullOrDead ∷ [] }
    ∷ []

-- a method that owns a message, and has a word
abbrev pub replying : Case
replying = record (fails (Reply 0 1) []) { words = None ∷ seven ∷ []; cells = a_cell 1 Message (mine 0) ∷ [] }

abbrev pub replying_cases : List Case
replying_cases =
    replying
    ∷ fails (Reply 0 1) (NullOrDead ∷ WrongKind ∷ [])
    ∷ record replying { words = seven ∷ seven ∷ []; unmet = WrongKind ∷ [] }
    ∷ record replying { cells = []; unmet = NullOrDead ∷ [] }
    ∷ record replying { cells = a_cell 1 leaf (mine 0) ∷ []; unmet = WrongKind ∷ [] }
    ∷ record replying { words = []; unmet = WrongKind ∷ [] }
    ∷ []

-- ---- the dispatch

-- under the trap of that stage
abbrev pub under : Stage → List Task
under stage = Trapped ∷ Dispatched (Of_server owned_object 0 stage) ∷ []

-- `accept` gives a session, and `service` nothing
abbrev pub accepting : Case
accepting = record (fails (Return 0) []) { below = under Accepts; gives = An_own leaf; cells = a_cell 3 leaf (mine 0) ∷ a_server unserved ∷ [] }

abbrev pub serving : Case
serving = record (fails (Return 0) []) { below = under (Serves its_session); role = Attends }

-- the session has a free place, and the message is taken
abbrev pub returning_cases : List Case
returning_cases =
    accepting
    ∷ record accepting { cells = a_cell 3 leaf (mine 0) ∷ a_session ∷ []; unmet = Orphan ∷ [] }
    ∷ serving
    ∷ record serving { cells = a_message ∷ []; unmet = MessageLost ∷ [] }
    ∷ []

abbrev pub ends_at : Stage → List Cell → State
ends_at stage cells = state_of (Dispatched (Of_server owned_object 0 stage) ∷ []) cells []

-- a service that was left has its message to complete, and no other end needs anything
abbrev pub ending_cases : List Turning
ending_cases =
    at [] (ends_at Accepted [])
    ∷ at [] (ends_at (Accept_left (pos 7)) [])
    ∷ at [] (ends_at Disconnects [])
    ∷ at [] (ends_at (Service_left (pos 7)) (a_message ∷ []))
    ∷ at (CompletedTwice ∷ []) (ends_at (Service_left (pos 7)) [])
    ∷ []

-- ---- a server goes

-- its sessions go first, right over its own going
abbrev pub closing_cases : List Turning
closing_cases =
    at [] (state_of (Closing ∷ Destroy ∷ at_bottom) (record (a_server (record unserved { sessions = 0 ∷ [] })) { owner = Going 2 } ∷ a_session ∷ []) (A_mark ∷ []))
    ∷ at [] (state_of (Closing ∷ Destroy ∷ at_bottom) (record (a_server unserved) { owner = Going 2 } ∷ []) (A_mark ∷ []))
    ∷ at (NullOrDead ∷ []) (state_of (Closing ∷ Destroy ∷ at_bottom) (a_server unserved ∷ []) (A_mark ∷ []))
    ∷ at (Unbalanced ∷ []) (state_of (Closing ∷ at_bottom) (a_server unserved ∷ []) (A_mark ∷ []))
    ∷ []

-- ---- a turn

-- enlisted, and idle
abbrev pub listed : Cell → Cell
listed c = record c { request = Some (record { order = 0; priority = pos 0; phase = Idle; status = pos 0; timer = None; token = None }) }

-- a server that is enlisted signals while something waits in its queue
abbrev pub signal_cases : List Turn_case
signal_cases =
    comes_to Waits (listed (a_server unserved) ∷ [])
    ∷ comes_to Waits (a_server (asked (Connect_of 0 ∷ [])) ∷ [])
    ∷ comes_to (Picks owned_object) (listed (a_server (asked (Connect_of 0 ∷ []))) ∷ [])
    ∷ comes_to (Picks owned_object) (listed (a_server (asked (Message_of 0 1 ∷ []))) ∷ [])
    ∷ comes_to (Picks owned_object) (listed (a_server (asked (Close_of 0 ∷ []))) ∷ [])
    ∷ []

-- it has one signal, however many wait there
abbrev pub count_cases : List Count_case
count_cases =
    count 0 0 (listed (a_server unserved) ∷ [])
    ∷ count 0 0 (a_server (asked (Connect_of 0 ∷ [])) ∷ [])
    ∷ count 1 1 (listed (a_server (asked (Connect_of 0 ∷ Message_of 1 2 ∷ Close_of 3 ∷ []))) ∷ [])
    ∷ []

-- a server with that queue is picked, beside these cells; its image has no method that accepts or serves
abbrev pub picked_with : List Asked → List Cell → State
picked_with queue cells = state_of [] (listed (a_server (asked queue)) ∷ cells) []

abbrev pub picks : Turning → Bool
picks c = is_stuck_by c.kinds (turned an_image c.state (Picks owned_object))

abbrev pub AllPick : List Turning → Type 0
AllPick cases = missed 0 (map picks cases) ≡ []

-- something waits, and what serves it is there
abbrev pub pick_cases : List Turning
pick_cases =
    at (Stray ∷ []) (picked_with [] [])
    ∷ at (WrongKind ∷ []) (picked_with (Connect_of 0 ∷ []) [])
    ∷ at (NullOrDead ∷ []) (picked_with (Message_of 0 1 ∷ []) [])
    ∷ at (WrongKind ∷ []) (picked_with (Message_of 0 1 ∷ []) (a_session ∷ []))
    ∷ at (NullOrDead ∷ []) (picked_with (Close_of 0 ∷ []) [])
    ∷ at [] (picked_with (Close_of 0 ∷ []) (a_session ∷ []))
    ∷ []

-- each need of what servers add can fail
pub record ServerNeedsFail : Type 0 where
  pub taking : AllComeOut taking_cases
  pub replying : AllComeOut replying_cases
  pub returning : AllComeOut returning_cases
  pub ending : AllTurn ending_cases
  pub closing : AllTurn closing_cases
  pub signals : AllCome signal_cases
  pub counts : AllCount count_cases
  pub picking : AllPick pick_cases
