-- Further runs with servers and clients, line by line.
use Rattle.std.specs.Prelude.{pos, negsuc, List, [], ◌∷◌}
use Rattle.aom_transcript.specs.declared.line.Ending.TheVariants.{Stopped, Waiting}
use Rattle.aom_transcript.specs.declared.event.ClientCommand.TheVariants.{Connect, Send, Close, Die}
use Rattle.aom_transcript.specs.declared.line.Asked.TheVariants.{Connect as A_connect, Message as A_message, Close as A_close}
use Rattle.aom_transcript.specs.declared.event.TimedEvent.{TimedEvent}
use Rattle.aom_transcript.specs.declared.line.Line.TheVariants.{Out, Leave, Gone, Run as Run_line, Serve, Reply as Reply_line, Refuse}
use Rattle.aom_semantics.specs.Cases.Programs.{stopping, declining, stops_accepting, small, narrow, owning, two_servers}
use Rattle.aom_semantics.specs.Cases.Running.{RunsTo, at}
use Rattle.aom_semantics.specs.Cases.Served.{client_dies, client_lives, clients_refused, leaves_after_taking, returns_untaken, returns_with_message, service_leaves, service_stops, session_closed, slot_refused, words}

-- a server goes: its sessions in order of connection, then what waits in order, a close untold, and then the server
abbrev pub going_events : List TimedEvent
going_events =
    at 1 2 (Connect 1 2) ∷ at 1 0 (Connect 1 2) ∷ at 1 1 (Connect 1 2)
    ∷ at 5 0 (Send (words (pos 1))) ∷ at 5 1 (Send (words (pos 2))) ∷ at 5 3 (Connect 1 2) ∷ at 5 2 Close ∷ at 5 0 (Send (words (pos 3))) ∷ []

abbrev pub server_goes : Type 0
server_goes =
    RunsTo 300 stopping going_events Stopped 0 (
    Serve 1 1 A_connect 2 ∷ Reply_line 2 (pos 0)
    ∷ Serve 2 1 A_connect 0 ∷ Reply_line 0 (pos 0)
    ∷ Serve 3 1 A_connect 1 ∷ Reply_line 1 (pos 0)
    ∷ Serve 5 1 A_message 0 ∷ Reply_line 0 (pos 1) ∷ Gone 0 ∷ Gone 0
    ∷ Gone 0 ∷ Reply_line 1 (negsuc 14) ∷ Reply_line 3 (negsuc 14)
    ∷ Reply_line 0 (negsuc 14) ∷ Gone 1
    ∷ [])

abbrev pub declining_events : List TimedEvent
declining_events = at 1 0 (Connect 1 2) ∷ at 2 0 (Send (words (pos 1))) ∷ at 2 0 (Connect 1 2) ∷ []

-- a connect is left with 0: there is no session
abbrev pub accept_leaves : Type 0
accept_leaves =
    RunsTo 200 declining declining_events Waiting 1 (
    Serve 1 1 A_connect 0 ∷ Leave (pos 0) ∷ Reply_line 0 (pos 0)
    ∷ Refuse 0 (negsuc 0)
    ∷ Serve 2 1 A_connect 0 ∷ Leave (pos 0) ∷ Reply_line 0 (pos 0)
    ∷ [])

-- `accept` stops the run, and its client is told all the same
abbrev pub accept_stops : Type 0
accept_stops =
    RunsTo 200 stops_accepting (at 1 0 (Connect 1 2) ∷ []) Stopped 0 (
    Serve 1 1 A_connect 0 ∷ Reply_line 0 (pos 0) ∷ Gone 0 ∷ Gone 1
    ∷ [])

abbrev pub small_events : List TimedEvent
small_events = at 1 0 (Connect 1 2) ∷ at 1 1 (Connect 1 2) ∷ at 5 0 (Send (words (pos 1))) ∷ at 5 0 (Send (words (pos 2))) ∷ at 7 0 (Send (words (pos 3))) ∷ []

-- messages are no cells, and there are as many as the image says
abbrev pub no_place : Type 0
no_place =
    RunsTo 200 small small_events Waiting 2 (
    Serve 1 1 A_connect 0 ∷ Reply_line 0 (pos 0)
    ∷ Serve 2 1 A_connect 1 ∷ Leave (negsuc 3) ∷ Reply_line 1 (negsuc 3)
    ∷ Refuse 0 (negsuc 15)
    ∷ Serve 5 1 A_message 0 ∷ Reply_line 0 (pos 1)
    ∷ Serve 7 1 A_message 0 ∷ Reply_line 0 (pos 3)
    ∷ [])

abbrev pub narrow_events : List TimedEvent
narrow_events =
    at 1 0 (Connect 1 2) ∷ at 1 1 (Connect 1 2) ∷ at 1 0 Close ∷ at 1 1 (Connect 1 2) ∷ at 1 0 (Connect 1 2)
    ∷ at 3 1 (Send (words (pos 1))) ∷ at 3 1 Die ∷ at 3 0 (Connect 1 1) ∷ at 5 0 (Connect 1 1) ∷ at 7 0 (Send (words (pos 7))) ∷ []

-- a connect that waits is taken back by a close; a server takes so many sessions and connects at most
abbrev pub taken_back : Type 0
taken_back =
    RunsTo 200 narrow narrow_events Waiting 2 (
    Refuse 1 (negsuc 15) ∷ Refuse 0 (negsuc 15)
    ∷ Serve 1 1 A_connect 1 ∷ Reply_line 1 (pos 0) ∷ Refuse 0 (negsuc 15)
    ∷ Serve 3 1 A_close 1 ∷ Gone 0
    ∷ Serve 5 1 A_connect 0 ∷ Reply_line 0 (pos 0)
    ∷ Serve 7 1 A_message 0 ∷ Reply_line 0 (pos 7)
    ∷ [])

-- ---- an object that owns a server deletes it

abbrev pub owning_events : List TimedEvent
owning_events =
    at 2 0 (Connect 1 2) ∷ at 4 0 (Send (words (pos 4)))
    ∷ at 10 0 (Send (words (pos 5))) ∷ at 10 1 (Connect 1 1)
    ∷ at 11 0 (Send (words (pos 6))) ∷ at 11 0 (Connect 1 1) ∷ at 11 0 (Send (words (pos 6))) ∷ at 11 0 Close ∷ at 11 0 (Send (words (pos 7))) ∷ at 11 1 (Send (words (pos 8)))
    ∷ []

-- the object of a higher priority comes first; once the server is gone its client is told so until it closes
abbrev pub server_deleted : Type 0
server_deleted =
    RunsTo 300 owning owning_events Waiting 1 (
    Serve 2 1 A_connect 0 ∷ Reply_line 0 (pos 0)
    ∷ Serve 4 1 A_message 0 ∷ Reply_line 0 (pos 4)
    ∷ Run_line 10 2 (pos 0) ∷ Gone 0 ∷ Reply_line 0 (negsuc 14) ∷ Reply_line 1 (negsuc 14)
    ∷ Gone 1 ∷ Refuse 0 (negsuc 14) ∷ Refuse 0 (negsuc 0) ∷ Refuse 0 (negsuc 14)
    ∷ Refuse 0 (negsuc 0) ∷ Refuse 1 (negsuc 0)
    ∷ [])

-- ---- two servers of a class, each with a word of its own that its `accept` prints

-- the one that was enlisted first alone is asked
abbrev pub first_alone : Type 0
first_alone =
    RunsTo 200 two_servers (at 1 0 (Connect 1 1) ∷ at 2 1 (Connect 1 1) ∷ []) Waiting 4 (
    Serve 1 1 A_connect 0 ∷ Out (pos 5) ∷ Reply_line 0 (pos 0) ∷ Refuse 1 (negsuc 15)
    ∷ [])

-- each of these runs comes out so
pub record ServersRun : Type 0 where
  pub leaves : service_leaves
  pub slots : slot_refused
  pub refused : clients_refused
  pub closes : session_closed
  pub stops : service_stops
  pub dies : client_dies
  pub lives : client_lives
  pub completed : leaves_after_taking
  pub untaken : returns_untaken
  pub lost : returns_with_message
  pub goes : server_goes
  pub declined : accept_leaves
  pub accepted : accept_stops
  pub places : no_place
  pub withdrawn : taken_back
  pub deleted : server_deleted
  pub first : first_alone
