-- Runs with servers and clients, line by line.
use Rattle.std.specs.Prelude.{ℤ, pos, negsuc, ◌≡◌, List, [], ◌∷◌}
use Rattle.aom_transcript.specs.declared.line.Ending.TheVariants.{Stopped, Waiting}
use Rattle.aom_semantics.specs.State.{CompletedTwice, MessageLost, Orphan}
use Rattle.aom_transcript.specs.declared.event.ClientCommand.TheVariants.{Connect, Send, Close, Die}
use Rattle.aom_transcript.specs.declared.line.Asked.TheVariants.{Connect as A_connect, Message as A_message, Close as A_close}
use Rattle.aom_transcript.specs.declared.line.Line.TheVariants.{Main, Leave, Gone, Run as Run_line, Serve, Reply as Reply_line, Discard, Refuse}
use Rattle.aom_semantics.specs.Cases.Programs.{leaving_echo, stopping_echo, late_echo, idle_echo, losing_echo, holding}
use Rattle.aom_semantics.specs.Cases.Running.{RunsTo, Sticks, at, run_of}

-- ---- a server whose sessions answer at once

abbrev pub words : ℤ → List ℤ
words f = f ∷ pos 0 ∷ pos 0 ∷ pos 0 ∷ pos 0 ∷ []

-- a service that leaves completes its message with the code, and one that returns has replied
abbrev pub service_leaves : Type 0
service_leaves =
    RunsTo 200 leaving_echo (at 1 0 (Connect 1 2) ∷ at 2 0 (Send (words (negsuc 6))) ∷ at 3 0 (Send (words (pos 3))) ∷ []) Waiting 2 (
    Serve 1 1 A_connect 0 ∷ Reply_line 0 (pos 0)
    ∷ Serve 2 1 A_message 0 ∷ Leave (negsuc 6) ∷ Reply_line 0 (negsuc 6)
    ∷ Serve 3 1 A_message 0 ∷ Reply_line 0 (pos 3)
    ∷ [])

-- a client with one slot has its second message refused while the first waits
abbrev pub slot_refused : Type 0
slot_refused =
    RunsTo 200 leaving_echo (at 1 0 (Connect 1 1) ∷ at 2 0 (Send (words (pos 1))) ∷ at 2 0 (Send (words (pos 2))) ∷ at 3 0 (Send (words (pos 4))) ∷ []) Waiting 2 (
    Serve 1 1 A_connect 0 ∷ Reply_line 0 (pos 0) ∷ Refuse 0 (negsuc 15)
    ∷ Serve 2 1 A_message 0 ∷ Reply_line 0 (pos 1)
    ∷ Serve 3 1 A_message 0 ∷ Reply_line 0 (pos 4)
    ∷ [])

-- no server of that class, no session, and a client that is dead; a number that is no client's is told nothing
abbrev pub clients_refused : Type 0
clients_refused =
    RunsTo 200 leaving_echo (at 1 0 (Connect 0 1) ∷ at 1 1 (Send (words (pos 5))) ∷ at 1 64 (Connect 0 1) ∷ at 1 0 Die ∷ at 1 0 (Connect 1 1) ∷ []) Waiting 1 (
    Refuse 0 (negsuc 0) ∷ Refuse 1 (negsuc 0) ∷ Refuse 0 (negsuc 12)
    ∷ [])

-- a session that is closed goes, and the client connects anew
abbrev pub session_closed : Type 0
session_closed =
    RunsTo 200 leaving_echo (at 1 0 (Connect 1 2) ∷ at 2 0 Close ∷ at 3 0 (Connect 1 2) ∷ []) Waiting 2 (
    Serve 1 1 A_connect 0 ∷ Reply_line 0 (pos 0)
    ∷ Serve 2 1 A_close 0 ∷ Gone 0
    ∷ Serve 3 1 A_connect 0 ∷ Reply_line 0 (pos 0)
    ∷ [])

-- a service stops the run: the session goes, then what waits is completed, and then the server goes
abbrev pub service_stops : Type 0
service_stops =
    RunsTo 200 stopping_echo (at 1 0 (Connect 1 2) ∷ at 2 0 (Send (words (pos 1))) ∷ at 2 0 (Send (words (pos 2))) ∷ []) Stopped 0 (
    Serve 1 1 A_connect 0 ∷ Reply_line 0 (pos 0)
    ∷ Serve 2 1 A_message 0 ∷ Reply_line 0 (pos 1) ∷ Gone 0 ∷ Reply_line 0 (negsuc 14)
    ∷ Gone 1
    ∷ [])

-- ---- a server whose sessions hold a message for a time

-- a client dies whose message is held: what waits leaves the queue, and what is held is discarded
abbrev pub client_dies : Type 0
client_dies =
    RunsTo 200 holding (at 1 0 (Connect 2 2) ∷ at 2 0 (Send (words (pos 1))) ∷ at 3 0 (Send (words (pos 2))) ∷ at 3 0 Die ∷ []) Waiting 1 (
    Serve 1 2 A_connect 0 ∷ Reply_line 0 (pos 0)
    ∷ Serve 2 2 A_message 0
    ∷ Serve 3 2 A_close 0 ∷ Discard 0 (negsuc 14) ∷ Gone 0 ∷ Gone 1
    ∷ [])

-- one that lives is told
abbrev pub client_lives : Type 0
client_lives =
    RunsTo 200 holding (at 1 0 (Connect 2 2) ∷ at 2 0 (Send (words (pos 1))) ∷ []) Waiting 3 (
    Serve 1 2 A_connect 0 ∷ Reply_line 0 (pos 0)
    ∷ Serve 2 2 A_message 0
    ∷ Run_line 102 0 (pos 0) ∷ Reply_line 0 (pos 0)
    ∷ [])

-- ---- what no accepted image does

-- a service that leaves once its message is taken
abbrev pub leaves_after_taking : Type 0
leaves_after_taking =
    run_of 200 late_echo (at 1 0 (Connect 1 2) ∷ at 2 0 (Send (words (negsuc 6))) ∷ [])
    ≡ Sticks (Main 0 ∷ Serve 1 1 A_connect 0 ∷ Reply_line 0 (pos 0) ∷ Serve 2 1 A_message 0 ∷ Reply_line 0 (negsuc 6) ∷ Leave (negsuc 6) ∷ []) CompletedTwice

-- one that returns and has not taken it
abbrev pub returns_untaken : Type 0
returns_untaken =
    run_of 200 idle_echo (at 1 0 (Connect 1 2) ∷ at 2 0 (Send (words (pos 1))) ∷ [])
    ≡ Sticks (Main 0 ∷ Serve 1 1 A_connect 0 ∷ Reply_line 0 (pos 0) ∷ Serve 2 1 A_message 0 ∷ []) MessageLost

-- one that takes it and loses it
abbrev pub returns_with_message : Type 0
returns_with_message =
    run_of 200 losing_echo (at 1 0 (Connect 1 2) ∷ at 2 0 (Send (words (pos 1))) ∷ [])
    ≡ Sticks (Main 0 ∷ Serve 1 1 A_connect 0 ∷ Reply_line 0 (pos 0) ∷ Serve 2 1 A_message 0 ∷ []) Orphan
