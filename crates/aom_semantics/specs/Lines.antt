-- What clients are told: how that is completed which they asked for, and why a command is refused.
use Rattle.std.specs.Prelude.{ℕ, ℤ, pos, cond, flat_map, List, [], ◌∷◌, Option, Some, None}
use Rattle.aom_clients.specs.Table.{code_of}
use Rattle.aom_clients.specs.declared.refusal.CommandRefusal.{CommandRefusal}
use Rattle.aom_clients.specs.declared.refusal.CommandRefusal.TheVariants.{ServerTerminated}
use Rattle.aom_image.specs.declared.method.Thing.{Thing}
use Rattle.aom_image.specs.declared.method.Thing.TheVariants.{Object as An_object_of}
use Rattle.aom_semantics.specs.Places.{Asked, Cell, Close_of, Connect_of, Elsewhere, In_service, Message_of, Object, Sender, held, service_of}
use Rattle.aom_semantics.specs.State.{Accept_left, Accepted, Accepts, Dispatch, Of_server, Disconnects, Service_left, Serves, Stage}
use Rattle.aom_transcript.specs.declared.line.Asked.TheVariants.{Close, Connect, Message}
use Rattle.aom_transcript.specs.declared.line.Line.{Line}
use Rattle.aom_transcript.specs.declared.line.Line.TheVariants.{Discard, Refuse, Reply, Serve}

-- a message is completed with that code: its client is told, unless it has closed or died since
abbrev pub reported_line : ℤ → Option Sender → List Line
reported_line code None = []
reported_line code (Some m) = cond m.is_reported (Reply m.client code) (Discard m.client code) ∷ []

abbrev pub message_line : List Cell → Option Object → ℤ → List Line
message_line cs None code = []
message_line cs (Some o) code = reported_line code (service_of cs o.name).sender

-- what waits as its server goes is completed with the code of that, and a close has no answer
abbrev pub ended_line : List Cell → Asked → List Line
ended_line cs (Connect_of c) = Reply c (code_of ServerTerminated) ∷ []
ended_line cs (Message_of c m) = reported_line (code_of ServerTerminated) (service_of cs m).sender
ended_line cs (Close_of c) = []

-- all of it, in order
abbrev pub queue_lines : List Cell → Option Object → List Line
queue_lines cs None = []
queue_lines cs (Some o) = flat_map (ended_line cs) (service_of cs o.name).queue

-- the end of a stage: a connect is completed, or the message of a service that was left
abbrev pub stage_lines : List Cell → ℕ → Stage → List Line
stage_lines cs c Accepts = []
stage_lines cs c Accepted = Reply c (pos 0) ∷ []
stage_lines cs c (Accept_left code) = Reply c code ∷ []
stage_lines cs c (Serves o) = []
stage_lines cs c (Service_left code) = message_line cs (held cs (Elsewhere In_service)) code
stage_lines cs c Disconnects = []

abbrev pub dispatch_lines : List Cell → Dispatch → List Line
dispatch_lines cs (Of_server x c stage) = stage_lines cs c stage
dispatch_lines cs _ = []

-- a command is refused
abbrev pub refusal_line : ℕ → Option CommandRefusal → List Line
refusal_line c None = []
refusal_line c (Some refusal) = Refuse c (code_of refusal) ∷ []

-- the dispatch of a server begins, for the first of its queue
abbrev pub serve_of : (time class : ℕ) → Asked → Line
serve_of time class (Connect_of c) = Serve time class Connect c
serve_of time class (Message_of c m) = Serve time class Message c
serve_of time class (Close_of c) = Serve time class Close c

abbrev pub serve_line : ℕ → Thing → List Asked → List Line
serve_line time (An_object_of class) (e ∷ es) = serve_of time class e ∷ []
serve_line time x _ = []
