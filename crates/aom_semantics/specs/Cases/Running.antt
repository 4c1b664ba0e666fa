-- Runs that are computed: the names that are free first are taken, and natives answer 0 and complete nothing.
use Rattle.std.specs.Prelude.{ℕ, zero, suc, pos, ◌≡◌, List, [], ◌∷◌, ◌++◌, Option, Some, None}
use Rattle.aom_image.specs.Image.{Image}
use Rattle.aom_semantics.specs.Moves.{is_refused, step, written}
use Rattle.aom_semantics.specs.Places.{Cell, Object, count_cells, named}
use Rattle.aom_semantics.specs.State.{Task, State, Choice, Outcome, Goes, IsStuck, Stuck}
use Rattle.aom_semantics.specs.World.{Observed, Environment, boot_state, refusing, turn, written_turn}
use Rattle.aom_transcript.specs.declared.event.ClientCommand.{ClientCommand}
use Rattle.aom_transcript.specs.declared.event.Event.TheVariants.{Client}
use Rattle.aom_transcript.specs.declared.event.TimedEvent.{TimedEvent}
use Rattle.aom_transcript.specs.declared.line.Ending.{Ending}
use Rattle.aom_transcript.specs.declared.line.Line.{Line}
use Rattle.aom_transcript.specs.declared.line.Line.TheVariants.{Main}

abbrev pub unless_used : Option Object → ℕ → ℕ → ℕ
unless_used None name other = name
unless_used (Some o) name other = other

-- the first free name, of so many from that one on
abbrev pub free_from : (many name : ℕ) → List Cell → ℕ
free_from zero name cs = name
free_from (suc k) name cs = unless_used (named cs name) name (free_from k (suc name) cs)

abbrev pub choice_in : Image → Environment → State → Choice
choice_in p outside s = record { name = free_from 16 0 s.cells; refused = is_refused p outside.refused s; answer = pos 0 }

abbrev pub observed_in : State → Observed
observed_in s = record { completion = None; name = free_from 16 0 s.cells }

-- one move, or a turn where nothing is at hand
abbrev pub next_state : Image → Environment → State → List Task → Outcome
next_state p outside s [] = turn p outside (observed_in s) s
next_state p outside s (t ∷ ts) = step p (choice_in p outside s) s

abbrev pub next_lines : Image → Environment → State → List Task → List Line
next_lines p outside s [] = written_turn p outside s
next_lines p outside s (t ∷ ts) = written p s

-- what is written, how the run has ended, and how many cells are left
pub data Reported : Type 0 where
  Ends : List Line → Ending → (cells : ℕ) → Reported
  Sticks : List Line → Stuck → Reported
  Unended : List Line → State → Reported

abbrev pub going_on : (State → List Line → Reported) → Outcome → List Line → Reported
going_on on (Goes u) lines = on u lines
going_on on (IsStuck kind) lines = Sticks lines kind

abbrev pub ended_or : Option Ending → State → List Line → Reported → Reported
ended_or (Some e) s lines after = Ends lines e (count_cells s.cells)
ended_or None s lines after = after

-- so many moves from a state, with the lines so far
abbrev pub ran : ℕ → Image → Environment → State → List Line → Reported
ran zero p outside s lines = Unended lines s
ran (suc k) p outside s lines =
    ended_or s.rest.ended s lines
    (going_on (λ u ls. ran k p outside u ls) (next_state p outside s s.tasks) (lines ++ next_lines p outside s s.tasks))

-- a client's command at that time
abbrev pub at : ℕ → ℕ → ClientCommand → TimedEvent
at time client command = record { time = time; event = Client client command }

abbrev pub observing : List TimedEvent → Environment
observing events = record (refusing [] 1000) { events = events }

abbrev pub run_of : ℕ → Image → List TimedEvent → Reported
run_of moves p events = ran moves p (observing events) (boot_state p) []

-- a run of so many moves at most ends so, with so many cells left, and has written these lines after main's
abbrev pub RunsTo : ℕ → Image → List TimedEvent → Ending → (cells : ℕ) → List Line → Type 0
RunsTo moves p events ending cells lines = run_of moves p events ≡ Ends (Main 0 ∷ lines) ending cells
