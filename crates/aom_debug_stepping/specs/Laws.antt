-- What a debugger's moves are to a run.
use Rattle.std.specs.Prelude.{ℕ, List}
use Rattle.aom_debug_protocol.specs.declared.spot.CodeLocation.{CodeLocation}
use Rattle.aom_image.specs.Image.{Image}
use Rattle.aom_semantics.specs.State.{State}
use Rattle.aom_semantics.specs.World.{Environment, Reaches}
use Rattle.aom_transcript.specs.declared.line.Line.{Line}
use Rattle.aom_run.specs.Runs.{Moving}
use Rattle.aom_debug_stepping.specs.Moves.{Arrives, DebugSteps}

-- a step of a debugger is moves, with the same lines
abbrev pub DebugStepsMove : Type 0
DebugStepsMove = (p : Image) (refused : List ℕ) (old new : List CodeLocation) (s : State) (lines : List Line) (u : State) → DebugSteps p refused old new s lines u → Moving p refused s lines u

-- turns until something is at hand are a run, with the same lines
abbrev pub ArrivesRun : Type 0
ArrivesRun = (p : Image) (outside : Environment) (s : State) (lines : List Line) (u : State) → Arrives p outside s lines u → Reaches p outside s lines u
