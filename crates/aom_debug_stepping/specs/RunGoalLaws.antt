-- What a debugger's courses are to a run.
use Rattle.std.specs.Prelude.{ℕ, List, Bool}
use Rattle.aom_image.specs.Image.{Image}
use Rattle.aom_semantics.specs.State.{State}
use Rattle.aom_semantics.specs.World.{Environment, Reaches}
use Rattle.aom_transcript.specs.declared.line.Line.{Line}
use Rattle.aom_debug_protocol.specs.declared.breakpoints.Breakpoint.{Breakpoint}
use Rattle.aom_debug_protocol.specs.declared.spot.CodeLocation.{CodeLocation}
use Rattle.aom_debug_stepping.specs.RunGoals.{RunGoals, GoesBy, GoesOn, GoesOver, TurnsOver, run_goal_of}
use Rattle.aom_debug_stepping.specs.declared.run_goals.RunGoal.{RunGoal}
use Rattle.aom_debug_stepping.specs.declared.over.Awaited.{Awaited}

-- what leads so is a run, with the same lines
abbrev pub AreRuns : Image → Environment → RunGoals → Type 0
AreRuns p outside leads = (old new : List CodeLocation) (s : State) (lines : List Line) (u : State) → leads old new s lines u → Reaches p outside s lines u

abbrev pub StepsRun : Type 0
StepsRun = (p : Image) (outside : Environment) (steps : ℕ) → AreRuns p outside (GoesBy p outside steps)

abbrev pub TurnsRun : Type 0
TurnsRun = (p : Image) (outside : Environment) → AreRuns p outside (TurnsOver p outside)

abbrev pub GoingRuns : Type 0
GoingRuns = (p : Image) (outside : Environment) (stays : State → Bool) → AreRuns p outside (GoesOn p outside stays)

abbrev pub OverRuns : Type 0
OverRuns = (p : Image) (outside : Environment) (scope : Awaited) (bs : List Breakpoint) → AreRuns p outside (GoesOver p outside scope bs)

-- and so is each course, with which the run may end by its limit
abbrev pub RunGoalsRun : Type 0
RunGoalsRun = (p : Image) (outside : Environment) (bs : List Breakpoint) (way : RunGoal) → AreRuns p outside (run_goal_of p outside bs way)
