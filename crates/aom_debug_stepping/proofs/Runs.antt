-- Each course is a run: its turns are, and its steps.
use Rattle.std.proofs.Common.{◌⊎◌, ◌++◌, ℕ, suc, Bool, true, false, List, [], inl, inr, sym, subst, append-nil, ap, ◌∙◌}
use Rattle.aom_image.specs.Image.{Image}
use Rattle.aom_semantics.specs.State.{State}
use Rattle.aom_semantics.specs.World.{Environment, Reaches, begins as from_here}
use Rattle.aom_machine_state.specs.declared.progress.Progress.{Progress}
use Rattle.aom_machine_state.specs.declared.progress.Progress.TheVariants.{Ended, Running, Turned}
use Rattle.aom_machine_state.specs.Progress.{progress_of}
use Rattle.aom_debug_symbols.specs.NameLists.{NameLists}
use Rattle.aom_transcript.specs.declared.line.Line.{Line}
use Rattle.aom_machine.specs.Steps.{HasTask}
use Rattle.aom_run.specs.Runs.{Moving, begins as stays_there}
use Rattle.aom_debug_stepping.proofs.RunLemmas.{reaches_both}
use Rattle.aom_debug_stepping.specs.Next.{root_is_due}
use Rattle.aom_typing_rules.specs.Typing.{Typing}
use Rattle.aom_debug_protocol.specs.declared.breakpoints.Breakpoint.{Breakpoint as BreakpointRecord}
use Rattle.aom_debug_protocol.specs.declared.spot.CodeLocation.{CodeLocation}
use Rattle.aom_debug_stepping.proofs.Sending.{reaches_arrived}
use Rattle.aom_debug_stepping.specs.RunGoals.{RunGoals, GoesBy, GoesLine, GoesOn, GoesOver, InDispatch, IsOver, LinesGo, Rests, TurnsOver, WalksOn, WalksOver, WalksThere, run_goal_of, stays_at}
use Rattle.aom_debug_stepping.specs.RunGoals.{change_by, dispatch_goal_of, line_goal, way_of}
use Rattle.aom_debug_stepping.specs.RunGoals.LinesGo.{begins as no_lines, goes_line}
use Rattle.aom_debug_stepping.specs.SourceLines.{scope_at}
use Rattle.aom_debug_stepping.specs.Stops.{is_local}
use Rattle.aom_debug_stepping.specs.declared.watching.Watched.{Watched}
use Rattle.aom_debug_stepping.specs.declared.run_goals.RunGoal.{RunGoal}
use Rattle.aom_debug_stepping.specs.declared.run_goals.RunGoal.TheVariants as course
use Rattle.aom_debug_stepping.specs.Over.{depth_of}
use Rattle.aom_debug_stepping.specs.declared.over.Awaited.{Awaited}
use Rattle.aom_debug_stepping.specs.declared.walking.Until.{Until}
use Rattle.aom_debug_stepping.specs.declared.walking.Until.TheVariants.{Breakpoint, Change, Depth, Line as AtLine, Place}
use Rattle.aom_debug_stepping.proofs.Going.{reaches_goes, run_of}
use Rattle.aom_debug_stepping.proofs.Passing.{reaches_passed}
use Rattle.aom_debug_stepping.proofs.Limits.{reaches_to_limit}
use Rattle.aom_debug_stepping.proofs.DebugSteps.{moving_walk}

pub reaches_by : (p : Image) (outside : Environment) (steps : ℕ) (old new : List CodeLocation) (s : State) (lines : List Line) (u : State) →
    GoesBy p outside steps old new s lines u → Reaches p outside s lines u
reaches_by p outside steps old new s lines u (inl x) = reaches_goes p outside old s steps new lines u x
reaches_by p outside steps old new s lines u (inr y) =
    let z = y.2 in
    subst (λ ls. Reaches p outside s ls u) (sym z.5)
    (reaches_both p outside s z.1 z.0 z.2 u (reaches_goes p outside old s y.0 new z.1 z.0 z.3) (reaches_arrived p outside z.0 z.2 u z.4))

-- turns, and then moves in a dispatch
reaches_in : (p : Image) (outside : Environment) (leads : RunGoals) →
    ((old new : List CodeLocation) (s : State) (lines : List Line) (u : State) → leads old new s lines u → Moving p outside.refused s lines u) →
    (old new : List CodeLocation) (s : State) (lines : List Line) (u : State) → InDispatch p outside leads old new s lines u → Reaches p outside s lines u
reaches_in p outside leads moves old new s lines u x = subst (λ ls. Reaches p outside s ls u) (sym x.5) (go x.4)
  where
    go : (IsOver x.0 × Rests old new x.0 x.2 u) ⊎ (HasTask x.0 × leads old new x.0 x.2 u) → Reaches p outside s (x.1 ++ x.2) u
    go (inl y) =
        let same = ap (λ l. x.1 ++ l) y.1.0 ∙ append-nil x.1 in
        subst (λ ls. Reaches p outside s ls u) (sym same) (subst (λ v. Reaches p outside s x.1 v) (sym y.1.1) (reaches_arrived p outside s x.1 x.0 x.3))
    go (inr y) = reaches_both p outside s x.1 x.0 x.2 u (reaches_arrived p outside s x.1 x.0 x.3) (run_of p outside x.0 x.2 u (moves old new x.0 x.2 u y.1))

-- steps to a place to stay are moves
moving_there : (p : Image) (refused : List ℕ) (stays : State → Bool) (old new : List CodeLocation) (s : State) (lines : List Line) (u : State) →
    WalksThere p refused stays old new s lines u → Moving p refused s lines u
moving_there p refused stays old new s lines u x = moving_walk p refused stays old s (suc x.0) new lines u x.1

pub reaches_over : (p : Image) (outside : Environment) (old new : List CodeLocation) (s : State) (lines : List Line) (u : State) →
    TurnsOver p outside old new s lines u → Reaches p outside s lines u
reaches_over p outside = reaches_in p outside (WalksThere p outside.refused (λ s. root_is_due p s)) (moving_there p outside.refused (λ s. root_is_due p s))

pub reaches_step_over : (p : Image) (outside : Environment) (scope : Awaited) (bs : List BreakpointRecord)
    (old new : List CodeLocation) (s : State) (lines : List Line) (u : State) → GoesOver p outside scope bs old new s lines u → Reaches p outside s lines u
reaches_step_over p outside scope bs old new s lines u x = reaches_in p outside (WalksOver x.0 p outside.refused scope bs)
    (λ old new s. moving_there p outside.refused (λ v. stays_at x.0 p (Depth (depth_of scope s.tasks)) bs v) old new s) old new s lines u x.2

pub reaches_on : (p : Image) (outside : Environment) (stays : State → Bool) (old new : List CodeLocation) (s : State) (lines : List Line) (u : State) →
    GoesOn p outside stays old new s lines u → Reaches p outside s lines u
reaches_on p outside stays old new s lines u x =
    let z = x.1 in
    subst (λ ls. Reaches p outside s ls u) (sym z.5)
    (reaches_both p outside s z.1 z.0 z.2 u (reaches_passed p outside stays old s x.0 new z.1 z.0 z.3) (reaches_arrived p outside z.0 z.2 u z.4))

-- until what is watched has changed
reaches_change : (local : Bool) (t : Typing) (p : Image) (outside : Environment) (w : Watched) (bs : List BreakpointRecord)
    (old new : List CodeLocation) (s : State) (lines : List Line) (u : State) → change_by local t p outside w bs old new s lines u → Reaches p outside s lines u
reaches_change true t p outside w bs = reaches_in p outside (WalksThere p outside.refused (λ s. stays_at t p (Change w) bs s))
    (moving_there p outside.refused (λ s. stays_at t p (Change w) bs s))
reaches_change false t p outside w bs = reaches_on p outside (λ s. stays_at t p (Change w) bs s)

-- ---- lines of a source

moving_on : (p : Image) (refused : List ℕ) (stays : State → Bool) (old new : List CodeLocation) (s : State) (lines : List Line) (u : State) →
    WalksOn p refused stays old new s lines u → Moving p refused s lines u
moving_on p refused stays old new s lines u (inl x) =
    let none = x.1 in
    subst (λ ls. Moving p refused s ls u) (sym none.0) (subst (λ v. Moving p refused s [] v) (sym none.1) stays_there)
moving_on p refused stays old new s lines u (inr x) = moving_there p refused stays old new s lines u x.1

moving_line : (t : Typing) (p : Image) (refused : List ℕ) (bs : List BreakpointRecord) (far : Progress) (until : Until) (old new : List CodeLocation) (s : State) (lines : List Line) (u : State) →
    dispatch_goal_of t p refused bs (line_goal far until) old new s lines u → Moving p refused s lines u
moving_line t p refused bs Running until old new s lines u x = moving_there p refused (λ v. stays_at t p until bs v) old new s lines u x
moving_line t p refused bs Turned until old new s lines u x = moving_on p refused (λ v. stays_at t p until bs v) old new s lines u x
moving_line t p refused bs (Ended ending) until old new s lines u x = moving_on p refused (λ v. stays_at t p until bs v) old new s lines u x

module _ (t : Typing) (p : Image) (outside : Environment) (ns : NameLists) (enters : Bool) (bs : List BreakpointRecord) where
  reaches_line : (old new : List CodeLocation) (s : State) (lines : List Line) (u : State) → GoesLine t p outside ns enters bs old new s lines u → Reaches p outside s lines u
  reaches_line old new s lines u x =
      let until = AtLine (scope_at p ns enters s) in
      reaches_in p outside (dispatch_goal_of t p outside.refused bs (line_goal (progress_of s) until)) (moving_line t p outside.refused bs (progress_of s) until) old new s lines u x

  pub reaches_lines : (old : List CodeLocation) (s : State) (n : ℕ) (new : List CodeLocation) (lines : List Line) (u : State) →
      LinesGo t p outside ns enters bs old s n new lines u → Reaches p outside s lines u
  reaches_lines old s _ _ _ _ no_lines = from_here
  reaches_lines old s _ _ _ _ (goes_line {n} {mid} {new} {lines} {more} {v} {u} before once) =
      reaches_both p outside s lines v more u (reaches_lines old s n mid lines v before) (reaches_line mid new v more u once)

-- with the run's end by its limit it is a run too
reaches_way : (p : Image) (outside : Environment) (bs : List BreakpointRecord) (way : RunGoal) (old new : List CodeLocation) (s : State) (lines : List Line) (u : State) →
    way_of p outside bs way old new s lines u → Reaches p outside s lines u
reaches_way p outside bs (course.Steps n) old new s lines u x = reaches_by p outside n old new s lines u x
reaches_way p outside bs course.EndOfDispatch old new s lines u x = reaches_over p outside old new s lines u x
reaches_way p outside bs course.Breakpoint old new s lines u x = reaches_on p outside (λ v. stays_at x.0 p Breakpoint bs v) old new s lines u x.2
reaches_way p outside bs (course.Over scope) old new s lines u x = reaches_step_over p outside scope bs old new s lines u x
reaches_way p outside bs (course.Place spot) old new s lines u x = reaches_on p outside (λ v. stays_at x.0 p (Place spot) bs v) old new s lines u x.2
reaches_way p outside bs (course.Change w) old new s lines u x = reaches_change (is_local w.variable) x.0 p outside w bs old new s lines u x.2
reaches_way p outside bs (course.Lines l) old new s lines u x = reaches_lines x.0 p outside l.names l.enters bs old s l.count new lines u x.2

pub reaches_course : (p : Image) (outside : Environment) (bs : List BreakpointRecord) (way : RunGoal) (old new : List CodeLocation) (s : State) (lines : List Line) (u : State) →
    run_goal_of p outside bs way old new s lines u → Reaches p outside s lines u
reaches_course p outside bs way = reaches_to_limit p outside (way_of p outside bs way) (reaches_way p outside bs way)
