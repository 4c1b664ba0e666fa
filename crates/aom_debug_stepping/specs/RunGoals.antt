-- How far a debugger goes on, and what the latest instructions are before and after.
use Rattle.std.specs.Prelude.{◌≡◌, ◌≢◌, ◌⊎◌, ◌<◌, ℕ, suc, Bool, true, false, ◌||◌, nat_le, List, [], ◌++◌, length, Option, Some, None, is_some}
use Rattle.aom_image.specs.Image.{Image}
use Rattle.aom_semantics.specs.State.{State}
use Rattle.aom_semantics.specs.World.{Environment}
use Rattle.aom_transcript.specs.declared.line.Line.{Line}
use Rattle.aom_machine_state.specs.declared.progress.Progress.{Progress}
use Rattle.aom_machine_state.specs.declared.progress.Progress.TheVariants.{Running}
use Rattle.aom_machine_state.specs.Progress.{progress_of}
use Rattle.aom_machine.specs.Steps.{HasTask}
use Rattle.aom_typing_rules.specs.Typing.{Typing}
use Rattle.aom_static_bounds.specs.Strongest.{IsStrongest}
use Rattle.aom_debug_protocol.specs.Marks.{same_spot}
use Rattle.aom_debug_symbols.specs.NameLists.{NameLists}
use Rattle.aom_debug_protocol.specs.declared.breakpoints.Breakpoint.{Breakpoint as BreakpointRecord}
use Rattle.aom_debug_protocol.specs.declared.spot.CodeLocation.{CodeLocation}
use Rattle.aom_debug_stepping.specs.Next.{next_of, root_is_due, spot_of}
use Rattle.aom_debug_stepping.specs.Moves.{Arrives, EndsByLimit, DebugSteps, is_at_limit}
use Rattle.aom_debug_stepping.specs.Sends.{Leads, Then, Where}
use Rattle.aom_debug_stepping.specs.Over.{depth_of}
use Rattle.aom_debug_stepping.specs.declared.over.Awaited.{Awaited}
use Rattle.aom_debug_stepping.specs.declared.run_goals.RunGoal.{RunGoal}
use Rattle.aom_debug_stepping.specs.declared.run_goals.RunGoal.TheVariants as course
use Rattle.aom_debug_stepping.specs.declared.dispatch.DispatchGoal.{DispatchGoal}
use Rattle.aom_debug_stepping.specs.declared.dispatch.DispatchGoal.TheVariants as stretch
use Rattle.aom_debug_stepping.specs.declared.walking.Until.{Until}
use Rattle.aom_debug_stepping.specs.declared.walking.Until.TheVariants.{EndOfDispatch, Breakpoint, Change, Depth, Line as AtLine, Place}
use Rattle.aom_debug_stepping.specs.declared.watching.Watched.{Watched}
use Rattle.aom_debug_stepping.specs.SourceLines.{has_left, scope_at}
use Rattle.aom_debug_stepping.specs.declared.source_lines.LineSteps.{LineSteps}
use Rattle.aom_debug_stepping.specs.Stops.{has_changed, is_broken, is_local}

-- what leads from a state to another, as the latest instructions are these before and after
abbrev pub RunGoals : Type 1
RunGoals = List CodeLocation → List CodeLocation → Leads

-- ---- places to stay

-- that instruction is next
abbrev pub is_next : CodeLocation → Option CodeLocation → Bool
is_next spot None = false
is_next spot (Some next) = same_spot next spot

-- a place to stay, where something is at hand
abbrev pub stays_at : Typing → Image → Until → List BreakpointRecord → State → Bool
stays_at t p EndOfDispatch bs s = root_is_due p s
stays_at t p Breakpoint bs s = is_broken t s bs (spot_of (next_of p s))
stays_at t p (Depth n) bs s = nat_le (length s.tasks) n || is_broken t s bs (spot_of (next_of p s))
stays_at t p (Place spot) bs s = is_next spot (spot_of (next_of p s)) || is_broken t s bs (spot_of (next_of p s))
stays_at t p (Change w) bs s = has_changed t p w s || is_broken t s bs (spot_of (next_of p s))
stays_at t p (AtLine l) bs s = has_left l (length s.tasks) (spot_of (next_of p s)) || is_broken t s bs (spot_of (next_of p s))

-- by the strongest typing
abbrev pub ByTyping : Image → (Typing → RunGoals) → RunGoals
ByTyping p leads old new s lines u = (t : Typing) × IsStrongest p t × leads t old new s lines u

-- the run is over
abbrev pub IsOver : State → Type 0
IsOver s = is_some s.rest.ended ≡ true

-- nothing is at hand, or it is a place to stay
abbrev pub IsThere : (State → Bool) → State → Type 0
IsThere stays s = (progress_of s ≢ Running) ⊎ (stays s ≡ true)

-- nothing is done
abbrev pub Rests : RunGoals
Rests old new s lines u = (lines ≡ []) × (u ≡ s) × (new ≡ old)

-- ---- steps one after another, in one dispatch

-- so many of them; each but the first from a place that is none to stay at
pub data Walks (p : Image) (refused : List ℕ) (stays : State → Bool) (old : List CodeLocation) (s : State) : ℕ → List CodeLocation → List Line → State → Type 0 where
  begins : Walks p refused stays old s 0 old [] s
  debug_steps : {n : ℕ} {mid new : List CodeLocation} {lines more : List Line} {v u : State} → Walks p refused stays old s n mid lines v → HasTask v → (n ≢ 0 → stays v ≡ false) → DebugSteps p refused mid new v more u → Walks p refused stays old s (suc n) new (lines ++ more) u

-- one step at least, until nothing is at hand or it is a place to stay
abbrev pub WalksThere : Image → List ℕ → (State → Bool) → RunGoals
WalksThere p refused stays old new s lines u = (n : ℕ) × Walks p refused stays old s (suc n) new lines u × IsThere stays u

-- that, or nothing where it is to rest
abbrev pub WalksUnless : Bool → Image → List ℕ → (State → Bool) → RunGoals
WalksUnless true p refused stays = Rests
WalksUnless false p refused stays = WalksThere p refused stays

-- that where something is at hand, and nothing where nothing is
abbrev pub WalksIfAny : Image → List ℕ → (State → Bool) → RunGoals
WalksIfAny p refused stays old new s lines u = ((progress_of s ≢ Running) × Rests old new s lines u) ⊎ WalksThere p refused stays old new s lines u

-- that where it is no place to stay, and nothing where it is
abbrev pub WalksOn : Image → List ℕ → (State → Bool) → RunGoals
WalksOn p refused stays old new s lines u = ((stays s ≡ true) × Rests old new s lines u) ⊎ ((stays s ≡ false) × WalksThere p refused stays old new s lines u)

-- in the dispatch at hand, or in the next; nothing where there is none, and the run is over
abbrev pub InDispatch : Image → Environment → RunGoals → RunGoals
InDispatch p outside leads old new = Then (Arrives p outside) (λ s lines u. (IsOver s × Rests old new s lines u) ⊎ (HasTask s × leads old new s lines u))

-- to its end; with the root's destruction due it is at its end
abbrev pub TurnsOver : Image → Environment → RunGoals
TurnsOver p outside = InDispatch p outside (WalksThere p outside.refused (λ s. root_is_due p s))

-- ---- until something is over

-- one step at least, until no more tasks are at hand than may be where it is over, or an instruction with a breakpoint is next
abbrev pub WalksOver : Typing → Image → List ℕ → Awaited → List BreakpointRecord → RunGoals
WalksOver t p refused scope bs old new s = WalksThere p refused (λ v. stays_at t p (Depth (depth_of scope s.tasks)) bs v) old new s

abbrev pub GoesOver : Image → Environment → Awaited → List BreakpointRecord → RunGoals
GoesOver p outside scope bs = ByTyping p (λ t. InDispatch p outside (WalksOver t p outside.refused scope bs))

-- ---- so far in a dispatch

abbrev pub dispatch_goal_of : Typing → Image → List ℕ → List BreakpointRecord → DispatchGoal → RunGoals
dispatch_goal_of t p refused bs stretch.Whole = WalksThere p refused (λ s. root_is_due p s)
dispatch_goal_of t p refused bs (stretch.Over scope) = WalksOver t p refused scope bs
dispatch_goal_of t p refused bs (stretch.To until) = WalksThere p refused (λ s. stays_at t p until bs s)
dispatch_goal_of t p refused bs (stretch.OnTo until) = WalksOn p refused (λ s. stays_at t p until bs s)

-- ---- so many steps

-- each after the turns that come before it
pub data Goes (p : Image) (outside : Environment) (old : List CodeLocation) (s : State) : ℕ → List CodeLocation → List Line → State → Type 0 where
  begins : Goes p outside old s 0 old [] s
  debug_steps : {n : ℕ} {mid new : List CodeLocation} {lines first later : List Line} {v w u : State} → Goes p outside old s n mid lines v → Arrives p outside v first w → HasTask w → DebugSteps p outside.refused mid new w later u → Goes p outside old s (suc n) new (lines ++ (first ++ later)) u

-- so many, or fewer where the run ends before
abbrev pub GoesBy : Image → Environment → ℕ → RunGoals
GoesBy p outside steps old new s lines u = Goes p outside old s steps new lines u ⊎ ((n : ℕ) × (n < steps) × Then (λ a ls b. Goes p outside old a n new ls b) (Arrives p outside) s lines u × IsOver u)

-- ---- to a place to stay, or to the end of the run

-- where something was at hand at first a step was made
abbrev pub HasBegun : ℕ → State → Type 0
HasBegun n s = progress_of s ≡ Running → n ≢ 0

-- so many steps, each after the turns that come before it, and, once it has begun, none from a place to stay
pub data Passes (p : Image) (outside : Environment) (stays : State → Bool) (old : List CodeLocation) (s : State) : ℕ → List CodeLocation → List Line → State → Type 0 where
  begins : Passes p outside stays old s 0 old [] s
  debug_steps : {n : ℕ} {mid new : List CodeLocation} {lines first later : List Line} {v w u : State} → Passes p outside stays old s n mid lines v → Arrives p outside v first w → HasTask w → (HasBegun n s → stays w ≡ false) → DebugSteps p outside.refused mid new w later u → Passes p outside stays old s (suc n) new (lines ++ (first ++ later)) u

-- some steps and the turns behind them, up to the first place to stay once it has begun, or to the end of the run
abbrev pub GoesOn : Image → Environment → (State → Bool) → RunGoals
GoesOn p outside stays old new s lines u = (n : ℕ) × Then (λ a ls b. Passes p outside stays old a n new ls b) (Arrives p outside) s lines u × HasBegun n s × (IsOver u ⊎ (stays u ≡ true))

-- until an instruction with a breakpoint is next, but for where it begins, or to the end of the run
abbrev pub GoesToBreakpoint : Image → Environment → List BreakpointRecord → RunGoals
GoesToBreakpoint p outside bs = ByTyping p (λ t. GoesOn p outside (λ s. stays_at t p Breakpoint bs s))

-- and until that place is next
abbrev pub GoesToPlace : Image → Environment → CodeLocation → List BreakpointRecord → RunGoals
GoesToPlace p outside spot bs = ByTyping p (λ t. GoesOn p outside (λ s. stays_at t p (Place spot) bs s))

-- and until what is watched has changed: a variable of the innermost method in its dispatch
abbrev pub change_by : (local : Bool) → Typing → Image → Environment → Watched → List BreakpointRecord → RunGoals
change_by true t p outside w bs = InDispatch p outside (WalksThere p outside.refused (λ s. stays_at t p (Change w) bs s))
change_by false t p outside w bs = GoesOn p outside (λ s. stays_at t p (Change w) bs s)

abbrev pub GoesToChange : Image → Environment → Watched → List BreakpointRecord → RunGoals
GoesToChange p outside w bs = ByTyping p (λ t. change_by (is_local w.variable) t p outside w bs)

-- ---- by lines of a source

-- from something at hand one step at least, and from none to the first place to stay
abbrev pub line_goal : Progress → Until → DispatchGoal
line_goal Running until = stretch.To until
line_goal far until = stretch.OnTo until

-- until an instruction is next that is no more of the line at hand, or one with a breakpoint, or the dispatch is over
abbrev pub GoesLine : Typing → Image → Environment → NameLists → (enters : Bool) → List BreakpointRecord → RunGoals
GoesLine t p outside ns enters bs old new s = InDispatch p outside (dispatch_goal_of t p outside.refused bs (line_goal (progress_of s) (AtLine (scope_at p ns enters s)))) old new s

-- so many lines one after another
pub data LinesGo (t : Typing) (p : Image) (outside : Environment) (ns : NameLists) (enters : Bool) (bs : List BreakpointRecord) (old : List CodeLocation) (s : State) : ℕ → List CodeLocation → List Line → State → Type 0 where
  begins : LinesGo t p outside ns enters bs old s 0 old [] s
  goes_line : {n : ℕ} {mid new : List CodeLocation} {lines more : List Line} {v u : State} → LinesGo t p outside ns enters bs old s n mid lines v → GoesLine t p outside ns enters bs mid new v more u → LinesGo t p outside ns enters bs old s (suc n) new (lines ++ more) u

abbrev pub GoesLines : Typing → Image → Environment → List BreakpointRecord → LineSteps → RunGoals
GoesLines t p outside bs l old new s lines u = LinesGo t p outside l.names l.enters bs old s l.count new lines u

-- ---- each course that a debugger is asked for

abbrev pub way_of : Image → Environment → List BreakpointRecord → RunGoal → RunGoals
way_of p outside bs (course.Steps n) = GoesBy p outside n
way_of p outside bs course.EndOfDispatch = TurnsOver p outside
way_of p outside bs course.Breakpoint = GoesToBreakpoint p outside bs
way_of p outside bs (course.Over scope) = GoesOver p outside scope bs
way_of p outside bs (course.Place spot) = GoesToPlace p outside spot bs
way_of p outside bs (course.Change w) = GoesToChange p outside w bs
way_of p outside bs (course.Lines l) = ByTyping p (λ t. GoesLines t p outside bs l)

-- where it ends with the dispatch that reaches the limit, the run ends with that too
abbrev pub ToLimit : Image → Environment → RunGoals → RunGoals
ToLimit p outside leads old new = Then (leads old new) (Where (is_at_limit outside) (EndsByLimit p outside))

abbrev pub run_goal_of : Image → Environment → List BreakpointRecord → RunGoal → RunGoals
run_goal_of p outside bs way = ToLimit p outside (way_of p outside bs way)
