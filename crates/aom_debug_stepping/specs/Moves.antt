-- The moves of a debugger.
use Rattle.std.specs.Prelude.{◌≡◌, ℕ, ℤ, Bool, false, nat_le, List, [], ◌∷◌, ◌++◌, Option, Some, None}
use Rattle.circular_buffer.specs.Buffer.{keep_last}
use Rattle.aom_debug_protocol.specs.declared.spot.CodeLocation.{CodeLocation}
use Rattle.aom_image.specs.Image.{Image}
use Rattle.aom_semantics.specs.State.{State}
use Rattle.aom_semantics.specs.World.{IsBetween, Environment, Reaches}
use Rattle.aom_transcript.specs.declared.line.Line.{Line}
use Rattle.aom_transcript.specs.declared.line.Ending.{Ending}
use Rattle.aom_transcript.specs.declared.line.Ending.TheVariants.{Limit}
use Rattle.aom_machine_state.specs.declared.progress.Progress.{Progress}
use Rattle.aom_machine_state.specs.declared.progress.Progress.TheVariants.{Turned}
use Rattle.aom_machine_state.specs.Progress.{progress_of}
use Rattle.aom_machine.specs.Steps.{Steps}
use Rattle.aom_run.specs.Turns.{LeadTo}
use Rattle.aom_debug_stepping.specs.Next.{next_of, pauses, root_is_due, spot_of}
use Rattle.aom_debug_stepping.specs.Sends.{Leads, Then, Where}

-- the latest instructions, once one is noted
abbrev pub noted : Option CodeLocation → List CodeLocation → List CodeLocation
noted None spots = spots
noted (Some spot) spots = keep_last 16 (spots ++ spot ∷ [])

-- a step of the machine, whatever it hears of a native
abbrev pub StepsOnce : Image → List ℕ → Leads
StepsOnce p refused s lines u = (observed : ℤ) × Steps p refused observed s lines u

-- that, and the instruction that is next before it, if one is, is noted: such are the latest instructions before and after
abbrev pub Notes : Image → List CodeLocation → List CodeLocation → Leads → Leads
Notes p old new leads s lines u = (new ≡ noted (spot_of (next_of p s)) old) × leads s lines u

-- a step of a debugger: what is next is made, and the latest instructions are these before and after. Where the root's destruction is due it begins first, and an end of a dispatch after which it is not due is no place to stay
abbrev pub DebugSteps : Image → List ℕ → List CodeLocation → List CodeLocation → Leads
DebugSteps p refused old new = Then (Where (root_is_due p) (StepsOnce p refused)) (Notes p old new (Then (StepsOnce p refused) (Where (pauses p) (StepsOnce p refused))))

-- turns up to a dispatch, a native's end, or the end of the run
abbrev pub TurnsOnce : Image → Environment → Leads
TurnsOnce p outside s lines u = (ending : Option Ending) × Reaches p outside s lines u × LeadTo outside ending s lines u

-- such turns one after another, as long as nothing is at hand
pub data Arrives (p : Image) (outside : Environment) (s : State) : List Line → State → Type 0 where
  stays : Arrives p outside s [] s
  turns : {lines more : List Line} {v u : State} → Arrives p outside s lines v → IsBetween v → TurnsOnce p outside v more u → Arrives p outside s (lines ++ more) u

-- nothing is at hand, and as many dispatches are over as there may be
abbrev pub is_cut : Progress → Bool → Bool
is_cut Turned reached = reached
is_cut far reached = false

abbrev pub is_at_limit : Environment → State → Bool
is_at_limit outside s = is_cut (progress_of s) (nat_le outside.limit s.rest.dispatches)

-- the run ends by its limit, and no line is written
abbrev pub EndsByLimit : Image → Environment → Leads
EndsByLimit p outside s lines u = Reaches p outside s lines u × LeadTo outside (Some Limit) s lines u
