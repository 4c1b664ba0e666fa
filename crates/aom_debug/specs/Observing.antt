-- What a line does to a debugger, from each state that its machine stands for.
use Rattle.std.specs.Prelude.{◌≡◌, ℕ, true, false, List, Option, Result, take}
use Rattle.aom_semantics.specs.State.{State}
use Rattle.aom_run.specs.Calls.{RefinesWithNatives}
use Rattle.aom_transcript.specs.Sinks.{after}
use Rattle.aom_debug_protocol.specs.declared.command.Command.{Command}
use Rattle.aom_debug_protocol.specs.declared.fault.DebugFault.{DebugFault}
use Rattle.aom_debug.specs.Runners.{outside_of}
use Rattle.aom_debug.specs.Debugging.{Outgoing}
use Rattle.aom_debug.specs.declared.debugger.Debugger.{Debugger}
use Rattle.aom_debug.specs.Sessions.{Begins, ExecutesLine, SessionState}

module _ {X : Type 0} {B : X → Type 0} where
  -- where a session stands at a state
  abbrev pub standing : Debugger X B → State → SessionState
  standing d s = record { state = s; spots = d.breakpoints; recent = d.runner.recent; names = d.names }

  -- what a line says is done or refused, and what that tells is out
  pub record Observed (said : Result (Option Command) DebugFault) (old new : Debugger X B) (out : Outgoing) : Type 0 where
    pub goes : (s : State) → RefinesWithNatives old.runner.machine s → (text : List ℕ) × (u : State) × ExecutesLine old.runner.machine.core.image (outside_of old.runner) said (standing old s) text (standing new u) × (out.now ≡ after out.before text) × RefinesWithNatives new.runner.machine u
    pub well : new.has_failed ≡ false

  -- or a beginning of it, since the sink failed
  pub record ObservedPart (said : Result (Option Command) DebugFault) (old : Debugger X B) (out : Outgoing) : Type 0 where
    pub goes : (s : State) → RefinesWithNatives old.runner.machine s → (text : List ℕ) × Begins old.runner.machine.core.image (outside_of old.runner) said (standing old s) text × ((sent : ℕ) × (out.now ≡ after out.before (take sent text)))
    pub failed : out.failed ≡ true
