-- A machine that moves under a script.
use Rattle.std.specs.Prelude.{◌≡◌, ◌≤◌, ◌+◌, ◌-◌, ◌^◌, ℕ, Bool, true, List, [], Option, Some, None}
use Rattle.aom_machine_state.specs.LineBuffer.{step_lines}
use Rattle.aom_machine_state.specs.declared.progress.Progress.{Progress}
use Rattle.aom_script.specs.Script.{IsTimely}
use Rattle.aom_semantics.specs.World.{Environment}
use Rattle.aom_machine.specs.Steps.{progress}
use Rattle.aom_run.specs.Calls.{Stands, natives_of}
use Rattle.aom_run.specs.Turns.{observing}
use Rattle.aom_debug_stepping.specs.Sends.{Breaks, Leads, Sends}
pub use Rattle.aom_debug_stepping.specs.declared.runner.Runner.{Runner}

module _ {X : Type 0} {B : X → Type 0} where
  -- what comes from outside of the image
  abbrev pub outside_of : Runner X B → Environment
  outside_of m = observing m.lines.refused m.limit (natives_of m.machine) m.script.timed

  -- the machine stands for a state, the buffer has no lines and room for those of a step, the events of the script are as a machine needs them, and the limit is a number of 64 bits
  pub record IsReady (m : Runner X B) : Type 0 where
    pub stands : Stands m.machine
    pub none : m.lines.lines ≡ []
    pub room : 64 + step_lines m.machine.core.image.header.messages ≤ m.lines.room
    pub timely : IsTimely m.script.timed
    pub few : m.limit ≤ 2 ^ 64 - 1

  -- what no move changes; and it is ready again
  pub record KeepsRunner (old new : Runner X B) : Type 0 where
    pub image : new.machine.core.image ≡ old.machine.core.image
    pub natives : natives_of new.machine ≡ natives_of old.machine
    pub script : new.script ≡ old.script
    pub lines : new.lines ≡ old.lines
    pub limit : new.limit ≡ old.limit
    pub ready : IsReady new

  -- a move went so, has come so far, and its lines are out; or of a way that it may have gone a beginning is out, since the sink failed
  abbrev pub Went : (so may : Leads) → Runner X B → Option (List ℕ) → Option (List ℕ) → Bool → Option Progress → Runner X B → Type 0
  Went so may old before out failed None new = (failed ≡ true) × Breaks may old.machine before out new.machine
  Went so may old before out failed (Some far) new = Sends so old.machine before out new.machine × (far ≡ progress new.machine.core)
