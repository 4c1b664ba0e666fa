-- Why sweeps end early. Want of memory says nothing.
use Rattle.std.specs.Prelude.{ℕ, ◌<◌, List, length}
use Rattle.aom_image.specs.Image.{Image}
use Rattle.aom_abstract_state.specs.Needs.{Flow}
use Rattle.aom_static_bounds.specs.Shapes.{Shapes}
use Rattle.aom_verify.specs.Arrivals.{JoinFails, StatesFail}
use Rattle.aom_verify.specs.Sweep.{CannotJoin, NoTypingBelow}
use Rattle.aom_verify.specs.declared.refusal.Refusal.{Refusal}
use Rattle.aom_verify.specs.declared.refusal.Refusal.TheVariants as refusals
use Rattle.aom_verify.specs.declared.states.SweepFault.{SweepFault}
use Rattle.aom_verify.specs.declared.states.SweepFault.TheVariants.{OutOfMemory, At}

-- those ways cannot be joined to the old states, and the new ones stop at that place
abbrev pub JoinStops : (old new : Shapes) → List Flow → SweepFault → Type 0
JoinStops old new ways OutOfMemory = Unit {0}
JoinStops old new ways (At place why) = CannotJoin old ways × (place < length old) × JoinFails old new ways place why

-- no typing says no more than the old states, and the new ones stop at that place
abbrev pub Stops : Image → ℕ → (old new : Shapes) → SweepFault → Type 0
Stops p m old new OutOfMemory = Unit {0}
Stops p m old new (At place why) = NoTypingBelow p m old × (place < length old) × StatesFail p m old new place why

-- the same as a refusal of the method
abbrev pub refusal_of : ℕ → SweepFault → Refusal
refusal_of m OutOfMemory = refusals.OutOfMemory
refusal_of m (At place why) = refusals.Refused m place why
