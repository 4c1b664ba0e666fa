-- What a step of a sweep keeps.
use Rattle.std.specs.Prelude.{ℕ, ◌≡◌, ◌≢◌, ◌≤◌, ◌<◌, Bool, true, false, length, List, [], ◌∷◌, Some, None, Err}
use Rattle.aom_image.specs.Image.{Image}
use Rattle.aom_image.specs.Views.{method_at, instr_at}
use Rattle.aom_instructions.specs.declared.instr.Instr.{Instr}
use Rattle.aom_image.specs.declared.method.Method.{Method}
use Rattle.aom_roles.specs.Tests.{AllTrue}
use Rattle.aom_roles.specs.Tables.{at}
use Rattle.aom_abstract_state.specs.AbstractState.{AbstractState}
use Rattle.aom_abstract_state.specs.Needs.{Flow}
use Rattle.aom_typing_rules.specs.Rules.{rule_needs, flows, rule}
use Rattle.aom_abstract_state.specs.declared.why.Reason.{Reason}
use Rattle.aom_static_bounds.specs.Shapes.{Shapes, AllMet, IsBelow, Applies, IsMethodTyped}
use Rattle.aom_verify.specs.Arrivals.{AllArrive, EachArrives}
use Rattle.aom_verify.specs.Change.{IsChange, unreached_count}
use Rattle.aom_verify.specs.declared.change.StatesChange.{StatesChange}
use Rattle.aom_verify.specs.declared.change.StatesChange.TheVariants.{Nothing}
use Rattle.aom_verify.specs.declared.change.Step.{Step}

-- the method has so many places
pub record HasPlaces (p : Image) (m n : ℕ) : Type 0 where
  pub method : Method
  pub is : method_at p m ≡ Some method
  pub size : n ≡ length method.code

-- there is an optional state for each place of the method
pub record Spans (p : Image) (m : ℕ) (s : Shapes) : Type 0 where
  pub method : Method
  pub is : method_at p m ≡ Some method
  pub size : length s ≡ length method.code

-- each way is to one of so many places
abbrev pub AllWithin : ℕ → List Flow → Type 0
AllWithin n [] = Unit {0}
AllWithin n (way ∷ ways) = (way.0 < n) × AllWithin n ways

-- each way is to a place of the method
pub record WithinMethod (p : Image) (m : ℕ) (ways : List Flow) : Type 0 where
  pub each : (d : Method) → method_at p m ≡ Some d → AllWithin (length d.code) ways

-- the new states are the strongest that say no more than the old ones and than those ways, and arrive where those do
pub record Joins (old new : Shapes) (ways : List Flow) (change : StatesChange) : Type 0 where
  pub size : length new ≡ length old
  pub below_old : IsBelow new old
  pub met : AllMet new ways
  pub strongest : (t : Shapes) → IsBelow t old → AllMet t ways → IsBelow t new
  pub arrives : (p : Image) (m : ℕ) → AllArrive p m old → EachArrives p m ways → AllArrive p m new
  pub changed : IsChange old new change

-- nothing says no more than the states and than those ways
pub record CannotJoin (old : Shapes) (ways : List Flow) : Type 0 where
  pub none : (t : Shapes) → IsBelow t old → AllMet t ways → ⊥

-- what the rule answers at a place with that state
pub record Flows (p : Image) (m pc : ℕ) (sh : AbstractState) (ways : List Flow) : Type 0 where
  pub instr : Instr
  pub stands : instr_at p m pc ≡ Some instr
  pub needs : AllTrue (rule_needs p m pc sh instr)
  pub is : ways ≡ flows p m pc sh instr

-- the rule does not apply there, and that is its first need that is not met
pub record Fails (p : Image) (m pc : ℕ) (sh : AbstractState) (why : Reason) : Type 0 where
  pub instr : Instr
  pub stands : instr_at p m pc ≡ Some instr
  pub unmet : ¬ AllTrue (rule_needs p m pc sh instr)
  pub is : rule p m pc sh instr ≡ Err why

-- the new states say no more than the old ones and arrive if those do, and a typing that says no more than the old ones says no more than the new ones
pub record SweepInvariant (p : Image) (m : ℕ) (old new : Shapes) : Type 0 where
  pub size : length new ≡ length old
  pub below_old : IsBelow new old
  pub arrives : AllArrive p m old → AllArrive p m new
  pub typings : (t : Shapes) → IsMethodTyped p m t → IsBelow t old → IsBelow t new

-- the rule applies to the state at that place, if it is reached
abbrev pub AppliesAt : Image → ℕ → Shapes → ℕ → Type 0
AppliesAt p m s pc = (sh : AbstractState) → at None s pc ≡ Some sh → Applies p m s pc sh

-- the rule applies at each place that is not stale
pub record AreWorked (p : Image) (m : ℕ) (s : Shapes) (stale : List Bool) : Type 0 where
  pub each : (pc : ℕ) → at true stale pc ≡ false → AppliesAt p m s pc

-- a place that is not stale after a step was not before, and its state is as it was
pub record Marks (old new : Shapes) (before after : List Bool) : Type 0 where
  pub each : (pc : ℕ) → at true after pc ≡ false → (at true before pc ≡ false) × (at None new pc ≡ at None old pc)

-- all states but that of a place are as they were
abbrev pub SameBut : ℕ → Shapes → Shapes → Type 0
SameBut to old new = (pc : ℕ) → pc ≢ to → at None new pc ≡ at None old pc

-- the states up to a place are as they were
abbrev pub SameUpTo : ℕ → Shapes → Shapes → Type 0
SameUpTo seen old new = (pc : ℕ) → pc ≤ seen → at None new pc ≡ at None old pc

-- what a step says of the states up to a place: as they were, if it changed none of them; and it did not where it changed nothing
pub record IsAhead (seen : ℕ) (old new : Shapes) (step : Step) : Type 0 where
  pub same : step.is_behind ≡ false → SameUpTo seen old new
  pub nothing : step.change ≡ Nothing → step.is_behind ≡ false

-- one place was visited
pub record Visits (p : Image) (m : ℕ) (old new : Shapes) (pc : ℕ) (step : Step) : Type 0 where
  pub keeps : SweepInvariant p m old new
  pub changed : IsChange old new step.change
  pub ahead : IsAhead pc old new step
  pub applies : step.is_behind ≡ false → AppliesAt p m new pc

-- the places below a count were visited
pub record Sweeps (p : Image) (m : ℕ) (old new : Shapes) (count : ℕ) (step : Step) : Type 0 where
  pub keeps : SweepInvariant p m old new
  pub changed : IsChange old new step.change
  pub nothing : step.change ≡ Nothing → step.is_behind ≡ false
  -- where none of them changed once the sweep had come to it
  pub applies : step.is_behind ≡ false → (pc : ℕ) → pc < count → AppliesAt p m new pc

-- sweeps have reached a place first, or the rule applies at each place that is reached
abbrev pub SweptOn : Image → ℕ → Shapes → Shapes → Bool → Type 0
SweptOn p m old new true = unreached_count new < unreached_count old
SweptOn p m old new false = (pc : ℕ) → pc < length new → AppliesAt p m new pc

pub record SweepsOn (p : Image) (m : ℕ) (old new : Shapes) (reached : Bool) : Type 0 where
  pub keeps : SweepInvariant p m old new
  pub swept : SweptOn p m old new reached

-- the rule applies at each place that is reached
pub record Settles (p : Image) (m : ℕ) (old new : Shapes) : Type 0 where
  pub keeps : SweepInvariant p m old new
  pub applies : (pc : ℕ) → pc < length new → AppliesAt p m new pc

-- no typing of the method says no more than the states
pub record NoTypingBelow (p : Image) (m : ℕ) (s : Shapes) : Type 0 where
  pub none : (t : Shapes) → IsMethodTyped p m t → IsBelow t s → ⊥
