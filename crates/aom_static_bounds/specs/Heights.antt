-- How many cleanup entries a method may come to.
use Rattle.std.specs.Prelude.{ℕ, ◌+◌, ◌≤◌, ◌<◌, ◌≡◌, List, length, IsSome, Some, None}
use Rattle.aom_image.specs.Image.{Image}
use Rattle.aom_image.specs.Views.{instr_at, method_at}
use Rattle.aom_instructions.specs.declared.instr.Instr.{Instr}
use Rattle.aom_abstract_state.specs.AbstractState.{AbstractState}
use Rattle.aom_roles.specs.Tables.{at}
use Rattle.aom_static_bounds.specs.Charges.{Charge, A_call, charge_of}
use Rattle.aom_static_bounds.specs.Shapes.{Shapes}
use Rattle.aom_static_bounds.specs.Layers.{MayRun}
use Rattle.aom_static_bounds.specs.Strongest.{IsMethodStrongest}

-- the strongest typing reaches that place with that state
pub record StandsAt (p : Image) (m place : ℕ) (sh : AbstractState) : Type 0 where
  pub states : Shapes
  pub strongest : IsMethodStrongest p m states
  pub there : at None states place ≡ Some sh

-- a method stands somewhere with so many entries of its own
pub record StandsWith (p : Image) (m n : ℕ) : Type 0 where
  pub place : ℕ
  pub shape : AbstractState
  pub stands : StandsAt p m place shape
  pub count : length shape.entries ≡ n

-- what is charged for is a call of that method
abbrev pub IsCall : Image → Charge → ℕ → Type 0
IsCall p (A_call k') k = MayRun p k' k
IsCall p _ k = ⊥

-- an instruction that calls that method, with a trap or without
abbrev pub Enters : Image → Instr → ℕ → Type 0
Enters p i k = IsCall p (charge_of i) k

-- a method calls another one with so many entries of its own
pub record CallsOver (p : Image) (m k h : ℕ) : Type 0 where
  pub place : ℕ
  pub shape : AbstractState
  pub stands : StandsAt p m place shape
  pub instr : Instr
  pub here : instr_at p m place ≡ Some instr
  pub enters : Enters p instr k
  pub count : length shape.entries ≡ h

-- so many entries, its own and those of the methods that it calls, each one by the one below
pub data Heights (p : Image) : ℕ → ℕ → Type 0 where
  own : {m n : ℕ} → StandsWith p m n → Heights p m n
  under : {m k h n : ℕ} → CallsOver p m k h → Heights p k n → Heights p m (h + n)

-- no method may come to more than 1,024 entries
pub record HeightsWithin (p : Image) : Type 0 where
  pub within : (m n : ℕ) → Heights p m n → n ≤ 1024

-- some method may
pub record IsTooHigh (p : Image) : Type 0 where
  pub method : ℕ
  pub count : ℕ
  pub heights : Heights p method count
  pub many : 1024 < count

-- the most entries that a method may come to
pub record IsHeight (p : Image) (m n : ℕ) : Type 0 where
  pub heights : Heights p m n
  pub most : (k : ℕ) → Heights p m k → k ≤ n

-- the heights of the methods, by number
pub record AreHeights (p : Image) (heights : List ℕ) : Type 0 where
  pub each : (m : ℕ) → IsSome (method_at p m) → IsHeight p m (at 0 heights m)
  pub within : (m : ℕ) → at 0 heights m ≤ 1024
  pub own : (m n : ℕ) → StandsWith p m n → n ≤ at 0 heights m
  pub under : (m k h : ℕ) → CallsOver p m k h → (h + at 0 heights k) ≤ at 0 heights m

pub record HasHeights (p : Image) : Type 0 where
  pub heights : List ℕ
  pub are : AreHeights p heights
