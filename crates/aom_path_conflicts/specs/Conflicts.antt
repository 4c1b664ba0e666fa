-- Another way to a place, of which a register holds a kind that has no meet with what is known there.
use Rattle.std.specs.Prelude.{ℕ, ◌≡◌, ◌<◌, List, Some, None, length}
use Rattle.aom_image.specs.Image.{Image}
use Rattle.aom_roles.specs.Tables.{at}
use Rattle.aom_abstract_state.specs.AbstractState.{AbstractState}
use Rattle.aom_abstract_state.specs.Meet.{Unmet}
use Rattle.aom_abstract_state.specs.Needs.{Flow}
use Rattle.aom_abstract_state.specs.Tests.{meet_kind}
use Rattle.aom_abstract_state.specs.declared.kind.Kind.{Kind}
use Rattle.aom_abstract_state.specs.declared.kind.Kind.TheVariants.{Unset}
use Rattle.aom_static_bounds.specs.Shapes.{Shapes}
use Rattle.aom_verify.specs.Arrivals.{AllArrive, Arrives, IsOneOf}
use Rattle.aom_verify.specs.Sweep.{Flows}
use Rattle.aom_path_conflicts.specs.declared.conflict.Conflict.{Conflict}
use Rattle.aom_path_conflicts.specs.declared.conflict.Difference.{Difference}

-- two kinds of a register have no meet
abbrev pub AreApart : List Kind → List Kind → ℕ → Type 0
AreApart here there r = meet_kind (at Unset here r) (at Unset there r) ≡ None

-- none of the first registers is one whose kinds have no meet
abbrev pub NoneBelow : List Kind → List Kind → ℕ → Type 0
NoneBelow here there n = (r : ℕ) → r < n → ¬ AreApart here there r

abbrev pub NoneApart : List Kind → List Kind → Type 0
NoneApart here there = NoneBelow here there 16

-- the first register whose kinds have no meet, and its kind there
pub record IsFirstApart (here there : List Kind) (d : Difference) : Type 0 where
  pub within : d.register < 16
  pub apart : AreApart here there d.register
  pub first : NoneBelow here there d.register
  pub kind : d.kind ≡ at Unset there d.register

-- one of the ways leads to the place, with a register whose kinds have no meet
pub record SomeDiffers (here : List Kind) (place : ℕ) (d : Difference) (ways : List Flow) : Type 0 where
  pub next : AbstractState
  pub way : IsOneOf ways (place, next)
  pub apart : IsFirstApart here next.registers d

-- none does
pub record EachAgrees (here : List Kind) (place : ℕ) (ways : List Flow) : Type 0 where
  pub each : (next : AbstractState) → IsOneOf ways (place, next) → NoneApart here next.registers

-- where a state leads from a place, if its instruction does not refuse it; a state in a table has fewer cleanup entries
pub record LeadsOn (p : Image) (m from : ℕ) (sh : AbstractState) (ways : List Flow) : Type 0 where
  pub few : length sh.entries < 1024
  pub flows : Flows p m from sh ways

-- the state of a place leads to another with a register whose kinds have no meet
pub record DiffersAt (p : Image) (m from : ℕ) (sh : AbstractState) (place : ℕ) (here : List Kind) (d : Difference) : Type 0 where
  pub ways : List Flow
  pub leads : LeadsOn p m from sh ways
  pub differs : SomeDiffers here place d ways

-- it does not
pub record AgreesAt (p : Image) (m from : ℕ) (sh : AbstractState) (place : ℕ) (here : List Kind) : Type 0 where
  pub each : (ways : List Flow) → LeadsOn p m from sh ways → EachAgrees here place ways

-- a place has a state that does so
pub record DiffersFrom (p : Image) (m : ℕ) (s : Shapes) (from place : ℕ) (here : List Kind) (d : Difference) : Type 0 where
  pub shape : AbstractState
  pub there : at None s from ≡ Some shape
  pub differs : DiffersAt p m from shape place here d

-- it has none, or one that does not
pub record AgreesFrom (p : Image) (m : ℕ) (s : Shapes) (from place : ℕ) (here : List Kind) : Type 0 where
  pub agrees : (sh : AbstractState) → at None s from ≡ Some sh → AgreesAt p m from sh place here

-- no state of the first places does
abbrev pub NoneFrom : Image → ℕ → Shapes → (place : ℕ) → List Kind → ℕ → Type 0
NoneFrom p m s place here n = (from : ℕ) → from < n → AgreesFrom p m s from place here

-- the first place whose state does
pub record Conflicts (p : Image) (m : ℕ) (s : Shapes) (place : ℕ) (here : List Kind) (c : Conflict) : Type 0 where
  pub differs : DiffersFrom p m s c.from place here c.difference
  pub first : NoneFrom p m s place here c.from

-- no place's state does
abbrev pub NoConflict : Image → ℕ → Shapes → (place : ℕ) → List Kind → Type 0
NoConflict p m s place here = NoneFrom p m s place here (length s)

-- another state arrives at the place, and two registers have no meet
pub record IsAnother (p : Image) (m place : ℕ) (sh : AbstractState) : Type 0 where
  pub other : AbstractState
  pub arrives : Arrives p m place other
  pub unmet : Unmet sh.registers other.registers

abbrev pub ConflictsArrive : Type 0
ConflictsArrive = (p : Image) (m : ℕ) (s : Shapes) (place : ℕ) (sh : AbstractState) (c : Conflict) → AllArrive p m s →
    Conflicts p m s place sh.registers c → IsAnother p m place sh
