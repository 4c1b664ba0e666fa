-- The strongest state that says no more than either of two.
use Rattle.std.specs.Prelude.{ℕ, ◌<◌, ◌≡◌, ◌≢◌, List, length, Some, None}
use Rattle.aom_roles.specs.Tables.{at}
use Rattle.aom_abstract_state.specs.AbstractState.{AbstractState}
use Rattle.aom_abstract_state.specs.Order.{IsImpliedBy}
use Rattle.aom_abstract_state.specs.Tests.{meet_kind, meet_filling}
use Rattle.aom_abstract_state.specs.declared.kind.FieldState.{FieldState}
use Rattle.aom_abstract_state.specs.declared.kind.FieldState.TheVariants.{Perhaps}
use Rattle.aom_abstract_state.specs.declared.kind.Kind.{Kind}
use Rattle.aom_abstract_state.specs.declared.kind.Kind.TheVariants.{Unset}
use Rattle.aom_abstract_state.specs.declared.why.Reason.{Reason}
use Rattle.aom_abstract_state.specs.declared.why.Reason.TheVariants.{RegisterKind, CleanupAtReturn, MessageAtReturn}

pub record IsMeet (m a b : AbstractState) : Type 0 where
  pub first : IsImpliedBy m a
  pub second : IsImpliedBy m b
  pub strongest : (n : AbstractState) → IsImpliedBy n a → IsImpliedBy n b → IsImpliedBy n m

-- nothing says no more than both
pub record NoMeet (a b : AbstractState) : Type 0 where
  pub none : (n : AbstractState) → IsImpliedBy n a → IsImpliedBy n b → ⊥

-- the third list has the meets of the kinds in the first two, below a place
pub record Met (a b m : List Kind) (n : ℕ) : Type 0 where
  pub size : length m ≡ 16
  pub each : (k : ℕ) → k < n → meet_kind (at Unset a k) (at Unset b k) ≡ Some (at Unset m k)

-- somewhere two kinds have no meet
pub record Unmet (a b : List Kind) : Type 0 where
  pub place : ℕ
  pub none : meet_kind (at Unset a place) (at Unset b place) ≡ None

-- why two states have no meet: two registers have none, and if each two have one the entries differ, or else what became of the message
pub data ReasonNoMeet (a b : AbstractState) : Reason → Type 0 where
  by_registers : Unmet a.registers b.registers → ReasonNoMeet a b RegisterKind
  by_entries : ¬ Unmet a.registers b.registers → a.entries ≢ b.entries → ReasonNoMeet a b CleanupAtReturn
  by_delivery : ¬ Unmet a.registers b.registers → a.entries ≡ b.entries → a.message_state ≢ b.message_state → ReasonNoMeet a b MessageAtReturn

-- the same as `Met`, of fillings
pub record MetFillings (a b m : List FieldState) (n : ℕ) : Type 0 where
  pub size : length m ≡ 8
  pub each : (k : ℕ) → k < n → at Perhaps m k ≡ meet_filling (at Perhaps a k) (at Perhaps b k)
