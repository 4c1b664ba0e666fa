-- When one abstract state says no more than another.
use Rattle.std.specs.Prelude.{ℕ, ◌≡◌, IsTrue}
use Rattle.aom_image.specs.Views.{has}
use Rattle.aom_image.specs.declared.method.Thing.{Thing}
use Rattle.aom_abstract_state.specs.AbstractState.{AbstractState}
use Rattle.aom_abstract_state.specs.Kinds.{register, field}
use Rattle.aom_abstract_state.specs.declared.kind.InitState.{InitState}
use Rattle.aom_abstract_state.specs.declared.kind.Kind.{Kind}
use Rattle.aom_abstract_state.specs.declared.kind.Kind.TheVariants.{Unset, Word, Null, Own, Maybe}
use Rattle.aom_abstract_state.specs.declared.kind.FieldState.{FieldState}
use Rattle.aom_abstract_state.specs.declared.kind.FieldState.TheVariants.{Empty, Full, Perhaps}

-- the first kind says no more than the second
pub data Weaker : Kind → Kind → Type 0 where
  alike : {k : Kind} → Weaker k k
  unset_word : Weaker Unset Word
  unset_null : Weaker Unset Null
  maybe_null : {t : Thing} {a : InitState} → Weaker (Maybe t a) Null
  maybe_own : {t : Thing} {a : InitState} → Weaker (Maybe t a) (Own t a)

pub data WeakerFilling : FieldState → FieldState → Type 0 where
  alike_filling : {x : FieldState} → WeakerFilling x x
  perhaps_empty : WeakerFilling Perhaps Empty
  perhaps_full : WeakerFilling Perhaps Full

pub record IsImpliedBy (a b : AbstractState) : Type 0 where
  pub registers : (i : ℕ) → Weaker (register a i) (register b i)
  pub fields : (i : ℕ) → WeakerFilling (field a i) (field b i)
  pub entries : a.entries ≡ b.entries
  -- each state that the second may be in is one of the first
  pub states : IsTrue (has a.states b.states)
  pub message_state : a.message_state ≡ b.message_state
