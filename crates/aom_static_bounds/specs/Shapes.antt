-- The typing of one method: an abstract state for each of its places that is reached.
use Rattle.std.specs.Prelude.{ℕ, ◌≡◌, List, [], ◌∷◌, Option, Some, None}
use Rattle.aom_image.specs.Image.{Image}
use Rattle.aom_image.specs.Views.{instr_at}
use Rattle.aom_instructions.specs.declared.instr.Instr.{Instr}
use Rattle.aom_roles.specs.Tests.{AllTrue}
use Rattle.aom_roles.specs.Tables.{at}
use Rattle.aom_abstract_state.specs.AbstractState.{AbstractState}
use Rattle.aom_abstract_state.specs.Order.{IsImpliedBy}
use Rattle.aom_abstract_state.specs.Needs.{Flow}
use Rattle.aom_typing_rules.specs.Rules.{rule_needs, flows}
use Rattle.aom_abstract_state.specs.Arguments.{entry_shape}

-- by place; none where the place is not reached
abbrev pub Shapes : Type 0
Shapes = List (Option AbstractState)

-- the state there says no more
pub record Meets (s : Shapes) (to : ℕ) (sh : AbstractState) : Type 0 where
  pub next : AbstractState
  pub there : at None s to ≡ Some next
  pub implied : IsImpliedBy next sh

abbrev pub AllMet : Shapes → List Flow → Type 0
AllMet s [] = Unit {0}
AllMet s (flow ∷ flows) = Meets s flow.0 flow.1 × AllMet s flows

-- wherever the second list has a state, the first has one that says no more
pub record IsBelow (t s : Shapes) : Type 0 where
  pub each : (pc : ℕ) (sh : AbstractState) → at None s pc ≡ Some sh → Meets t pc sh

-- the rule applies to that state, and its flows lead on
pub record Applies (p : Image) (m : ℕ) (s : Shapes) (pc : ℕ) (sh : AbstractState) : Type 0 where
  pub instr : Instr
  pub stands : instr_at p m pc ≡ Some instr
  pub needs : AllTrue (rule_needs p m pc sh instr)
  pub flows : AllMet s (flows p m pc sh instr)

pub record IsMethodTyped (p : Image) (m : ℕ) (s : Shapes) : Type 0 where
  pub each : (pc : ℕ) (sh : AbstractState) → at None s pc ≡ Some sh → Applies p m s pc sh
  pub entry : Meets s 0 (entry_shape p m)

-- some states are a typing of the method
pub record HasTyping (p : Image) (m : ℕ) : Type 0 where
  pub states : Shapes
  pub typed : IsMethodTyped p m states
