-- The typing of an image: an abstract state for each place that is reached.
use Rattle.std.specs.Prelude.{ℕ, ◌≡◌, IsSome, List, [], ◌∷◌, Option, Some, None}
use Rattle.aom_image.specs.Image.{Image}
use Rattle.aom_image.specs.Views.{method_at, instr_at}
use Rattle.aom_instructions.specs.declared.instr.Instr.{Instr}
use Rattle.aom_roles.specs.Tests.{AllTrue}
use Rattle.aom_roles.specs.Tables.{at}
use Rattle.aom_abstract_state.specs.AbstractState.{AbstractState}
use Rattle.aom_abstract_state.specs.Arguments.{entry_shape}
use Rattle.aom_abstract_state.specs.Order.{IsImpliedBy}
use Rattle.aom_abstract_state.specs.Needs.{Flow}
use Rattle.aom_typing_rules.specs.Rules.{rule_needs, flows}

-- by method and place; none where the place is not reached
abbrev pub Typing : Type 0
Typing = List (List (Option AbstractState))

abbrev pub shape_at : Typing → ℕ → ℕ → Option AbstractState
shape_at t m pc = at None (at [] t m) pc

-- the state that the typing has there says no more
abbrev pub Leads : Typing → ℕ → ℕ → AbstractState → Type 0
Leads t m to sh = (next : AbstractState) × (shape_at t m to ≡ Some next) × IsImpliedBy next sh

abbrev pub AllLead : Typing → ℕ → List Flow → Type 0
AllLead t m [] = Unit {0}
AllLead t m (flow ∷ flows) = Leads t m flow.0 flow.1 × AllLead t m flows

-- the rule applies to that state, and its flows lead on
pub record Passes (p : Image) (t : Typing) (m pc : ℕ) (sh : AbstractState) : Type 0 where
  pub instr : Instr
  pub stands : instr_at p m pc ≡ Some instr
  pub needs : AllTrue (rule_needs p m pc sh instr)
  pub flows : AllLead t m (flows p m pc sh instr)

pub record IsTyped (p : Image) (t : Typing) : Type 0 where
  pub each : (m pc : ℕ) (sh : AbstractState) → shape_at t m pc ≡ Some sh → Passes p t m pc sh
  pub entry : (m : ℕ) → IsSome (method_at p m) → Leads t m 0 (entry_shape p m)
