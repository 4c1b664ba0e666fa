-- The law of the rules.
use Rattle.std.specs.Prelude.{ℕ, ◌≡◌, ◌≤◌, ◌⊎◌, List, [], ◌∷◌, length}
use Rattle.aom_image.specs.Image.{Image}
use Rattle.aom_instructions.specs.declared.instr.Instr.{Instr}
use Rattle.aom_roles.specs.Tests.{AllTrue}
use Rattle.aom_abstract_state.specs.Needs.{Flow}
use Rattle.aom_abstract_state.specs.Order.{IsImpliedBy}
use Rattle.aom_typing_rules.specs.Rules.{rule_needs, flows}
use Rattle.aom_abstract_state.specs.AbstractState.{AbstractState}

-- each flow has so many entries at most
abbrev pub HaveAtMost : ℕ → List Flow → Type 0
HaveAtMost n [] = Unit {0}
HaveAtMost n (flow ∷ flows) = (length flow.1.entries ≤ n) × HaveAtMost n flows

-- one of the flows leads there, and says no more
abbrev pub Follows : List Flow → Flow → Type 0
Follows [] flow = ⊥
Follows (x ∷ xs) flow = ((x.0 ≡ flow.0) × IsImpliedBy x.1 flow.1) ⊎ Follows xs flow

-- each flow of the second list is followed by one of the first
abbrev pub AllFollow : List Flow → List Flow → Type 0
AllFollow xs [] = Unit {0}
AllFollow xs (flow ∷ flows) = Follows xs flow × AllFollow xs flows

-- what passes for a state passes for one that says more, with flows that say no less
pub record IsMonotone : Type 0 where
  pub needs : (p : Image) (m pc : ℕ) (a b : AbstractState) (i : Instr) → IsImpliedBy a b → AllTrue (rule_needs p m pc a i) → AllTrue (rule_needs p m pc b i)
  pub flows : (p : Image) (m pc : ℕ) (a b : AbstractState) (i : Instr) → IsImpliedBy a b → AllTrue (rule_needs p m pc a i) → AllFollow (flows p m pc a i) (flows p m pc b i)
