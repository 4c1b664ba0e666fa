-- Which states arrive at the places of a method, and why one that arrives is refused there.
use Rattle.std.specs.Prelude.{ℕ, ◌≡◌, ◌⊎◌, List, [], ◌∷◌, Some, None, Err}
use Rattle.aom_image.specs.Image.{Image}
use Rattle.aom_image.specs.Views.{instr_at}
use Rattle.aom_instructions.specs.declared.instr.Instr.{Instr}
use Rattle.aom_roles.specs.Tests.{AllTrue}
use Rattle.aom_abstract_state.specs.Meet.{IsMeet, NoMeet, ReasonNoMeet}
use Rattle.aom_abstract_state.specs.Needs.{Flow}
use Rattle.aom_abstract_state.specs.Order.{IsImpliedBy}
use Rattle.aom_typing_rules.specs.Rules.{rule_needs, flows, rule}
use Rattle.aom_abstract_state.specs.AbstractState.{AbstractState}
use Rattle.aom_roles.specs.Tables.{at}
use Rattle.aom_abstract_state.specs.Arguments.{entry_shape}
use Rattle.aom_abstract_state.specs.declared.why.Reason.{Reason}
use Rattle.aom_static_bounds.specs.Shapes.{Shapes}

-- it is one of those flows
abbrev pub IsOneOf : List Flow → Flow → Type 0
IsOneOf [] way = ⊥
IsOneOf (x ∷ xs) way = (way ≡ x) ⊎ IsOneOf xs way

-- what is known as the method begins, what a state that arrives leads to, and the meet of two that arrive at one place
pub data Arrives (p : Image) (m : ℕ) : ℕ → AbstractState → Type 0 where
  begins : {sh : AbstractState} → IsImpliedBy sh (entry_shape p m) → IsImpliedBy (entry_shape p m) sh → Arrives p m 0 sh
  led : {pc to : ℕ} {sh next : AbstractState} {i : Instr} → Arrives p m pc sh → instr_at p m pc ≡ Some i → AllTrue (rule_needs p m pc sh i) → IsOneOf (flows p m pc sh i) (to, next) → Arrives p m to next
  met : {pc : ℕ} {a b c : AbstractState} → Arrives p m pc a → Arrives p m pc b → IsMeet c a b → Arrives p m pc c

-- a state arrives of which the rule's first need that is not met is that one, or two arrive that have no meet for that reason
pub data FailsFor (p : Image) (m pc : ℕ) : Reason → Type 0 where
  by_rule : {sh : AbstractState} {i : Instr} {why : Reason} → Arrives p m pc sh → instr_at p m pc ≡ Some i → rule p m pc sh i ≡ Err why → FailsFor p m pc why
  by_meet : {a b : AbstractState} {why : Reason} → Arrives p m pc a → Arrives p m pc b → NoMeet a b → ReasonNoMeet a b why → FailsFor p m pc why

-- each state arrives where it stands
abbrev pub AllArrive : Image → ℕ → Shapes → Type 0
AllArrive p m s = (pc : ℕ) (sh : AbstractState) → at None s pc ≡ Some sh → Arrives p m pc sh

-- each flow arrives where it leads
abbrev pub EachArrives : Image → ℕ → List Flow → Type 0
EachArrives p m [] = Unit {0}
EachArrives p m (way ∷ ways) = Arrives p m way.0 way.1 × EachArrives p m ways

-- a state at a place is refused: its rule's first need that is not met is that one, or another arrives with which it has no meet for that reason
pub data IsRefused (p : Image) (m pc : ℕ) (sh : AbstractState) (why : Reason) : Type 0 where
  by_need : {i : Instr} → instr_at p m pc ≡ Some i → rule p m pc sh i ≡ Err why → IsRefused p m pc sh why
  without_meet : {other : AbstractState} → Arrives p m pc other → NoMeet sh other → ReasonNoMeet sh other why → IsRefused p m pc sh why

-- states that arrive where they stand, and that of a place is refused
pub record StopsAt (p : Image) (m : ℕ) (s : Shapes) (place : ℕ) (why : Reason) : Type 0 where
  pub arrive : AllArrive p m s
  pub shape : AbstractState
  pub there : at None s place ≡ Some shape
  pub refused : IsRefused p m place shape why

-- wherever the old states and those flows arrive, the new states do, and that of a place is refused
abbrev pub JoinFails : (old new : Shapes) → List Flow → ℕ → Reason → Type 0
JoinFails old new ways place why = (p : Image) (m : ℕ) → AllArrive p m old → EachArrives p m ways → StopsAt p m new place why

-- the same of the states of one method
abbrev pub StatesFail : Image → ℕ → (old new : Shapes) → ℕ → Reason → Type 0
StatesFail p m old new place why = AllArrive p m old → StopsAt p m new place why
