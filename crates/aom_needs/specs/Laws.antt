-- The law: what is told of an instruction are just its rule's needs of the reasons that are told, in the rule's order.
use Rattle.std.specs.Prelude.{ℕ, ◌≡◌, true, cond, List, [], ◌∷◌, ◌++◌, Option, Some, None, Err, map}
use Rattle.aom_image.specs.Image.{Image}
use Rattle.aom_instructions.specs.declared.instr.Instr.{Instr}
use Rattle.aom_abstract_state.specs.AbstractState.{AbstractState}
use Rattle.aom_abstract_state.specs.Needs.{Need}
use Rattle.aom_abstract_state.specs.declared.why.Reason.{Reason}
use Rattle.aom_typing_rules.specs.Rules.{rule, rule_needs}
use Rattle.aom_needs.specs.Asked.{moved, moved_wanted, wanted}
use Rattle.aom_needs.specs.Wanted.{is_told, need_of}

-- the needs whose failure is told
abbrev pub told_needs : List Need → List Need
told_needs [] = []
told_needs (need ∷ needs) = cond (is_told need.1) (need ∷ told_needs needs) (told_needs needs)

-- the needs of an instruction that are told, each of the state in which it is looked at
abbrev pub needs_told : Image → (method : ℕ) → AbstractState → Instr → List Need
needs_told p m sh i = map (need_of p m sh) (wanted p m i) ++ map (need_of p m (moved p i sh)) (moved_wanted i)

-- the first need that is not met
abbrev pub first_failing : List Need → Option Need
first_failing [] = None
first_failing (need ∷ needs) = cond need.0 (first_failing needs) (Some need)

pub record NeedsAreTold : Type 0 where
  -- in each state, so that each is about the operand that the rule looks at
  pub needs : (p : Image) (m pc : ℕ) (sh : AbstractState) (i : Instr) → told_needs (rule_needs p m pc sh i) ≡ needs_told p m sh i
  -- and where a rule refuses for one of these reasons, the need that fails first in it is the first that fails of those that are told
  pub first : (p : Image) (m pc : ℕ) (sh : AbstractState) (i : Instr) (why : Reason) → is_told why ≡ true → rule p m pc sh i ≡ Err why →
      first_failing (needs_told p m sh i) ≡ first_failing (rule_needs p m pc sh i)
