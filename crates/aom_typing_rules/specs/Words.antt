-- The rules of instructions on words, of jumps and of loops.
use Rattle.std.specs.Prelude.{ℕ, suc, nat_lt, List, [], ◌∷◌}
use Rattle.aom_image.specs.Image.{Image}
use Rattle.aom_abstract_state.specs.AbstractState.{AbstractState}
use Rattle.aom_abstract_state.specs.Kinds.{register, set_register, is_word, is_unowning}
use Rattle.aom_abstract_state.specs.Needs.{Need, Flow, to_next}
use Rattle.aom_roles.specs.Things.{holder_of, word_count}
use Rattle.aom_abstract_state.specs.declared.kind.Kind.TheVariants.{Word}
use Rattle.aom_abstract_state.specs.declared.why.Reason.TheVariants.{RegisterKind}

module _ (pc : ℕ) (sh : AbstractState) where
  abbrev pub rule_const : ℕ → List Need
  rule_const a = (is_unowning (register sh a), RegisterKind) ∷ []

  abbrev pub rule_copy : ℕ → ℕ → List Need
  rule_copy a b = (is_word (register sh b), RegisterKind) ∷ (is_unowning (register sh a), RegisterKind) ∷ []

  -- of the six operations on two words
  abbrev pub rule_combine : ℕ → ℕ → ℕ → List Need
  rule_combine a b c = (is_word (register sh b), RegisterKind) ∷ (is_word (register sh c), RegisterKind) ∷ (is_unowning (register sh a), RegisterKind) ∷ []

  -- a word comes into the register
  abbrev pub flow_word : ℕ → List Flow
  flow_word a = to_next pc (set_register sh a Word)

  abbrev pub flow_jump : ℕ → List Flow
  flow_jump to = (to, sh) ∷ []

  -- of the two jumps that compare words
  abbrev pub rule_compare : ℕ → ℕ → List Need
  rule_compare a b = (is_word (register sh a), RegisterKind) ∷ (is_word (register sh b), RegisterKind) ∷ []

  abbrev pub flow_compare : ℕ → List Flow
  flow_compare to = (suc pc, sh) ∷ (to, sh) ∷ []

  -- back to the loop's first place, or on
  abbrev pub flow_next : ℕ → List Flow
  flow_next to = (to, sh) ∷ (suc pc, sh) ∷ []

  abbrev pub rule_print : ℕ → List Need
  rule_print a = (is_word (register sh a), RegisterKind) ∷ []

module _ (p : Image) (m : ℕ) (sh : AbstractState) where
  abbrev pub rule_load : ℕ → ℕ → List Need
  rule_load a w = (is_unowning (register sh a), RegisterKind) ∷ (nat_lt w (word_count p (holder_of p m)), RegisterKind) ∷ []

  abbrev pub rule_store : ℕ → ℕ → List Need
  rule_store w b = (is_word (register sh b), RegisterKind) ∷ (nat_lt w (word_count p (holder_of p m)), RegisterKind) ∷ []
