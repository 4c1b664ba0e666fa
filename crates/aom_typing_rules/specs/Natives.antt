-- The rules of instructions on the native that serves the method's own object.
use Rattle.std.specs.Prelude.{ℕ, List, [], ◌∷◌}
use Rattle.aom_image.specs.Image.{Image}
use Rattle.aom_image.specs.Views.{has}
use Rattle.aom_roles.specs.Kinds.{is_native_kind}
use Rattle.aom_roles.specs.States.{server_states}
use Rattle.aom_typing_rules.specs.Requests.{own_kind}
use Rattle.aom_abstract_state.specs.Kinds.{is_unowning, is_word, register}
use Rattle.aom_abstract_state.specs.Needs.{Need}
use Rattle.aom_abstract_state.specs.AbstractState.{AbstractState}
use Rattle.aom_abstract_state.specs.declared.why.Reason.TheVariants.{NotIdle, RegisterKind}

module _ (p : Image) (m : ℕ) (sh : AbstractState) where
  -- the answer may take the place of what owns nothing
  abbrev pub rule_connect : ℕ → List Need
  rule_connect a = (is_unowning (register sh a), RegisterKind) ∷ (is_native_kind (own_kind p m), RegisterKind) ∷ []

  abbrev pub rule_ask : ℕ → ℕ → ℕ → List Need
  rule_ask a b x =
      (is_word (register sh b), RegisterKind)
      ∷ (is_word (register sh x), RegisterKind)
      ∷ (is_unowning (register sh a), RegisterKind)
      ∷ (is_native_kind (own_kind p m), RegisterKind)
      ∷ []

  -- no request is outstanding at the native
  abbrev pub rule_close : List Need
  rule_close = (is_native_kind (own_kind p m), RegisterKind) ∷ (has server_states sh.states, NotIdle) ∷ []
