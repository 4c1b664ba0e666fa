-- The rules of messages.
use Rattle.std.specs.Prelude.{ℕ, not, List, [], ◌∷◌}
use Rattle.aom_image.specs.Image.{Image}
use Rattle.aom_image.specs.Views.{has, method_role}
use Rattle.aom_image.specs.declared.method.Thing.TheVariants.{Message}
use Rattle.aom_roles.specs.Kinds.{is_token_kind}
use Rattle.aom_roles.specs.Roles.{is_service}
use Rattle.aom_roles.specs.States.{idle, issued, unlisted}
use Rattle.aom_typing_rules.specs.Requests.{own_kind}
use Rattle.aom_abstract_state.specs.Kinds.{is_here, is_own_for, is_unowning, is_word, register, set_register}
use Rattle.aom_abstract_state.specs.Needs.{Need}
use Rattle.aom_abstract_state.specs.AbstractState.{AbstractState}
use Rattle.aom_abstract_state.specs.declared.kind.MessageState.TheVariants.{Gone}
use Rattle.aom_abstract_state.specs.declared.kind.InitState.TheVariants.{Ready}
use Rattle.aom_abstract_state.specs.declared.kind.Kind.TheVariants.{Maybe, Own}
use Rattle.aom_abstract_state.specs.declared.why.Reason.TheVariants.{NotAdded, NotIdle, RegisterKind}

module _ (p : Image) (m : ℕ) (sh : AbstractState) where
  -- the method serves a message, which it has not taken yet, and the register is free for it
  abbrev pub rule_take_message : ℕ → List Need
  rule_take_message a = (is_unowning (register sh a), RegisterKind) ∷ (is_service (method_role p m), RegisterKind) ∷ (is_here sh.message_state, RegisterKind) ∷ []

  -- the register owns the message then
  abbrev pub after_take_message : ℕ → AbstractState
  after_take_message a = record (set_register sh a (Own Message Ready)) { message_state = Gone }

  -- the first register owns a message, and the other holds the word with which it is completed
  abbrev pub rule_reply : ℕ → ℕ → List Need
  rule_reply a b = (is_own_for p Message (register sh a), RegisterKind) ∷ (is_word (register sh b), RegisterKind) ∷ []

  -- the object is idle, and its class is one that hands tokens
  abbrev pub rule_hand : ℕ → List Need
  rule_hand a =
      (is_unowning (register sh a), RegisterKind)
      ∷ (is_token_kind (own_kind p m), RegisterKind)
      ∷ (not (has sh.states unlisted), NotAdded)
      ∷ (has idle sh.states, NotIdle)
      ∷ []

  -- its request is made then, and the register has the token, or null where there was no room for one
  abbrev pub after_hand : ℕ → AbstractState
  after_hand a = record (set_register sh a (Maybe Message Ready)) { states = issued }
