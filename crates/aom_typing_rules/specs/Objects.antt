-- The rules of instructions on objects.
use Rattle.std.specs.Prelude.{ℕ, suc, not, is_some, cond, List, [], ◌∷◌}
use Rattle.aom_image.specs.Image.{Image}
use Rattle.aom_image.specs.Views.{is_quiet}
use Rattle.aom_image.specs.declared.method.Role.TheVariants.{Construct}
use Rattle.aom_link_conditions.specs.Roles.{role_of}
use Rattle.aom_roles.specs.Things.{field_thing, holder_of}
use Rattle.aom_abstract_state.specs.AbstractState.{AbstractState}
use Rattle.aom_abstract_state.specs.Kinds.{register, field, set_register, set_field, filled, field_state_of, is_empty, is_unowning, is_object_or_null, may_be_destroyed, may_be_declared, is_ready_kind}
use Rattle.aom_abstract_state.specs.Needs.{Need, Flow}
use Rattle.aom_abstract_state.specs.declared.kind.InitState.{InitState}
use Rattle.aom_abstract_state.specs.declared.kind.InitState.TheVariants.{Fresh, Ready}
use Rattle.aom_abstract_state.specs.declared.kind.Kind.{Kind}
use Rattle.aom_abstract_state.specs.declared.kind.Kind.TheVariants.{Unset, Word, Null, Own, Maybe}
use Rattle.aom_abstract_state.specs.declared.kind.FieldState.{FieldState}
use Rattle.aom_abstract_state.specs.declared.kind.FieldState.TheVariants.{Empty, Full, Perhaps}
use Rattle.aom_abstract_state.specs.declared.why.Reason.TheVariants.{RegisterKind, FieldNotNull, StillFresh, QuietBroken}

-- the age of a new object
abbrev pub new_age : Image → ℕ → InitState
new_age p c = cond (is_some (role_of p c Construct)) Fresh Ready

module _ (p : Image) (m : ℕ) (pc : ℕ) (sh : AbstractState) where
  abbrev pub rule_move : ℕ → ℕ → List Need
  rule_move a b = (is_object_or_null (register sh b), RegisterKind) ∷ (is_unowning (register sh a), RegisterKind) ∷ []

  abbrev pub after_move : ℕ → ℕ → AbstractState
  after_move a b = set_register (set_register sh b Null) a (register sh b)

  abbrev pub rule_jump_null : ℕ → List Need
  rule_jump_null a = (is_object_or_null (register sh a), RegisterKind) ∷ []

  -- a flow that cannot be is left out
  abbrev pub flow_jump_null : Kind → ℕ → ℕ → List Flow
  flow_jump_null Null a to = (to, sh) ∷ []
  flow_jump_null (Own t age) a to = (suc pc, sh) ∷ []
  flow_jump_null (Maybe t age) a to = (suc pc, set_register sh a (Own t age)) ∷ (to, set_register sh a Null) ∷ []
  flow_jump_null Unset a to = []
  flow_jump_null Word a to = []

  abbrev pub rule_jump_empty : ℕ → List Need
  rule_jump_empty f = (is_some (field_thing p (holder_of p m) f), RegisterKind) ∷ []

  abbrev pub flow_jump_empty : FieldState → ℕ → ℕ → List Flow
  flow_jump_empty Empty f to = (to, sh) ∷ []
  flow_jump_empty Full f to = (suc pc, sh) ∷ []
  flow_jump_empty Perhaps f to = (suc pc, set_field sh f Full) ∷ (to, set_field sh f Empty) ∷ []

  abbrev pub rule_take : ℕ → ℕ → List Need
  rule_take a f = (is_unowning (register sh a), RegisterKind) ∷ (is_some (field_thing p (holder_of p m) f), RegisterKind) ∷ []

  abbrev pub after_take : ℕ → ℕ → AbstractState
  after_take a f = set_register (set_field sh f Empty) a (filled (field_thing p (holder_of p m) f) (field sh f))

  abbrev pub rule_put : ℕ → ℕ → List Need
  rule_put f b =
      (may_be_declared p (field_thing p (holder_of p m) f) (register sh b), RegisterKind)
      ∷ (is_ready_kind (register sh b), StillFresh)
      ∷ (is_empty (field sh f), FieldNotNull)
      ∷ []

  abbrev pub after_put : ℕ → ℕ → AbstractState
  after_put f b = set_field (set_register sh b Null) f (field_state_of (register sh b))

  abbrev pub rule_new : ℕ → List Need
  rule_new a = (is_unowning (register sh a), RegisterKind) ∷ (not (is_quiet p m), QuietBroken) ∷ []

  abbrev pub rule_delete : ℕ → List Need
  rule_delete a = (may_be_destroyed (register sh a), RegisterKind) ∷ []
