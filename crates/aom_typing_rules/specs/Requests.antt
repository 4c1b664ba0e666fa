-- The rules of instructions on the request of the method's own object.
use Rattle.std.specs.Prelude.{ℕ, not, cond, ◌==◌, List, [], ◌∷◌, Option, bit_and, bit_or, replicate}
use Rattle.aom_image.specs.Image.{Image}
use Rattle.aom_image.specs.Views.{has, method_class}
use Rattle.aom_image.specs.declared.class.ClassKind.{ClassKind}
use Rattle.aom_roles.specs.Kinds.{is_active_kind, is_issuing_kind, is_listed_kind}
use Rattle.aom_roles.specs.Shapes.{kind_of}
use Rattle.aom_roles.specs.States.{unlisted, idle, issued, active, cancel_open, cancel_done, server_states, active_states}
use Rattle.aom_abstract_state.specs.Kinds.{register, is_unowning, is_word}
use Rattle.aom_abstract_state.specs.Needs.{Flow, Need}
use Rattle.aom_abstract_state.specs.AbstractState.{AbstractState}
pub use Rattle.aom_typing_rules.specs.Beginning.{begins_here, begins_there, may_begin, resting, unissued}
use Rattle.aom_abstract_state.specs.declared.kind.FieldState.TheVariants.{Perhaps}
use Rattle.aom_abstract_state.specs.declared.why.Reason.TheVariants.{EntryState, NotAdded, NotIdle, NotIssued, RegisterKind}

-- the kind of class that a method is of
abbrev pub own_kind : Image → ℕ → Option ClassKind
own_kind p m = kind_of p (method_class p m)

-- the request is active, or was so as its cancel began
abbrev pub outstanding : ℕ
outstanding = bit_or active (bit_or cancel_open cancel_done)

-- the request is not active
abbrev pub inactive : ℕ
inactive = bit_or server_states issued

-- the object is enlisted
abbrev pub enlisted : ℕ
enlisted = bit_or (bit_or idle issued) outstanding

-- once the request is cancelled it is idle where it was active, and as it was where not
abbrev pub once_cancelled : ℕ → ℕ
once_cancelled states = cond (has states active) (bit_or (bit_and states server_states) idle) (bit_and states server_states)

-- the method that cancels may have changed the fields
abbrev pub after_cancel : AbstractState → AbstractState
after_cancel sh = record sh { fields = replicate 8 Perhaps; states = once_cancelled sh.states }

-- to a place with the object in these states, and nowhere where there are none
abbrev pub flow_in : AbstractState → ℕ → ℕ → List Flow
flow_in sh place states = cond (states == 0) [] ((place, record sh { states = states }) ∷ [])

-- to a place in those of these states in which the object may be
abbrev pub flow_narrowed : AbstractState → ℕ → ℕ → List Flow
flow_narrowed sh place states = flow_in sh place (bit_and sh.states states)

module _ (p : Image) (m : ℕ) (sh : AbstractState) where
  abbrev pub rule_status : ℕ → List Need
  rule_status a = (is_unowning (register sh a), RegisterKind) ∷ (is_active_kind (own_kind p m), RegisterKind) ∷ []

  abbrev pub rule_jump_active : List Need
  rule_jump_active = (is_active_kind (own_kind p m), RegisterKind) ∷ []

  abbrev pub rule_jump_added : List Need
  rule_jump_added = (is_listed_kind (own_kind p m), RegisterKind) ∷ []

  abbrev pub rule_enlist : List Need
  rule_enlist = (is_listed_kind (own_kind p m), RegisterKind) ∷ (has unlisted sh.states, NotAdded) ∷ []

  abbrev pub rule_issue : ℕ → ℕ → List Need
  rule_issue a b =
      (is_word (register sh a), RegisterKind)
      ∷ (is_word (register sh b), RegisterKind)
      ∷ (is_issuing_kind (own_kind p m), RegisterKind)
      ∷ (not (has sh.states unlisted), NotAdded)
      ∷ (has idle sh.states, NotIdle)
      ∷ []

  abbrev pub rule_set_active : List Need
  rule_set_active = (is_active_kind (own_kind p m), RegisterKind) ∷ (has issued sh.states, NotIssued) ∷ []

  -- no request is made that is not waited for, and none is being cancelled
  abbrev pub rule_cancel : List Need
  rule_cancel = (is_active_kind (own_kind p m), RegisterKind) ∷ (has active_states sh.states, NotIdle) ∷ []

  abbrev pub rule_abort : List Need
  rule_abort = (is_active_kind (own_kind p m), RegisterKind) ∷ (has (bit_or cancel_open cancel_done) sh.states, EntryState) ∷ []
