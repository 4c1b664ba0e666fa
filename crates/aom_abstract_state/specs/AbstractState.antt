-- An abstract state, as contracts see it.
use Rattle.std.specs.Prelude.{ℕ, List}
use Rattle.aom_abstract_state.specs.declared.kind.Kind.{Kind}
use Rattle.aom_abstract_state.specs.declared.kind.FieldState.{FieldState}
use Rattle.aom_abstract_state.specs.declared.kind.CleanupEntry.{CleanupEntry}
use Rattle.aom_abstract_state.specs.declared.kind.MessageState.{MessageState}

pub record AbstractState : Type 0 where
  pub registers : List Kind
  pub fields : List FieldState
  -- the method's own cleanup entries, the last one first
  pub entries : List CleanupEntry
  -- the object of the method is in one of these request states: a set of them, empty where it has none
  pub states : ℕ
  -- what became of the message of a service
  pub message_state : MessageState

-- what is known, its cleanup entries aside
pub record Known : Type 0 where
  pub registers : List Kind
  pub fields : List FieldState
  pub states : ℕ
  pub message_state : MessageState
