-- Kinds of registers, fields and cleanup entries, and tests on them.
use Rattle.std.specs.Prelude.{ℕ, Bool, true, false, not, ◌&&◌, List, [], ◌∷◌, Option, Some, None}
use Rattle.aom_image.specs.declared.method.Thing.{Thing}
use Rattle.aom_image.specs.declared.method.Thing.TheVariants.{Object}
use Rattle.aom_image.specs.Image.{Image}
use Rattle.aom_roles.specs.Things.{is_object}
use Rattle.aom_roles.specs.Things.{is_subtype}
use Rattle.aom_roles.specs.Tables.{at, set_extending}
use Rattle.aom_abstract_state.specs.AbstractState.{AbstractState}
use Rattle.aom_abstract_state.specs.declared.kind.InitState.{InitState}
use Rattle.aom_abstract_state.specs.declared.kind.InitState.TheVariants.{Fresh, Ready}
use Rattle.aom_abstract_state.specs.declared.kind.Kind.{Kind}
use Rattle.aom_abstract_state.specs.declared.kind.Kind.TheVariants.{Unset, Word, Null, Own, Maybe}
use Rattle.aom_abstract_state.specs.declared.kind.FieldState.{FieldState}
use Rattle.aom_abstract_state.specs.declared.kind.FieldState.TheVariants.{Empty, Full, Perhaps}
use Rattle.aom_abstract_state.specs.declared.kind.MessageState.{MessageState}
use Rattle.aom_abstract_state.specs.declared.kind.MessageState.TheVariants.{Here, Gone}
use Rattle.aom_abstract_state.specs.declared.kind.CleanupEntry.{CleanupEntry}
use Rattle.aom_abstract_state.specs.declared.kind.CleanupEntry.TheVariants.{Object as An_object, Operation}

-- the kind of a field that is declared for that thing
abbrev pub filled : Option Thing → FieldState → Kind
filled None x = Null
filled (Some t) Empty = Null
filled (Some t) Full = Own t Ready
filled (Some t) Perhaps = Maybe t Ready

abbrev pub field_state_of : Kind → FieldState
field_state_of Null = Empty
field_state_of (Own t a) = Full
field_state_of _ = Perhaps

-- the kind of what a cleanup entry owns
abbrev pub entry_kind : CleanupEntry → Kind
entry_kind (An_object c a) = Own (Object c) a
entry_kind Operation = Null

abbrev pub register : AbstractState → ℕ → Kind
register s i = at Unset s.registers i

abbrev pub field : AbstractState → ℕ → FieldState
field s i = at Perhaps s.fields i

abbrev pub set_register : AbstractState → ℕ → Kind → AbstractState
set_register s i k = record s { registers = set_extending Unset s.registers i k }

abbrev pub set_field : AbstractState → ℕ → FieldState → AbstractState
set_field s i x = record s { fields = set_extending Perhaps s.fields i x }

abbrev pub is_object_or_null : Kind → Bool
is_object_or_null Unset = false
is_object_or_null Word = false
is_object_or_null _ = true

-- an object or null, and no message
abbrev pub may_be_destroyed : Kind → Bool
may_be_destroyed Null = true
may_be_destroyed (Own t a) = is_object t
may_be_destroyed (Maybe t a) = is_object t
may_be_destroyed _ = false

-- what may stand for that thing, or null
abbrev pub may_be : Image → Thing → Kind → Bool
may_be p t Null = true
may_be p t (Own x a) = is_subtype p x t
may_be p t (Maybe x a) = is_subtype p x t
may_be p t _ = false

abbrev pub may_be_declared : Image → Option Thing → Kind → Bool
may_be_declared p None k = false
may_be_declared p (Some t) k = may_be p t k

abbrev pub is_ready : InitState → Bool
is_ready Fresh = false
is_ready Ready = true

-- ready, where it is an object at all
abbrev pub is_ready_kind : Kind → Bool
is_ready_kind (Own t a) = is_ready a
is_ready_kind (Maybe t a) = is_ready a
is_ready_kind _ = true

abbrev pub is_word : Kind → Bool
is_word Word = true
is_word _ = false

-- an object that is fresh
abbrev pub is_fresh_kind : Kind → Bool
is_fresh_kind (Own t a) = not (is_ready a)
is_fresh_kind _ = false

-- the same, ready where it is an object at all
abbrev pub made_ready : Kind → Kind
made_ready (Own t a) = Own t Ready
made_ready (Maybe t a) = Maybe t Ready
made_ready k = k

-- it owns nothing, and perhaps nothing
abbrev pub is_unowning : Kind → Bool
is_unowning (Own t a) = false
is_unowning (Maybe t a) = false
is_unowning _ = true

abbrev pub none_owns : List Kind → Bool
none_owns [] = true
none_owns (k ∷ ks) = is_unowning k && none_owns ks

abbrev pub no_entry : List CleanupEntry → Bool
no_entry [] = true
no_entry (e ∷ es) = false

-- it owns what may stand for that thing
abbrev pub is_own_for : Image → Thing → Kind → Bool
is_own_for p t (Own x a) = is_subtype p x t
is_own_for p t _ = false

abbrev pub is_empty : FieldState → Bool
is_empty Empty = true
is_empty _ = false

-- the fields that a class declares are null
abbrev pub all_empty : List Thing → List FieldState → Bool
all_empty [] xs = true
all_empty (t ∷ ts) [] = false
all_empty (t ∷ ts) (x ∷ xs) = is_empty x && all_empty ts xs

-- nothing has taken the message
abbrev pub is_here : MessageState → Bool
is_here Here = true
is_here Gone = false
