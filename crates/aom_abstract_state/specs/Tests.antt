-- Tests for the order between kinds and between fillings, what two of them have in common, and whether entries are the same.
use Rattle.std.specs.Prelude.{Bool, true, false, not, cond, ◌&&◌, ◌||◌, ◌==◌, List, [], ◌∷◌, Option, Some, None}
use Rattle.aom_image.specs.declared.method.Thing.{Thing}
use Rattle.aom_roles.specs.Things.{same_thing}
use Rattle.aom_abstract_state.specs.Kinds.{is_empty, is_here, is_word}
use Rattle.aom_abstract_state.specs.declared.kind.InitState.{InitState}
use Rattle.aom_abstract_state.specs.declared.kind.InitState.TheVariants.{Fresh, Ready}
use Rattle.aom_abstract_state.specs.declared.kind.MessageState.{MessageState}
use Rattle.aom_abstract_state.specs.declared.kind.MessageState.TheVariants.{Here, Gone}
use Rattle.aom_abstract_state.specs.declared.kind.Kind.{Kind}
use Rattle.aom_abstract_state.specs.declared.kind.Kind.TheVariants.{Unset, Word, Null, Own, Maybe}
use Rattle.aom_abstract_state.specs.declared.kind.CleanupEntry.{CleanupEntry}
use Rattle.aom_abstract_state.specs.declared.kind.CleanupEntry.TheVariants.{Object as An_object, Operation}
use Rattle.aom_abstract_state.specs.declared.kind.FieldState.{FieldState}
use Rattle.aom_abstract_state.specs.declared.kind.FieldState.TheVariants.{Empty, Full, Perhaps}

abbrev pub same_init_state : InitState → InitState → Bool
same_init_state Fresh Fresh = true
same_init_state Ready Ready = true
same_init_state _ _ = false

abbrev pub same_message_state : MessageState → MessageState → Bool
same_message_state Here d = is_here d
same_message_state Gone d = not (is_here d)

abbrev pub is_unset : Kind → Bool
is_unset Unset = true
is_unset _ = false

-- it says no more than null
abbrev pub may_be_null : Kind → Bool
may_be_null Word = false
may_be_null (Own t a) = false
may_be_null _ = true

-- it says no more than that such an object is owned
abbrev pub may_own : Thing → InitState → Kind → Bool
may_own t a (Own u b) = same_thing u t && same_init_state b a
may_own t a (Maybe u b) = same_thing u t && same_init_state b a
may_own t a _ = false

-- it says no more than that such an object may be owned
abbrev pub may_be_same : Thing → InitState → Kind → Bool
may_be_same t a (Maybe u b) = same_thing u t && same_init_state b a
may_be_same t a _ = false

-- the first kind says no more than the second
abbrev pub implied : Kind → Kind → Bool
implied k Unset = is_unset k
implied k Word = is_unset k || is_word k
implied k Null = may_be_null k
implied k (Own t a) = may_own t a k
implied k (Maybe t a) = may_be_same t a k

-- each kind says no more than the one beside it
abbrev pub all_implied : List Kind → List Kind → Bool
all_implied [] ys = true
all_implied (x ∷ xs) [] = true
all_implied (x ∷ xs) (y ∷ ys) = implied x y && all_implied xs ys

-- the strongest kind below two of which neither says no more than the other
abbrev pub apart : Kind → Kind → Option Kind
apart Word Null = Some Unset
apart Null Word = Some Unset
apart Null (Own t a) = Some (Maybe t a)
apart (Own t a) Null = Some (Maybe t a)
apart _ _ = None

-- the strongest kind that says no more than either
abbrev pub meet_kind : Kind → Kind → Option Kind
meet_kind a b = cond (implied a b) (Some a) (cond (implied b a) (Some b) (apart a b))

abbrev pub is_full : FieldState → Bool
is_full Full = true
is_full _ = false

-- the first filling says no more than the second
abbrev pub implied_field_state : FieldState → FieldState → Bool
implied_field_state Empty x = is_empty x
implied_field_state Full x = is_full x
implied_field_state Perhaps x = true

-- each filling says no more than the one beside it
abbrev pub all_implied_field_states : List FieldState → List FieldState → Bool
all_implied_field_states [] ys = true
all_implied_field_states (x ∷ xs) [] = true
all_implied_field_states (x ∷ xs) (y ∷ ys) = implied_field_state x y && all_implied_field_states xs ys

-- the strongest filling that says no more than either
abbrev pub meet_filling : FieldState → FieldState → FieldState
meet_filling a b = cond (implied_field_state a b) a Perhaps

abbrev pub same_entry : CleanupEntry → CleanupEntry → Bool
same_entry (An_object c a) (An_object d b) = c == d && same_init_state a b
same_entry Operation Operation = true
same_entry _ _ = false

abbrev pub same_entries : List CleanupEntry → List CleanupEntry → Bool
same_entries [] [] = true
same_entries (x ∷ xs) (y ∷ ys) = same_entry x y && same_entries xs ys
same_entries _ _ = false
