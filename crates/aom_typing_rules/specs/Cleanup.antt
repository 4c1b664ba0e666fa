-- The rules of the cleanup stack, and of leaves.
use Rattle.std.specs.Prelude.{ℕ, Bool, false, not, List, [], ◌∷◌}
use Rattle.aom_image.specs.Image.{Image}
use Rattle.aom_image.specs.Views.{is_quiet}
use Rattle.aom_image.specs.declared.method.Thing.{Thing}
use Rattle.aom_image.specs.declared.method.Thing.TheVariants.{Object, Message}
use Rattle.aom_roles.specs.Things.{is_object}
use Rattle.aom_abstract_state.specs.AbstractState.{AbstractState}
use Rattle.aom_abstract_state.specs.Entries.{is_object_entry, with_entry, without_entry}
use Rattle.aom_abstract_state.specs.Kinds.{register, set_register, entry_kind, is_unowning, is_word, no_entry}
use Rattle.aom_typing_rules.specs.RuleContext.{leave_point}
use Rattle.aom_abstract_state.specs.Needs.{Need}
use Rattle.aom_abstract_state.specs.declared.kind.InitState.{InitState}
use Rattle.aom_abstract_state.specs.declared.kind.Kind.{Kind}
use Rattle.aom_abstract_state.specs.declared.kind.Kind.TheVariants.{Null, Own}
use Rattle.aom_abstract_state.specs.declared.kind.CleanupEntry.{CleanupEntry}
use Rattle.aom_abstract_state.specs.declared.kind.CleanupEntry.TheVariants.{Object as An_object, Operation}
use Rattle.aom_abstract_state.specs.declared.why.Reason.TheVariants.{RegisterKind, PopEmpty, QuietBroken}

-- it owns an object, which is no message
abbrev pub owns_object : Kind → Bool
owns_object (Own t a) = is_object t
owns_object _ = false

-- the entry of an object that is pushed
abbrev pub thing_entry : Thing → InitState → CleanupEntry
thing_entry (Object c) a = An_object c a
thing_entry Message a = Operation

abbrev pub entry_of : Kind → CleanupEntry
entry_of (Own t a) = thing_entry t a
entry_of _ = Operation

-- there is a last entry, and it passes that test
abbrev pub top_matches : (CleanupEntry → Bool) → List CleanupEntry → Bool
top_matches test [] = false
top_matches test (e ∷ es) = test e

abbrev pub top_matches_object : List CleanupEntry → Bool
top_matches_object es = top_matches is_object_entry es

abbrev pub top_matches_operation : List CleanupEntry → Bool
top_matches_operation es = top_matches (λ e. not (is_object_entry e)) es

-- what the last entry owns
abbrev pub top_kind : List CleanupEntry → Kind
top_kind [] = Null
top_kind (e ∷ es) = entry_kind e

module _ (p : Image) (m : ℕ) (pc : ℕ) (sh : AbstractState) where
  abbrev pub rule_new_or_leave : ℕ → List Need
  rule_new_or_leave a = (is_unowning (register sh a), RegisterKind) ∷ (not (is_quiet p m), QuietBroken) ∷ leave_point p m pc sh sh

  -- the object is on the cleanup stack before the push may leave
  abbrev pub rule_push : ℕ → List Need
  rule_push a = (owns_object (register sh a), RegisterKind) ∷ leave_point p m pc sh (set_register sh a Null)

  abbrev pub after_push : ℕ → AbstractState
  after_push a = with_entry (entry_of (register sh a)) (set_register sh a Null)

  abbrev pub rule_push_operation : ℕ → List Need
  rule_push_operation a = (is_word (register sh a), RegisterKind) ∷ leave_point p m pc sh sh

  abbrev pub rule_pop : ℕ → List Need
  rule_pop a =
      (is_unowning (register sh a), RegisterKind)
      ∷ (not (no_entry sh.entries), PopEmpty)
      ∷ (top_matches_object sh.entries, RegisterKind)
      ∷ []

  abbrev pub after_pop : ℕ → AbstractState
  after_pop a = set_register (without_entry sh) a (top_kind sh.entries)

  abbrev pub rule_pop_operation : List Need
  rule_pop_operation = (not (no_entry sh.entries), PopEmpty) ∷ (top_matches_operation sh.entries, RegisterKind) ∷ []

  -- an object is destroyed, and an operation is run
  abbrev pub rule_pop_delete : List Need
  rule_pop_delete = (not (no_entry sh.entries), PopEmpty) ∷ []

  -- of the two instructions that leave with a word, one of them where it is negative
  abbrev pub rule_leave : ℕ → List Need
  rule_leave a = (is_word (register sh a), RegisterKind) ∷ leave_point p m pc sh sh
