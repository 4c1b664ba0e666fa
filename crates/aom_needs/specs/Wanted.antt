-- What an instruction needs, as data, and when it is met: of kinds, of a request that is still active, and of request states.
use Rattle.std.specs.Prelude.{ℕ, Bool, true, false, not, ◌+◌, ◌==◌, List, [], ◌∷◌, Option, Some, None, is_some, length, nat_le, nat_lt, bit_or}
use Rattle.aom_image.specs.Image.{Image}
use Rattle.aom_image.specs.Views.{arguments_of, gives_of, has, method_class, method_role}
use Rattle.aom_image.specs.declared.class.ClassKind.{ClassKind}
use Rattle.aom_roles.specs.Kinds.{is_active_kind, is_issuing_kind, is_listed_kind, is_native_kind, is_token_kind}
use Rattle.aom_roles.specs.Roles.{is_service}
use Rattle.aom_roles.specs.States.{active, cancel_done, cancel_open}
use Rattle.aom_roles.specs.Tables.{at, is_among}
use Rattle.aom_roles.specs.Tests.{only_if}
use Rattle.aom_roles.specs.Things.{field_thing, holder_of, word_count}
use Rattle.aom_abstract_state.specs.AbstractState.{AbstractState}
use Rattle.aom_abstract_state.specs.Arguments.{after_of}
use Rattle.aom_abstract_state.specs.Kinds.{entry_kind, field, filled, is_here, is_object_or_null, is_own_for, is_unowning, is_word, may_be, may_be_destroyed, register}
use Rattle.aom_abstract_state.specs.Needs.{Need}
use Rattle.aom_abstract_state.specs.declared.kind.CleanupEntry.TheVariants.{Operation}
use Rattle.aom_abstract_state.specs.declared.kind.Kind.{Kind}
use Rattle.aom_abstract_state.specs.declared.why.Reason.{Reason}
use Rattle.aom_abstract_state.specs.declared.why.Reason.TheVariants.{EntryState, RegisterKind, StillActive}
use Rattle.aom_typing_rules.specs.Beginning.{may_begin}
use Rattle.aom_typing_rules.specs.Calls.{awaits, is_destructor, stands_here}
use Rattle.aom_typing_rules.specs.Cleanup.{owns_object, top_matches_object, top_matches_operation}
use Rattle.aom_typing_rules.specs.Requests.{own_kind}
use Rattle.aom_typing_rules.specs.RuleContext.{RuleContext}
use Rattle.aom_needs.specs.declared.wanted.ClassNeed.{ClassNeed}
use Rattle.aom_needs.specs.declared.wanted.ClassNeed.TheVariants as classes
use Rattle.aom_needs.specs.declared.wanted.Operand.{Operand}
use Rattle.aom_needs.specs.declared.wanted.Operand.TheVariants as operands
use Rattle.aom_needs.specs.declared.wanted.Wanted.{Wanted}
use Rattle.aom_needs.specs.declared.wanted.Wanted.TheVariants as want

-- the reasons for which a sentence is told
abbrev pub is_told : Reason → Bool
is_told RegisterKind = true
is_told StillActive = true
is_told EntryState = true
is_told _ = false

-- a class of that kind has the instruction in its methods
abbrev pub is_class : ClassNeed → Option ClassKind → Bool
is_class classes.Active k = is_active_kind k
is_class classes.Issuing k = is_issuing_kind k
is_class classes.Listed k = is_listed_kind k
is_class classes.Native k = is_native_kind k
is_class classes.Token k = is_token_kind k

-- being cancelled
abbrev pub cancelling : ℕ
cancelling = bit_or cancel_open cancel_done

module _ (p : Image) (m : ℕ) (sh : AbstractState) where
  -- what an operand holds
  abbrev pub held : Operand → Kind
  held (operands.Register r) = register sh r
  held (operands.Field f) = filled (field_thing p (holder_of p m) f) (field sh f)
  held (operands.Entry k) = entry_kind (at Operation sh.entries k)

  abbrev pub is_met : Wanted → Bool
  is_met (want.Word r) = is_word (register sh r)
  is_met (want.Unowning r) = is_unowning (register sh r)
  is_met (want.ObjectOrNull r) = is_object_or_null (register sh r)
  is_met (want.Deletable r) = may_be_destroyed (register sh r)
  is_met (want.Pushable r) = owns_object (register sh r)
  is_met (want.Owner x t) = is_own_for p t (held x)
  is_met (want.OwnerOrNull r t) = may_be p t (register sh r)
  is_met (want.ObjectWord w) = nat_lt w (word_count p (holder_of p m))
  is_met (want.Field f) = is_some (field_thing p (holder_of p m) f)
  is_met (want.MethodOfObjects m') = false
  is_met (want.OwnObject m') = stands_here p (method_class p m) (method_class p m')
  is_met (want.NoArgument r first m') = not (is_among first (length (arguments_of p m')) r)
  is_met (want.Arguments m' first) = nat_le (first + length (arguments_of p m')) 16
  is_met (want.ResultRegister m' c) = awaits (gives_of p m') (register sh c)
  is_met (want.NoResult a) = a == 0
  is_met want.LastObject = top_matches_object sh.entries
  is_met want.LastOperation = top_matches_operation sh.entries
  is_met want.Service = is_service (method_role p m)
  is_met want.Message = is_here sh.message_state
  is_met (want.OfClass need) = is_class need (own_kind p m)
  is_met (want.Begin m' target) = may_begin p m' target sh.states
  is_met want.End = has (after_of p m) sh.states
  is_met want.Cancelling = has cancelling sh.states
  is_met want.Inactive = only_if (is_destructor p m) (not (has sh.states active))

-- why an instruction is refused where that is not met
abbrev pub reason_of : Wanted → Reason
reason_of (want.Begin m' target) = EntryState
reason_of want.End = EntryState
reason_of want.Cancelling = EntryState
reason_of want.Inactive = StillActive
reason_of _ = RegisterKind

-- the need that it is
abbrev pub need_of : Image → ℕ → AbstractState → Wanted → Need
need_of p m sh w = (is_met p m sh w, reason_of w)

-- the first that is not met
abbrev pub unmet_or : Bool → Wanted → Option Wanted → Option Wanted
unmet_or true w next = next
unmet_or false w next = Some w

abbrev pub first_unmet : Image → ℕ → AbstractState → List Wanted → Option Wanted
first_unmet p m sh [] = None
first_unmet p m sh (w ∷ ws) = unmet_or (is_met p m sh w) w (first_unmet p m sh ws)

-- at a place
abbrev pub first_at : RuleContext → List Wanted → Option Wanted
first_at s ws = first_unmet s.image s.method s.shape ws
