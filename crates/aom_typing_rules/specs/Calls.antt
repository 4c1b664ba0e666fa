-- The rules of calls, of returns and of stop.
use Rattle.std.specs.Prelude.{ℕ, zero, suc, ◌+◌, ◌≤◌, Bool, true, false, not, ◌&&◌, ◌==◌, nat_le, nat_lt, List, [], ◌∷◌, ◌++◌, length, replicate, IsSome, Option, Some, None}
use Rattle.aom_image.specs.Image.{Image}
use Rattle.aom_image.specs.Views.{arguments_of, fields_of, gives_of, has, is_quiet, leaves, method_at, method_class, method_role}
use Rattle.aom_instructions.specs.declared.action.Action.{Action}
use Rattle.aom_instructions.specs.declared.action.Action.TheVariants as action
use Rattle.aom_instructions.specs.declared.action.CallMode.TheVariants.{Trapped}
use Rattle.aom_instructions.specs.declared.instr.Target.{Target}
use Rattle.aom_instructions.specs.declared.instr.Target.TheVariants.{This, Register, Field, Entry as On_entry}
use Rattle.aom_image.specs.declared.method.Argument.{Argument}
use Rattle.aom_image.specs.declared.method.Argument.TheVariants.{Word as A_word_argument, Own as An_own_argument}
use Rattle.aom_image.specs.declared.method.Gives.{Gives}
use Rattle.aom_image.specs.declared.method.Gives.TheVariants.{Nothing, Word as A_word, Own as An_own, Maybe as A_maybe, Left}
use Rattle.aom_image.specs.declared.method.Method.{Method}
use Rattle.aom_image.specs.declared.method.Role.{Role}
use Rattle.aom_image.specs.declared.method.Role.TheVariants.{Construct, Destruct}
use Rattle.aom_image.specs.declared.method.Thing.{Thing}
use Rattle.aom_image.specs.declared.method.Thing.TheVariants.{Object, Message}
use Rattle.aom_roles.specs.Tests.{only_if}
use Rattle.aom_roles.specs.Roles.{is_cancel, is_construct, is_service}
use Rattle.aom_roles.specs.Tables.{is_among}
use Rattle.aom_link_conditions.specs.Roles.{role_of}
use Rattle.aom_roles.specs.Families.{parent_of, parent_above, fields_above}
use Rattle.aom_roles.specs.States.{active, cancel_done}
use Rattle.aom_typing_rules.specs.Beginning.{may_begin, resting, unissued}
use Rattle.aom_roles.specs.Things.{Holder, Nobody, Program, Member, field_thing, is_subtype, holder_of}
use Rattle.aom_abstract_state.specs.AbstractState.{AbstractState}
use Rattle.aom_abstract_state.specs.Kinds.{all_empty, is_own_for, entry_kind, register, field, set_register, filled, is_word, is_unowning, is_fresh_kind, is_here, is_ready_kind, made_ready, may_be, none_owns, no_entry}
use Rattle.aom_abstract_state.specs.Entries.{made_ready_at, with_entry}
use Rattle.aom_abstract_state.specs.Arguments.{after_of, arguments_moved}
use Rattle.aom_roles.specs.Tables.{at}
use Rattle.aom_abstract_state.specs.Needs.{Need, Flow, to_next}
use Rattle.aom_abstract_state.specs.declared.kind.InitState.TheVariants.{Ready}
use Rattle.aom_abstract_state.specs.declared.kind.CleanupEntry.{CleanupEntry}
use Rattle.aom_abstract_state.specs.declared.kind.CleanupEntry.TheVariants.{Object as An_object, Operation}
use Rattle.aom_abstract_state.specs.declared.kind.FieldState.{FieldState}
use Rattle.aom_abstract_state.specs.declared.kind.FieldState.TheVariants.{Perhaps}
use Rattle.aom_abstract_state.specs.declared.kind.Kind.{Kind}
use Rattle.aom_abstract_state.specs.declared.kind.Kind.TheVariants.{Word, Null, Own, Maybe}
use Rattle.aom_abstract_state.specs.declared.why.Reason.TheVariants.{RegisterKind, OwnedAtLeave, OwnedAtReturn, CleanupAtReturn, PopEmpty, LeaveNotAllowed, FieldNotNull, FieldsLeft, NotFresh, StillFresh, IssuedAtLeave, IssuedAtReturn, StillActive, NotCancelled, MessageAtLeave, MessageAtReturn, EntryState, QuietBroken}

-- ---- calls

-- a method of the first class may call one of the second class on its own object, and any method a static one
abbrev pub stands_here : Image → Option ℕ → Option ℕ → Bool
stands_here p here None = true
stands_here p None (Some c) = false
stands_here p (Some x) (Some c) = is_subtype p (Object x) (Object c)

-- it owns an object on which a method of that class works
abbrev pub is_target : Image → Option ℕ → Kind → Bool
is_target p None k = false
is_target p (Some c) k = is_own_for p (Object c) k

-- there is such a method, and it is that one
abbrev pub is_that : ℕ → Option ℕ → Bool
is_that m None = false
is_that m (Some k) = k == m

-- it is the method that constructs an object of that class
abbrev pub constructs_thing : Image → ℕ → Thing → Bool
constructs_thing p m (Object c) = is_that m (role_of p c Construct)
constructs_thing p m Message = false

-- it is the one that constructs what is owned
abbrev pub constructs_owned : Image → ℕ → Kind → Bool
constructs_owned p m (Own t a) = constructs_thing p m t
constructs_owned p m _ = false

-- a construct method works on a fresh object of a class that it constructs, another method on a ready one
abbrev pub age_need : Image → ℕ → Bool → Kind → Need
age_need p m true k = (is_fresh_kind k && constructs_owned p m k, NotFresh)
age_need p m false k = (is_ready_kind k, StillFresh)

-- what is asked of an object that a method of that class is called on
abbrev pub object_needs : Image → ℕ → Option ℕ → Bool → Kind → List Need
object_needs p m class constructs k = (is_target p class k, RegisterKind) ∷ age_need p m constructs k ∷ []

abbrev pub constructs_class : Image → ℕ → Option ℕ → Bool
constructs_class p m None = false
constructs_class p m (Some c) = is_that m (role_of p c Construct)

-- the fields that a class declares are null
abbrev pub empty_by : Image → Option ℕ → List FieldState → Bool
empty_by p None xs = true
empty_by p (Some c) xs = all_empty (fields_of p c) xs

-- a construct is called on self by a construct alone, and is that of its class's parent, whose fields are null
abbrev pub above_needs : Image → ℕ → ℕ → Bool → List FieldState → List Need
above_needs p m m' constructs xs =
    (only_if constructs (is_construct (method_role p m) && constructs_class p m' (parent_above p m)), NotFresh)
    ∷ (only_if constructs (empty_by p (parent_above p m) xs), FieldNotNull)
    ∷ []

-- the result has a register to come to
abbrev pub awaits : Gives → Kind → Bool
awaits Nothing k = true
awaits A_word k = is_unowning k
awaits (An_own t) k = is_unowning k
awaits (A_maybe t) k = is_unowning k
awaits (Left c) k = true

-- the state with the result, from the one that holds while the call lasts
abbrev pub brought : Gives → ℕ → AbstractState → AbstractState
brought Nothing c sh = sh
brought A_word c sh = set_register sh c Word
brought (An_own t) c sh = set_register sh c (Own t Ready)
brought (A_maybe t) c sh = set_register sh c (Maybe t Ready)
-- the object that is left is the last entry
brought (Left x) c sh = with_entry (An_object x Ready) sh

-- the state after a trap, which may have left: null or 0 then, and the code in the next register
abbrev pub caught : Gives → ℕ → AbstractState → AbstractState
caught Nothing c sh = set_register sh (suc c) Word
caught A_word c sh = set_register (set_register sh c Word) (suc c) Word
caught (An_own t) c sh = set_register (set_register sh c (Maybe t Ready)) (suc c) Word
caught (A_maybe t) c sh = set_register (set_register sh c (Maybe t Ready)) (suc c) Word
-- no method that leaves an object is called under a trap
caught (Left x) c sh = set_register sh (suc c) Word

-- what is known of one's own object once a method of that class has worked on it and left it in one of these states; a static method works on none
abbrev pub worked_on : Option ℕ → ℕ → AbstractState → AbstractState
worked_on None ended sh = sh
worked_on (Some c) ended sh = record sh { fields = replicate 8 Perhaps; states = ended }

-- while the call of a method of that class lasts, which ends in these states: what a register is called on will be ready
abbrev pub while_called : Target → Option ℕ → ℕ → AbstractState → AbstractState
while_called This class ended sh = worked_on class ended sh
while_called (Register r) class ended sh = set_register sh r (made_ready (register sh r))
while_called (Field f) class ended sh = sh
while_called (On_entry k) class ended sh = record sh { entries = made_ready_at sh.entries k }

-- an argument is a word, or a ready object or a message that may stand for the declared thing
abbrev pub argument_needs : Image → Argument → Kind → List Need
argument_needs p A_word_argument k = (is_word k, RegisterKind) ∷ []
argument_needs p (An_own_argument t) k = (is_own_for p t k, RegisterKind) ∷ (is_ready_kind k, StillFresh) ∷ []

-- each argument in its register, from that one on
abbrev pub each_argument : Image → AbstractState → List Argument → ℕ → List Need
each_argument p sh [] first = []
each_argument p sh (x ∷ xs) first = argument_needs p x (register sh first) ++ each_argument p sh xs (suc first)

-- the last argument is within the registers
abbrev pub rule_arguments : Image → AbstractState → List Argument → ℕ → List Need
rule_arguments p sh xs first = (nat_le (first + length xs) 16, RegisterKind) ∷ each_argument p sh xs first

module _ (p : Image) (m : ℕ) (sh : AbstractState) where
  -- what a method of that number and that class is called on: itself, or an own object of its class that is no argument, fresh for a construct method and else ready
  abbrev pub rule_target : Target → ℕ → Option ℕ → Bool → ℕ → ℕ → List Need
  rule_target This m' class constructs first count = (stands_here p (method_class p m) class, RegisterKind) ∷ above_needs p m m' constructs sh.fields
  rule_target (Register r) m' class constructs first count =
      (is_target p class (register sh r), RegisterKind)
      ∷ (not (is_among first count r), RegisterKind)
      ∷ age_need p m' constructs (register sh r)
      ∷ []
  rule_target (Field f) m' class constructs first count =
      (is_target p class (filled (field_thing p (holder_of p m) f) (field sh f)), RegisterKind)
      ∷ age_need p m' constructs (filled (field_thing p (holder_of p m) f) (field sh f))
      ∷ []
  rule_target (On_entry k) m' class constructs first count =
      (nat_lt k (length sh.entries), PopEmpty)
      ∷ (is_target p class (entry_kind (at Operation sh.entries k)), RegisterKind)
      ∷ age_need p m' constructs (entry_kind (at Operation sh.entries k))
      ∷ []

  -- what is asked once the arguments have moved: the method may begin, a quiet method calls quiet ones, the result has a register, and where the called method may leave, this one may, and nothing is lost by that
  abbrev pub rule_moved : Target → ℕ → ℕ → List Need
  rule_moved target m' c =
      (may_begin p m' target sh.states, EntryState)
      ∷ (only_if (is_quiet p m) (is_quiet p m'), QuietBroken)
      ∷ (awaits (gives_of p m') (register sh c), RegisterKind)
      ∷ (only_if (leaves p m') (leaves p m), LeaveNotAllowed)
      ∷ (only_if (leaves p m') (none_owns sh.registers), OwnedAtLeave)
      ∷ (only_if (leaves p m') (unissued sh.states), IssuedAtLeave)
      ∷ (only_if (leaves p m') (is_here sh.message_state), MessageAtLeave)
      ∷ []

-- what is asked of what a method so declared is called on, and of its arguments
abbrev pub rule_given : Image → ℕ → AbstractState → Target → ℕ → Method → ℕ → List Need
rule_given p m sh target m' d first =
    rule_target p m sh target m' d.class (is_construct (Some d.role)) first (length d.arguments)
    ++ rule_arguments p sh d.arguments first

-- the method that is called or pushed is one of the image
abbrev pub HasCallee : Image → Action → Type 0
HasCallee p (action.Call manner target m' first c) = IsSome (method_at p m')
HasCallee p (action.PushOperation a m') = IsSome (method_at p m')
HasCallee p _ = Unit {0}

-- a trap's code has a register after that of the result
abbrev pub HasCodeRegister : Action → Type 0
HasCodeRegister (action.Call Trapped target m' first c) = c ≤ 14
HasCodeRegister _ = Unit {0}

module _ (p : Image) (m : ℕ) (pc : ℕ) (sh : AbstractState) where
  abbrev pub rule_call : Target → ℕ → ℕ → ℕ → List Need
  rule_call target m' first c =
      rule_target p m sh target m' (method_class p m') (is_construct (method_role p m')) first (length (arguments_of p m'))
      ++ (rule_arguments p sh (arguments_of p m') first
      ++ rule_moved p m (arguments_moved (arguments_of p m') first sh) target m' c)

  -- the state while the call lasts, which ends in these states
  abbrev pub lasting : Target → ℕ → ℕ → ℕ → AbstractState
  lasting target m' first ended = while_called target (method_class p m') ended (arguments_moved (arguments_of p m') first sh)

  -- the state after it
  abbrev pub called : Target → ℕ → ℕ → ℕ → AbstractState
  called target m' first c = brought (gives_of p m') c (lasting target m' first (after_of p m'))

  abbrev pub flow_call : Target → ℕ → ℕ → ℕ → List Flow
  flow_call target m' first c = to_next pc (called target m' first c)

  -- under a trap nothing leaves on, and the code has a register too
  abbrev pub rule_trapped : AbstractState → Target → ℕ → ℕ → List Need
  rule_trapped moved target m' c =
      (may_begin p m' target moved.states, EntryState)
      ∷ (awaits (gives_of p m') (register moved c), RegisterKind)
      ∷ (is_unowning (register moved (suc c)), RegisterKind)
      ∷ []

  abbrev pub rule_trap : Target → ℕ → ℕ → ℕ → List Need
  rule_trap target m' first c =
      (not (is_quiet p m), QuietBroken)
      ∷ (rule_target p m sh target m' (method_class p m') (is_construct (method_role p m')) first (length (arguments_of p m'))
      ++ (rule_arguments p sh (arguments_of p m') first
      ++ rule_trapped (arguments_moved (arguments_of p m') first sh) target m' c))

  -- the state after a trap: a leave may have come at any place of the method
  abbrev pub trapped : Target → ℕ → ℕ → ℕ → AbstractState
  trapped target m' first c = caught (gives_of p m') c (lasting target m' first (resting p (method_class p m')))

  abbrev pub flow_trap : Target → ℕ → ℕ → ℕ → List Flow
  flow_trap target m' first c = to_next pc (trapped target m' first c)

-- ---- returns

-- where an object is left, the last entry is one of its class, ready, and there is no other
abbrev pub leaves_one : Image → ℕ → List CleanupEntry → Bool
leaves_one p c [] = false
leaves_one p c (e ∷ es) = is_own_for p (Object c) (entry_kind e) && (is_ready_kind (entry_kind e) && no_entry es)

-- no cleanup entry is left but the one that the method leaves
abbrev pub entries_done : Image → Gives → List CleanupEntry → Bool
entries_done p Nothing es = no_entry es
entries_done p A_word es = no_entry es
entries_done p (An_own t) es = no_entry es
entries_done p (A_maybe t) es = no_entry es
entries_done p (Left c) es = leaves_one p c es

abbrev pub is_destruct : Option Role → Bool
is_destruct (Some Destruct) = true
is_destruct _ = false

abbrev pub is_destructor : Image → ℕ → Bool
is_destructor p m = is_destruct (method_role p m)

-- the fields that are declared past so many are null
abbrev pub empty_past : ℕ → List Thing → List FieldState → Bool
empty_past zero ts xs = all_empty ts xs
empty_past (suc k) [] xs = true
empty_past (suc k) (t ∷ ts) [] = empty_past k ts []
empty_past (suc k) (t ∷ ts) (x ∷ xs) = empty_past k ts xs

-- a destructor leaves those null that its class has past its parent's: the others are left to the parent's destructor
abbrev pub fields_done : Image → Bool → Holder → List FieldState → Bool
fields_done p true (Member c) xs = empty_past (fields_above p (parent_of p c)) (fields_of p c) xs
fields_done p true Program xs = true
fields_done p true Nobody xs = true
fields_done p false h xs = true

module _ (p : Image) (m : ℕ) (pc : ℕ) (sh : AbstractState) where
  -- the register of the result
  abbrev pub rule_result : Gives → ℕ → List Need
  rule_result Nothing a = (a == 0, RegisterKind) ∷ []
  rule_result A_word a = (is_word (register sh a), RegisterKind) ∷ []
  rule_result (An_own t) a = (is_own_for p t (register sh a), RegisterKind) ∷ (is_ready_kind (register sh a), StillFresh) ∷ []
  rule_result (A_maybe t) a = (may_be p t (register sh a), RegisterKind) ∷ (is_ready_kind (register sh a), StillFresh) ∷ []
  rule_result (Left c) a = (a == 0, RegisterKind) ∷ []

  -- the registers once the result has moved out
  abbrev pub result_moved : Gives → ℕ → AbstractState
  result_moved Nothing a = sh
  result_moved A_word a = sh
  result_moved (An_own t) a = set_register sh a Null
  result_moved (A_maybe t) a = set_register sh a Null
  result_moved (Left c) a = sh

  -- what may be left on the cleanup stack and in the registers
  abbrev pub rule_left : ℕ → List Need
  rule_left a = (entries_done p (gives_of p m) sh.entries, CleanupAtReturn) ∷ (none_owns (result_moved (gives_of p m) a).registers, OwnedAtReturn) ∷ []

  -- how the object and the message are left
  abbrev pub rule_ended : List Need
  rule_ended =
      (unissued sh.states, IssuedAtReturn)
      ∷ (only_if (is_cancel (method_role p m)) (has cancel_done sh.states), NotCancelled)
      ∷ (only_if (is_destructor p m) (not (has sh.states active)), StillActive)
      ∷ (fields_done p (is_destructor p m) (holder_of p m) sh.fields, FieldsLeft)
      ∷ (has (after_of p m) sh.states, EntryState)
      ∷ (only_if (is_service (method_role p m)) (not (is_here sh.message_state)), MessageAtReturn)
      ∷ []

  abbrev pub rule_return : ℕ → List Need
  rule_return a = rule_result (gives_of p m) a ++ (rule_left a ++ rule_ended)
