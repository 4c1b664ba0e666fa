-- The rules are monotone: each instruction's needs and flows, from a state to one that says more.
use Rattle.std.proofs.lemmas.Bool.Decides.{nat_tests}
use Rattle.std.proofs.Common.{arith, ◌≡◌, ◌≤◌, ℕ, suc, Bool, true, false, not, ◌&&◌, IsTrue, sym, cond, ◌==◌, List, [], ◌∷◌, ◌++◌, length, Option, Some}
use Rattle.std.proofs.Common.{None, inl, inr, refl, ap, ◌∙◌}
use Rattle.std.proofs.lemmas.Bool.{false≢true, eqb-true}
use Rattle.std.specs.Prelude.{bit_and, bit_or}
use Rattle.aom_image.specs.Image.{Image}
use Rattle.aom_image.specs.Views.{arguments_of, gives_of, has, leaves, method_class, method_role}
use Rattle.aom_instructions.specs.declared.instr.Instr.{Instr}
use Rattle.aom_instructions.specs.declared.instr.Target.{Target}
use Rattle.aom_instructions.specs.declared.instr.Target.TheVariants.{This, Register, Field, Entry as On_entry}
use Rattle.aom_image.specs.declared.method.Argument.{Argument}
use Rattle.aom_image.specs.declared.method.Argument.TheVariants.{Word as A_word_argument, Own as An_own_argument}
use Rattle.aom_image.specs.declared.method.Gives.{Gives}
use Rattle.aom_image.specs.declared.method.Gives.TheVariants.{Nothing, Word as A_word, Own as An_own, Maybe as A_maybe, Left}
use Rattle.aom_image.specs.declared.method.Thing.{Thing}
use Rattle.aom_image.specs.declared.method.Thing.TheVariants.{Message}
use Rattle.aom_roles.specs.Tests.{AllTrue, only_if}
use Rattle.aom_roles.specs.Roles.{is_cancel, is_construct, is_service}
use Rattle.aom_roles.specs.States.{active, active_states, cancel_done, cancel_open, idle, issued, server_states, unlisted}
use Rattle.aom_typing_rules.specs.Requests.{flow_in, flow_narrowed, may_begin, once_cancelled, resting, unissued}
use Rattle.aom_typing_rules.specs.RuleContext.{leave_point}
use Rattle.aom_typing_rules.specs.Calls.{rule_call, rule_trap, constructs_owned, empty_by, is_destructor, is_target, age_need, awaits, brought, caught, worked_on, while_called}
use Rattle.aom_typing_rules.specs.Calls.{argument_needs, each_argument, rule_target, rule_arguments, rule_moved, rule_trapped, fields_done, rule_ended, rule_left}
use Rattle.aom_typing_rules.specs.Calls.{rule_result, rule_return, result_moved, lasting}
use Rattle.aom_abstract_state.specs.Entries.{without_top, with_entry, without_entry}
use Rattle.aom_abstract_state.specs.Arguments.{after_of, argument_moved, arguments_moved}
use Rattle.aom_typing_rules.specs.Cleanup.{owns_object, entry_of, top_kind}
use Rattle.aom_abstract_state.specs.Kinds.{is_word, is_unowning, may_be_destroyed, is_own_for, is_ready_kind, may_be_declared, is_empty}
use Rattle.aom_abstract_state.specs.Kinds.{register, field, set_register, set_field, filled, field_state_of, is_fresh_kind, is_here, is_object_or_null, none_owns, made_ready}
use Rattle.aom_typing_rules.specs.Laws.{AllFollow, Follows}
use Rattle.aom_abstract_state.specs.Needs.{Flow, Need}
use Rattle.aom_typing_rules.specs.Objects.{flow_jump_null, flow_jump_empty}
use Rattle.aom_typing_rules.specs.Words.{rule_copy, rule_combine, rule_compare}
use Rattle.aom_roles.specs.Tables.{at, set_extending}
use Rattle.aom_abstract_state.specs.Order.{Weaker, WeakerFilling, IsImpliedBy}
use Rattle.aom_abstract_state.specs.Order.Weaker.{alike, unset_word, unset_null, maybe_null, maybe_own}
use Rattle.aom_abstract_state.specs.Order.WeakerFilling.{alike_filling, perhaps_empty, perhaps_full}
use Rattle.aom_typing_rules.specs.Rules.{rule_needs, flows, ways_of}
use Rattle.aom_abstract_state.specs.AbstractState.{AbstractState}
use Rattle.aom_typing_rules.specs.Ways.{As_before, Called, Cancelled, Caught, Dropped, Filled}
use Rattle.aom_typing_rules.specs.Ways.{Handed, Goes_on, Holding, Left_in, Moved, News, Popped, Pushed, Pushed_operation, Taken, Taken_message}
use Rattle.aom_typing_rules.specs.Ways.{Ways, after, flowing}
use Rattle.aom_roles.specs.Things.{Holder, field_thing, holder_of}
use Rattle.aom_abstract_state.specs.declared.kind.InitState.TheVariants.{Ready}
use Rattle.aom_abstract_state.specs.declared.kind.CleanupEntry.{CleanupEntry}
use Rattle.aom_abstract_state.specs.declared.kind.CleanupEntry.TheVariants.{Object as An_object, Operation}
use Rattle.aom_abstract_state.specs.declared.kind.Kind.{Kind}
use Rattle.aom_abstract_state.specs.declared.kind.Kind.TheVariants.{Unset, Word, Null, Own, Maybe}
use Rattle.aom_abstract_state.specs.declared.kind.FieldState.{FieldState}
use Rattle.aom_abstract_state.specs.declared.kind.FieldState.TheVariants.{Empty, Full, Perhaps}
use Rattle.aom_typing_rules.proofs.Ways.{Allows, allows}
use Rattle.aom_typing_rules.proofs.AbstractStateLemmas.{at-set_extending, has_along, has_both, has_first, has_itself, has_second, has_shared}
use Rattle.aom_typing_rules.proofs.Reporting.{made_ready_more, word_more, unowning_more, object_or_null_more, destroyed_more, ready_more, own_more, may_be_more}
use Rattle.aom_typing_rules.proofs.Reporting.{declared_more, empty_more, filled_more, filling_more, none_owns_more, all_empty_more, past_empty_more}

-- what holds of two tables, entry by entry
module _ {A : Type 0} (R : A → A → Type 0) (z : A) (xs ys : List A) (i : ℕ) (h : (j : ℕ) → R (at z xs j) (at z ys j)) where
  -- holds where both are written alike
  both_written : (x y : A) → R x y → (j : ℕ) → R (at z (set_extending z xs i x) j) (at z (set_extending z ys i y) j)
  both_written x y w j = rw (at-set_extending z xs i j x, at-set_extending z ys i j y) (go (i == j))
    where
      go : (c : Bool) → R (cond c x (at z xs j)) (cond c y (at z ys j))
      go true = w
      go false = h j

  -- and where the first is written with what the second has there
  first_written : (x : A) → R x (at z ys i) → (j : ℕ) → R (at z (set_extending z xs i x) j) (at z ys j)
  first_written x w j = rw (at-set_extending z xs i j x) (go (i == j) refl)
    where
      go : (c : Bool) → (i == j) ≡ c → R (cond c x (at z xs j)) (at z ys j)
      go true e = rw (← eqb-true i j e) w
      go false e = h j

-- two states with other registers, or with other fields
with_registers : (a b : AbstractState) (xs ys : List Kind) → IsImpliedBy a b → ((j : ℕ) → Weaker (at Unset xs j) (at Unset ys j)) →
    IsImpliedBy (record a { registers = xs }) (record b { registers = ys })
with_registers a b xs ys h more = record { registers = more; fields = h.fields; entries = h.entries; states = h.states; message_state = h.message_state }

with_fields : (a b : AbstractState) (xs ys : List FieldState) → IsImpliedBy a b → ((j : ℕ) → WeakerFilling (at Perhaps xs j) (at Perhaps ys j)) →
    IsImpliedBy (record a { fields = xs }) (record b { fields = ys })
with_fields a b xs ys h more = record { registers = h.registers; fields = more; entries = h.entries; states = h.states; message_state = h.message_state }

-- written alike
pub register_more : (a b : AbstractState) (i : ℕ) (k l : Kind) → IsImpliedBy a b → Weaker k l → IsImpliedBy (set_register a i k) (set_register b i l)
register_more a b i k l h w = with_registers a b _ _ h (both_written Weaker Unset a.registers b.registers i h.registers k l w)

pub field_more : (a b : AbstractState) (i : ℕ) (x y : FieldState) → IsImpliedBy a b → WeakerFilling x y → IsImpliedBy (set_field a i x) (set_field b i y)
field_more a b i x y h w = with_fields a b _ _ h (both_written WeakerFilling Perhaps a.fields b.fields i h.fields x y w)

-- written with what a state that says more has there
pub register_reported : (a b : AbstractState) (i : ℕ) (k : Kind) → IsImpliedBy a b → Weaker k (register b i) → IsImpliedBy (set_register a i k) b
register_reported a b i k h w = with_registers a b _ _ h (first_written Weaker Unset a.registers b.registers i h.registers k w)

pub field_reported : (a b : AbstractState) (i : ℕ) (x : FieldState) → IsImpliedBy a b → WeakerFilling x (field b i) → IsImpliedBy (set_field a i x) b
field_reported a b i x h w = with_fields a b _ _ h (first_written WeakerFilling Perhaps a.fields b.fields i h.fields x w)

copy_more : (pc : ℕ) (a b : AbstractState) (r s : ℕ) → IsImpliedBy a b → AllTrue (rule_copy pc a r s) → AllTrue (rule_copy pc b r s)
copy_more pc a b r s h n = search (arith, nat_tests, word_more, h.registers s, unowning_more, h.registers r)

combine_more : (pc : ℕ) (a b : AbstractState) (r s t : ℕ) → IsImpliedBy a b → AllTrue (rule_combine pc a r s t) → AllTrue (rule_combine pc b r s t)
combine_more pc a b r s t h n = search (arith, nat_tests, word_more, h.registers s, h.registers t, unowning_more, h.registers r)

compare_more : (pc : ℕ) (a b : AbstractState) (r s : ℕ) → IsImpliedBy a b → AllTrue (rule_compare pc a r s) → AllTrue (rule_compare pc b r s)
compare_more pc a b r s h n = (word_more (register a r) (register b r) (h.registers r) n.0, (word_more (register a s) (register b s) (h.registers s) n.1.0, tt))

result_more : (p : Image) (m pc : ℕ) (a b : AbstractState) (g : Gives) (r : ℕ) → IsImpliedBy a b → AllTrue (rule_result p m pc a g r) → AllTrue (rule_result p m pc b g r)
result_more p m pc a b x r h n = grind (arith, nat_tests, word_more, own_more p, ready_more, may_be_more p)

moved_more : (p : Image) (m pc : ℕ) (a b : AbstractState) (g : Gives) (r : ℕ) → IsImpliedBy a b → IsImpliedBy (result_moved p m pc a g r) (result_moved p m pc b g r)
moved_more p m pc a b (An_own t) r h = register_more a b r Null Null h alike
moved_more p m pc a b (A_maybe t) r h = register_more a b r Null Null h alike
moved_more p m pc a b _ r h = h

done_more : (p : Image) (d : Bool) (o : Holder) (a b : AbstractState) → IsImpliedBy a b → fields_done p d o a.fields ≡ true → fields_done p d o b.fields ≡ true
done_more p x o a b h n = grind (arith, nat_tests, past_empty_more)

all_true_first : (xs ys : List Need) → AllTrue (xs ++ ys) → AllTrue xs
all_true_first [] ys h = tt
all_true_first (x ∷ xs) ys h = (h.0, all_true_first xs ys h.1)

all_true_rest : (xs ys : List Need) → AllTrue (xs ++ ys) → AllTrue ys
all_true_rest [] ys h = h
all_true_rest (x ∷ xs) ys h = all_true_rest xs ys h.1

all_true_both : (xs ys : List Need) → AllTrue xs → AllTrue ys → AllTrue (xs ++ ys)
all_true_both [] ys h k = k
all_true_both (x ∷ xs) ys h k = (h.0, all_true_both xs ys h.1 k)

only_if_more : (asked x y : Bool) → (x ≡ true → y ≡ true) → only_if asked x ≡ true → only_if asked y ≡ true
only_if_more x y z f h = grind arith

-- a call's target
target_more : (p : Image) (class : Option ℕ) (k l : Kind) → Weaker k l → is_target p class k ≡ true → is_target p class l ≡ true
target_more p x k l w h = grind (arith, nat_tests, own_more p)

-- what is fresh is known to be owned, and of which class
built_more : (p : Image) (m' : ℕ) (k l : Kind) → Weaker k l → (is_fresh_kind k && constructs_owned p m' k) ≡ true →
    (is_fresh_kind l && constructs_owned p m' l) ≡ true
built_more p m' k l alike h = h
built_more p m' _ _ _ h = absurd (false≢true h)

age_more : (p : Image) (m' : ℕ) (constructs : Bool) (k l : Kind) → Weaker k l → (age_need p m' constructs k).0 ≡ true → (age_need p m' constructs l).0 ≡ true
age_more p m' x k l w h = grind (arith, nat_tests, built_more, ready_more)

empty_by_more : (p : Image) (c : Option ℕ) (a b : AbstractState) → IsImpliedBy a b → empty_by p c a.fields ≡ true → empty_by p c b.fields ≡ true
empty_by_more p x a b h n = grind (arith, nat_tests, all_empty_more)

called_on_more : (p : Image) (m : ℕ) (a b : AbstractState) (target : Target) (m' : ℕ) (class : Option ℕ) (constructs : Bool) (first count : ℕ) → IsImpliedBy a b →
    AllTrue (rule_target p m a target m' class constructs first count) → AllTrue (rule_target p m b target m' class constructs first count)
called_on_more p m a b x m' class constructs first count h n = grind (arith, empty_by_more p, age_more p m' constructs)

-- its arguments
argument_more : (p : Image) (x : Argument) (k l : Kind) → Weaker k l → AllTrue (argument_needs p x k) → AllTrue (argument_needs p x l)
argument_more p x k l w n = grind (arith, nat_tests, word_more, own_more, ready_more)

arguments_more : (p : Image) (a b : AbstractState) (xs : List Argument) (first : ℕ) → IsImpliedBy a b → AllTrue (each_argument p a xs first) →
    AllTrue (each_argument p b xs first)
arguments_more p a b [] first h n = tt
arguments_more p a b (x ∷ xs) first h n = grind (arith, argument_more p x, arguments_more p a b xs)

argument_moved_more : (x : Argument) (r : ℕ) (a b : AbstractState) → IsImpliedBy a b → IsImpliedBy (argument_moved x r a) (argument_moved x r b)
argument_moved_more A_word_argument r a b h = h
argument_moved_more (An_own_argument t) r a b h = register_more a b r Null Null h alike

arguments_moved_more : (xs : List Argument) (first : ℕ) (a b : AbstractState) → IsImpliedBy a b → IsImpliedBy (arguments_moved xs first a) (arguments_moved xs first b)
arguments_moved_more [] first a b h = h
arguments_moved_more (x ∷ xs) first a b h =
    arguments_moved_more xs (suc first) (argument_moved x first a) (argument_moved x first b) (argument_moved_more x first a b h)

-- and what is asked once they have moved
awaits_more : (g : Gives) (k l : Kind) → Weaker k l → awaits g k ≡ true → awaits g l ≡ true
awaits_more x k l w h = grind (arith, nat_tests, unowning_more)

-- fewer request states, and the same message
has_not_more : (s t x : ℕ) → IsTrue (has s t) → not (has s x) ≡ true → not (has t x) ≡ true
has_not_more s t x h n = grind (arith, nat_tests, has_along s t x h)

begins_more : (p : Image) (m' : ℕ) (target : Target) (s t : ℕ) → IsTrue (has s t) → may_begin p m' target s ≡ true → may_begin p m' target t ≡ true
begins_more p m' x s t h n = grind (arith, nat_tests, has_along)

here_more : (a b : AbstractState) → IsImpliedBy a b → is_here a.message_state ≡ true → is_here b.message_state ≡ true
here_more a b h n = ap is_here (sym h.message_state) ∙ n

moved_needs_more : (p : Image) (m : ℕ) (a b : AbstractState) (target : Target) (m' c : ℕ) → IsImpliedBy a b → AllTrue (rule_moved p m a target m' c) →
    AllTrue (rule_moved p m b target m' c)
moved_needs_more p m a b target m' c h n =
    let leave = n.1.1.1 in
    let unowned = only_if_more (leaves p m') (none_owns a.registers) (none_owns b.registers) (none_owns_more a.registers b.registers h.registers) leave.1.0 in
    let still = only_if_more (leaves p m') (unissued a.states) (unissued b.states) (has_not_more a.states b.states issued h.states) leave.1.1.0 in
    let untaken = only_if_more (leaves p m') (is_here a.message_state) (is_here b.message_state) (here_more a b h) leave.1.1.1.0 in (
      begins_more p m' target a.states b.states h.states n.0,
      (n.1.0, (awaits_more (gives_of p m') (register a c) (register b c) (h.registers c) n.1.1.0, (leave.0, (unowned, (still, (untaken, tt)))))),
    )

-- what a call and a trap ask of their target and of their arguments
entering_more : (p : Image) (m : ℕ) (a b : AbstractState) (target : Target) (m' first : ℕ) (x y : List Need) → IsImpliedBy a b →
    (AllTrue x → AllTrue y) → AllTrue (rule_target p m a target m' (method_class p m') (is_construct (method_role p m')) first (length (arguments_of p m'))
    ++ (rule_arguments p a (arguments_of p m') first ++ x)) → AllTrue (rule_target p m b target m' (method_class p m') (is_construct (method_role p m')) first
    (length (arguments_of p m')) ++ (rule_arguments p b (arguments_of p m') first ++ y))
entering_more p m a b target m' first x y h more n =
    grind (arith, all_true_rest, all_true_first, all_true_both, called_on_more p m a b target m', arguments_more p a b)

call_more : (p : Image) (m pc : ℕ) (a b : AbstractState) (target : Target) (m' first c : ℕ) →
    IsImpliedBy a b → AllTrue (rule_call p m pc a target m' first c) → AllTrue (rule_call p m pc b target m' first c)
call_more p m pc a b target m' first c h n =
    let moved = λ (s : AbstractState). arguments_moved (arguments_of p m') first s in
    entering_more p m a b target m' first (rule_moved p m (moved a) target m' c)
    (rule_moved p m (moved b) target m' c) h (moved_needs_more p m (moved a) (moved b) target m' c (arguments_moved_more (arguments_of p m') first a b h)) n

-- one entry more, or one less
entry_more : (d e : CleanupEntry) (a b : AbstractState) → IsImpliedBy a b → d ≡ e → IsImpliedBy (with_entry d a) (with_entry e b)
entry_more d e a b h same = search (arith, nat_tests)

entry_less : (a b : AbstractState) → IsImpliedBy a b → IsImpliedBy (without_entry a) (without_entry b)
entry_less a b h = record { registers = h.registers; fields = h.fields; entries = ap without_top h.entries; states = h.states; message_state = h.message_state }

-- what a call leaves
brought_more : (g : Gives) (c : ℕ) (a b : AbstractState) → IsImpliedBy a b → IsImpliedBy (brought g c a) (brought g c b)
brought_more Nothing c a b h = h
brought_more A_word c a b h = register_more a b c Word Word h alike
brought_more (An_own t) c a b h = register_more a b c (Own t Ready) (Own t Ready) h alike
brought_more (A_maybe t) c a b h = register_more a b c (Maybe t Ready) (Maybe t Ready) h alike
brought_more (Left x) c a b h = entry_more (An_object x Ready) (An_object x Ready) a b h refl

worked_more : (class : Option ℕ) (ended : ℕ) (a b : AbstractState) → IsImpliedBy a b → IsImpliedBy (worked_on class ended a) (worked_on class ended b)
worked_more None ended a b h = h
worked_more (Some c) ended a b h =
    record { registers = h.registers; fields = λ i. alike_filling; entries = h.entries; states = has_itself ended; message_state = h.message_state }

called_more : (target : Target) (class : Option ℕ) (ended : ℕ) (a b : AbstractState) → IsImpliedBy a b →
    IsImpliedBy (while_called target class ended a) (while_called target class ended b)
called_more This class ended a b h = worked_more class ended a b h
called_more (Register r) class ended a b h =
    register_more a b r (made_ready (register a r)) (made_ready (register b r)) h (made_ready_more (register a r) (register b r) (h.registers r))
called_more (Field f) class ended a b h = h
called_more (On_entry k) class ended a b h = search (arith, nat_tests)

-- what a trap asks and leaves
trapped_more : (p : Image) (m pc : ℕ) (x y a b : AbstractState) (target : Target) (m' c : ℕ) → IsImpliedBy a b → AllTrue (rule_trapped p m pc x a target m' c) →
    AllTrue (rule_trapped p m pc y b target m' c)
trapped_more p m pc x y a b target m' c h n = (begins_more p m' target a.states b.states h.states n.0, grind (arith, nat_tests, awaits_more, unowning_more))

trap_more : (p : Image) (m pc : ℕ) (a b : AbstractState) (target : Target) (m' first c : ℕ) →
    IsImpliedBy a b → AllTrue (rule_trap p m pc a target m' first c) → AllTrue (rule_trap p m pc b target m' first c)
trap_more p m pc a b target m' first c h n =
    let moved = λ (s : AbstractState). arguments_moved (arguments_of p m') first s in (
      n.0,
      entering_more p m a b target m' first (rule_trapped p m pc a (moved a) target m' c) (rule_trapped p m pc b (moved b) target m' c) h
          (trapped_more p m pc a b (moved a) (moved b) target m' c (arguments_moved_more (arguments_of p m') first a b h)) n.1,
    )

caught_more : (g : Gives) (c : ℕ) (a b : AbstractState) → IsImpliedBy a b → IsImpliedBy (caught g c a) (caught g c b)
caught_more A_word c a b h = register_more (set_register a c Word) (set_register b c Word) (suc c) Word Word (register_more a b c Word Word h alike) alike
caught_more (An_own t) c a b h = register_more
    (set_register a c (Maybe t Ready)) (set_register b c (Maybe t Ready)) (suc c) Word Word (register_more a b c (Maybe t Ready) (Maybe t Ready) h alike) alike
caught_more (A_maybe t) c a b h = register_more
    (set_register a c (Maybe t Ready)) (set_register b c (Maybe t Ready)) (suc c) Word Word (register_more a b c (Maybe t Ready) (Maybe t Ready) h alike) alike
caught_more _ c a b h = register_more a b (suc c) Word Word h alike

-- where a method may leave
leave_more : (p : Image) (m pc : ℕ) (x y a b : AbstractState) → IsImpliedBy a b → AllTrue (leave_point p m pc x a) → AllTrue (leave_point p m pc y b)
leave_more p m pc x y a b h n = (n.0, grind (arith, nat_tests, none_owns_more, has_not_more, here_more))

-- what is pushed is the same
owns_more : (k l : Kind) → Weaker k l → owns_object k ≡ true → owns_object l ≡ true
owns_more k l x h = grind arith

pushed_more : (k l : Kind) → Weaker k l → owns_object k ≡ true → entry_of k ≡ entry_of l
pushed_more k l (maybe_own {t = t} {a = age}) h = absurd (false≢true h)
pushed_more k l _ h = refl

-- what a return leaves
left_more : (p : Image) (m pc : ℕ) (a b : AbstractState) (r : ℕ) → IsImpliedBy a b → AllTrue (rule_left p m pc a r) → AllTrue (rule_left p m pc b r)
left_more p m pc a b r h n = grind (arith, nat_tests, none_owns_more, moved_more p m pc a b)

ended_more : (p : Image) (m pc : ℕ) (a b : AbstractState) → IsImpliedBy a b → AllTrue (rule_ended p m pc a) → AllTrue (rule_ended p m pc b)
ended_more p m pc a b h n =
    let cancels = is_cancel (method_role p m) in
    let serves = is_service (method_role p m) in
    let destroys = is_destructor p m in
    let rest = n.1.1.1 in (
      has_not_more a.states b.states issued h.states n.0,
      (
        only_if_more cancels (has cancel_done a.states) (has cancel_done b.states) (λ done. has_along cancel_done a.states b.states done h.states) n.1.0,
        grind (arith, done_more p destroys, has_along),
      ),
    )

-- what a need asks of a register, of a field, of the request's states or of the message, the second state meets too
module _ (p : Image) (m pc : ℕ) (a b : AbstractState) (h : IsImpliedBy a b) where
  word_in : (r : ℕ) → is_word (register a r) ≡ true → is_word (register b r) ≡ true
  word_in r = word_more (register a r) (register b r) (h.registers r)

  unowning_in : (r : ℕ) → is_unowning (register a r) ≡ true → is_unowning (register b r) ≡ true
  unowning_in r = unowning_more (register a r) (register b r) (h.registers r)

  object_or_null_in : (r : ℕ) → is_object_or_null (register a r) ≡ true → is_object_or_null (register b r) ≡ true
  object_or_null_in r = object_or_null_more (register a r) (register b r) (h.registers r)

  destroyed_in : (r : ℕ) → may_be_destroyed (register a r) ≡ true → may_be_destroyed (register b r) ≡ true
  destroyed_in r = destroyed_more (register a r) (register b r) (h.registers r)

  owns_in : (r : ℕ) → owns_object (register a r) ≡ true → owns_object (register b r) ≡ true
  owns_in r = owns_more (register a r) (register b r) (h.registers r)

  own_in : (t : Thing) (r : ℕ) → is_own_for p t (register a r) ≡ true → is_own_for p t (register b r) ≡ true
  own_in t r = own_more p t (register a r) (register b r) (h.registers r)

  ready_in : (r : ℕ) → is_ready_kind (register a r) ≡ true → is_ready_kind (register b r) ≡ true
  ready_in r = ready_more (register a r) (register b r) (h.registers r)

  declared_in : (o : Option Thing) (r : ℕ) → may_be_declared p o (register a r) ≡ true → may_be_declared p o (register b r) ≡ true
  declared_in o r = declared_more p o (register a r) (register b r) (h.registers r)

  empty_in : (f : ℕ) → is_empty (field a f) ≡ true → is_empty (field b f) ≡ true
  empty_in f = empty_more (field a f) (field b f) (h.fields f)

  some_in : (x : ℕ) → has x a.states ≡ true → has x b.states ≡ true
  some_in x n = has_along x a.states b.states n h.states

  none_in : (x : ℕ) → not (has a.states x) ≡ true → not (has b.states x) ≡ true
  none_in x = has_not_more a.states b.states x h.states

  leave_in : AllTrue (leave_point p m pc a a) → AllTrue (leave_point p m pc b b)
  leave_in = leave_more p m pc a b a b h

  -- once the object of a register is pushed
  pushed_in : (r : ℕ) → AllTrue (leave_point p m pc a (set_register a r Null)) → AllTrue (leave_point p m pc b (set_register b r Null))
  pushed_in r = leave_more p m pc a b (set_register a r Null) (set_register b r Null) (register_more a b r Null Null h alike)

  call_in : (target : Target) (m' first c : ℕ) → AllTrue (rule_call p m pc a target m' first c) → AllTrue (rule_call p m pc b target m' first c)
  call_in target m' first c = call_more p m pc a b target m' first c h

  trap_in : (target : Target) (m' first c : ℕ) → AllTrue (rule_trap p m pc a target m' first c) → AllTrue (rule_trap p m pc b target m' first c)
  trap_in target m' first c = trap_more p m pc a b target m' first c h

  return_in : (r : ℕ) → AllTrue (rule_return p m pc a r) → AllTrue (rule_return p m pc b r)
  return_in r n = grind (arith, all_true_rest, result_more p m pc a b, left_more p m pc a b r h, ended_more p m pc a b h)

  ruleset reported_in = (word_in, unowning_in, object_or_null_in, destroyed_in, owns_in, own_in, ready_in, declared_in, empty_in, none_in, leave_in, pushed_in)

  needs_in : (i : Instr) → AllTrue (rule_needs p m pc a i) → AllTrue (rule_needs p m pc b i)
  needs_in x n = grind (
    arith,
    call_in,
    trap_in,
    return_in,
    reported_in,
    here_more a b h,
    h.entries,
    some_in unlisted,
    some_in idle,
    some_in issued,
    some_in active_states,
    some_in server_states,
    some_in (bit_or cancel_open cancel_done),
  )

pub needs_more : (p : Image) (m pc : ℕ) (a b : AbstractState) (i : Instr) → IsImpliedBy a b → AllTrue (rule_needs p m pc a i) → AllTrue (rule_needs p m pc b i)
needs_more p m pc a b i h n = needs_in p m pc a b h i n

same_jump : (p : Image) (m pc : ℕ) (a b : AbstractState) (r to : ℕ) → IsImpliedBy a b → (k : Kind) →
    AllFollow (flow_jump_null p m pc a k r to) (flow_jump_null p m pc b k r to)
same_jump p m pc a b r to h Null = (inl (refl, h), tt)
same_jump p m pc a b r to h (Own t x) = (inl (refl, h), tt)
same_jump p m pc a b r to h (Maybe t x) =
    (inl (refl, register_more a b r (Own t x) (Own t x) h alike), (inr (inl (refl, register_more a b r Null Null h alike)), tt))
same_jump p m pc a b r to h _ = tt

jump_more : (p : Image) (m pc : ℕ) (a b : AbstractState) (r to : ℕ) → IsImpliedBy a b →
    (k l : Kind) → Weaker k l → register b r ≡ l → is_object_or_null k ≡ true → AllFollow (flow_jump_null p m pc a k r to) (flow_jump_null p m pc b l r to)
jump_more p m pc a b r to h k l (alike {k = same}) e n = same_jump p m pc a b r to h k
jump_more p m pc a b r to h k l unset_word e n = tt
jump_more p m pc a b r to h k l unset_null e n = absurd (false≢true n)
jump_more p m pc a b r to h k l (maybe_null {t = t} {a = x}) e n = (inr (inl (refl, register_reported a b r Null h (rw e alike))), tt)
jump_more p m pc a b r to h k l (maybe_own {t = t} {a = x}) e n = (inl (refl, register_reported a b r (Own t x) h (rw e alike)), tt)

same_empty : (p : Image) (m pc : ℕ) (a b : AbstractState) (f to : ℕ) → IsImpliedBy a b → (x : FieldState) →
    AllFollow (flow_jump_empty p m pc a x f to) (flow_jump_empty p m pc b x f to)
same_empty p m pc a b f to h Perhaps = (inl (refl, field_more a b f Full Full h alike_filling), (inr (inl (refl, field_more a b f Empty Empty h alike_filling)), tt))
same_empty p m pc a b f to h _ = (inl (refl, h), tt)

empty_jump_more : (p : Image) (m pc : ℕ) (a b : AbstractState) (f to : ℕ) →
    IsImpliedBy a b → (x y : FieldState) → WeakerFilling x y → field b f ≡ y → AllFollow (flow_jump_empty p m pc a x f to) (flow_jump_empty p m pc b y f to)
empty_jump_more p m pc a b f to h x y (alike_filling {x = same}) e = same_empty p m pc a b f to h x
empty_jump_more p m pc a b f to h x y perhaps_empty e = (inr (inl (refl, field_reported a b f Empty h (rw e alike_filling))), tt)
empty_jump_more p m pc a b f to h x y perhaps_full e = (inl (refl, field_reported a b f Full h (rw e alike_filling)), tt)

both_ways_more : (x y : ℕ) (a b : AbstractState) → IsImpliedBy a b → AllFollow ((x, a) ∷ (y, a) ∷ []) ((x, b) ∷ (y, b) ∷ [])
both_ways_more x y a b h = (inl (refl, h), (inr (inl (refl, h)), tt))

-- two states with fewer request states in the second
states_more : (a b : AbstractState) (s t : ℕ) → IsImpliedBy a b → IsTrue (has s t) → IsImpliedBy (record a { states = s }) (record b { states = t })
states_more a b s t h fewer = record { registers = h.registers; fields = h.fields; entries = h.entries; states = fewer; message_state = h.message_state }

-- a request that may be in fewer states is in fewer once it is cancelled
cancelled_more : (s t : ℕ) → IsTrue (has s t) → IsTrue (has (once_cancelled s) (once_cancelled t))
cancelled_more s t h = go (has s active) (has t active) refl refl
  where
    x : ℕ
    x = bit_and s server_states

    y : ℕ
    y = bit_and t server_states

    rest : IsTrue (has x y)
    rest = has_shared s t server_states h

    wider : IsTrue (has (bit_or x idle) y)
    wider = has_along (bit_or x idle) x y (has_first x idle) rest

    go : (c d : Bool) → has s active ≡ c → has t active ≡ d → IsTrue (has (cond c (bit_or x idle) x) (cond d (bit_or y idle) y))
    go x y e f = grind (arith, nat_tests, has_both, x, y, wider, has_second, rest, has_along)

none_left : (t : ℕ) → t ≤ 0 → (t == 0) ≡ true
none_left x h = grind arith

in_more : (a b : AbstractState) (place s t : ℕ) → IsImpliedBy a b → IsTrue (has s t) → AllFollow (flow_in a place s) (flow_in b place t)
in_more a b place s t h fewer = grind arith

narrowed_more : (a b : AbstractState) (place states : ℕ) → IsImpliedBy a b → AllFollow (flow_narrowed a place states) (flow_narrowed b place states)
narrowed_more a b place states h = in_more a b place (bit_and a.states states) (bit_and b.states states) h (has_shared a.states b.states states h.states)

-- what follows a part of some flows follows them all
follows_first : (xs ys : List Flow) (flow : Flow) → Follows xs flow → Follows (xs ++ ys) flow
follows_first (x ∷ xs) ys flow (inl here) = inl here
follows_first (x ∷ xs) ys flow (inr rest) = inr (follows_first xs ys flow rest)
follows_first [] ys flow h = absurd h

follows_second : (xs ys : List Flow) (flow : Flow) → Follows ys flow → Follows (xs ++ ys) flow
follows_second [] ys flow h = h
follows_second (x ∷ xs) ys flow h = inr (follows_second xs ys flow h)

second_follow : (xs ys vs : List Flow) → AllFollow ys vs → AllFollow (xs ++ ys) vs
second_follow xs ys [] h = tt
second_follow xs ys (v ∷ vs) h = (follows_second xs ys v h.0, second_follow xs ys vs h.1)

both_follow : (xs ys us vs : List Flow) → AllFollow xs us → AllFollow ys vs → AllFollow (xs ++ ys) (us ++ vs)
both_follow xs ys [] vs h k = second_follow xs ys vs k
both_follow xs ys (u ∷ us) vs h k = (follows_first xs ys u h.0, both_follow xs ys us vs h.1 k)

branches_more : (a b : AbstractState) (next there here to : ℕ) → IsImpliedBy a b →
    AllFollow (flow_narrowed a next here ++ flow_narrowed a to there) (flow_narrowed b next here ++ flow_narrowed b to there)
branches_more a b next there here to h = grind (arith, narrowed_more a b next here h, narrowed_more a b to there h)

module _ (p : Image) (m pc : ℕ) (a b : AbstractState) (h : IsImpliedBy a b) where
  lasting_more : (target : Target) (m' first ended : ℕ) → IsImpliedBy (lasting p m pc a target m' first ended) (lasting p m pc b target m' first ended)
  lasting_more target m' first ended =
      let xs = arguments_of p m' in
      called_more target (method_class p m') ended (arguments_moved xs first a) (arguments_moved xs first b) (arguments_moved_more xs first a b h)

  after_more : (news : News) → Allows a (Goes_on news) → IsImpliedBy (after p m pc a news) (after p m pc b news)
  after_more As_before n = h
  after_more (Holding r kind) n = register_more a b r kind kind h alike
  after_more (Moved r s) n =
      register_more (set_register a s Null) (set_register b s Null) r (register a s) (register b s) (register_more a b s Null Null h alike) (h.registers s)
  after_more (Taken r f) n =
      let o = field_thing p (holder_of p m) f in
      register_more (set_field a f Empty) (set_field b f Empty) r
      (filled o (field a f)) (filled o (field b f)) (field_more a b f Empty Empty h alike_filling) (filled_more o (field a f) (field b f) (h.fields f))
  after_more (Filled f s) n = field_more (set_register a s Null) (set_register b s Null) f (field_state_of (register a s))
      (field_state_of (register b s)) (register_more a b s Null Null h alike) (filling_more (register a s) (register b s) (h.registers s))
  after_more (Pushed r) n =
      let moved = register_more a b r Null Null h alike in
      let same = pushed_more (register a r) (register b r) (h.registers r) n in
      entry_more (entry_of (register a r)) (entry_of (register b r)) (set_register a r Null) (set_register b r Null) moved same
  after_more Pushed_operation n = entry_more Operation Operation a b h refl
  after_more (Popped r) n =
      let same : Weaker (top_kind a.entries) (top_kind b.entries) = rw (← h.entries) alike in
      register_more (without_entry a) (without_entry b) r (top_kind a.entries) (top_kind b.entries) (entry_less a b h) same
  after_more Dropped n = entry_less a b h
  after_more (Called target m' first c) n =
      let ended = after_of p m' in
      brought_more (gives_of p m') c (lasting p m pc a target m' first ended) (lasting p m pc b target m' first ended) (lasting_more target m' first ended)
  after_more (Caught target m' first c) n =
      let ended = resting p (method_class p m') in
      caught_more (gives_of p m') c (lasting p m pc a target m' first ended) (lasting p m pc b target m' first ended) (lasting_more target m' first ended)
  after_more (Left_in states) n = states_more a b states states h (has_itself states)
  after_more Cancelled n = record { registers = h.registers; fields = λ i. alike_filling; entries = h.entries; states = cancelled_more a.states b.states h.states; message_state = h.message_state }
  after_more (Handed r) n = states_more (set_register a r (Maybe Message Ready))
      (set_register b r (Maybe Message Ready)) issued issued (register_more a b r (Maybe Message Ready) (Maybe Message Ready) h alike) (has_itself issued)
  after_more (Taken_message r) n =
      let held = register_more a b r (Own Message Ready) (Own Message Ready) h alike in
      record { registers = held.registers; fields = h.fields; entries = h.entries; states = h.states; message_state = refl }

  ways_more : (ways : Ways) → Allows a ways → AllFollow (flowing p m pc a ways) (flowing p m pc b ways)
  ways_more x n = grind (arith, after_more, jump_more p m pc a b, empty_jump_more p m pc a b, branches_more a b)

pub flows_more : (p : Image) (m pc : ℕ) (a b : AbstractState) (i : Instr) → IsImpliedBy a b → AllTrue (rule_needs p m pc a i) →
    AllFollow (flows p m pc a i) (flows p m pc b i)
flows_more p m pc a b i h n = ways_more p m pc a b h (ways_of p i) (allows p m pc a i n)
