-- The needs that are told are those of the rule, instruction by instruction.
use Rattle.std.proofs.Common.{◌≡◌, ◌∙◌, ℕ, suc, Bool, true, false, cond, List, [], ◌∷◌, ◌++◌, Option, Some, None, Err, append_assoc, ap, length, refl, sym}
use Rattle.std.specs.Prelude.{is_some, map}
use Rattle.aom_image.specs.Image.{Image}
use Rattle.aom_image.specs.Views.{arguments_of, gives_of, method_class, method_role}
use Rattle.aom_image.specs.declared.method.Argument.{Argument}
use Rattle.aom_image.specs.declared.method.Argument.TheVariants as argument
use Rattle.aom_image.specs.declared.method.Gives.{Gives}
use Rattle.aom_image.specs.declared.method.Gives.TheVariants as gives
use Rattle.aom_image.specs.declared.method.Thing.{Thing}
use Rattle.aom_instructions.specs.declared.instr.Instr.{Instr}
use Rattle.aom_instructions.specs.declared.instr.Instr.TheVariants.{Const, Copy, Move, Add, Sub, Mul, And, Or, Xor, Jump, JumpEqual, JumpLess, JumpNull, JumpEmpty, JumpActive, JumpAdded, Loop, Next, Print, Load, Store, Take, Put, New, NewOrLeave, Delete, Push, PushOperation, Pop, PopOperation, PopDelete, Call, Trap, Return, Leave, LeaveIf, Enlist, Issue, SetActive, Cancel, Abort, Status, Connect, Ask, Close, TakeMessage, Reply, Stop, Hand}
use Rattle.aom_instructions.specs.declared.instr.Target.{Target}
use Rattle.aom_instructions.specs.declared.instr.Target.TheVariants.{This, Register, Field, Entry as On_entry}
use Rattle.aom_roles.specs.Roles.{is_construct}
use Rattle.aom_roles.specs.Things.{field_thing, holder_of}
use Rattle.aom_abstract_state.specs.AbstractState.{AbstractState}
use Rattle.aom_abstract_state.specs.Arguments.{arguments_moved}
use Rattle.aom_abstract_state.specs.Kinds.{is_own_for, is_word, may_be_declared, register}
use Rattle.aom_abstract_state.specs.Needs.{Need, judged}
use Rattle.aom_abstract_state.specs.declared.kind.Kind.{Kind}
use Rattle.aom_abstract_state.specs.declared.why.Reason.{Reason}
use Rattle.aom_abstract_state.specs.declared.why.Reason.TheVariants.{RegisterKind}
use Rattle.aom_typing_rules.specs.Calls.{age_need, each_argument, is_target, rule_arguments, rule_ended, rule_left, rule_moved, rule_result, rule_target, rule_trapped}
use Rattle.aom_typing_rules.specs.Rules.{flows, rule, rule_needs}
use Rattle.aom_needs.specs.Asked.{each_wanted, given_wanted, owner_wanted, put_wanted, result_wanted, target_wanted}
use Rattle.aom_needs.specs.Laws.{first_failing, needs_told, told_needs}
use Rattle.aom_needs.specs.Wanted.{held, is_told, need_of}
use Rattle.aom_needs.specs.declared.wanted.Operand.{Operand}
use Rattle.aom_needs.specs.declared.wanted.Operand.TheVariants as operands
use Rattle.aom_needs.specs.declared.wanted.Wanted.{Wanted}
use Rattle.aom_needs.specs.declared.wanted.Wanted.TheVariants as want

told_both : (xs ys : List Need) → told_needs (xs ++ ys) ≡ told_needs xs ++ told_needs ys
told_both [] ys = refl
told_both (x ∷ xs) ys = elim (is_told x.1) as (λ t. cond t (x ∷ told_needs (xs ++ ys)) (told_needs (xs ++ ys)) ≡ cond t (x ∷ told_needs xs) (told_needs xs) ++ told_needs ys) [
  | true ↦ ap (λ (l : List Need). x ∷ l) (told_both xs ys)
  | false ↦ told_both xs ys
]

map_both : (f : Wanted → Need) (xs ys : List Wanted) → map f (xs ++ ys) ≡ map f xs ++ map f ys
map_both f [] ys = refl
map_both f (x ∷ xs) ys = ap (λ (l : List Need). f x ∷ l) (map_both f xs ys)

-- of an object's age nothing is told
age_untold : (p : Image) (m' : ℕ) (constructs : Bool) (k : Kind) (rest : List Need) → told_needs (age_need p m' constructs k ∷ rest) ≡ told_needs rest
age_untold p m' true k rest = refl
age_untold p m' false k rest = refl

module _ (p : Image) (m pc : ℕ) (sh : AbstractState) where
  -- ---- calls

  abbrev needs : List Wanted → List Need
  needs ws = map (need_of p m sh) ws

  owner_told : (class : Option ℕ) (x : Operand) (m' : ℕ) → (is_target p class (held p m sh x), RegisterKind) ≡ need_of p m sh (owner_wanted class x m')
  owner_told None x m' = refl
  owner_told (Some c) x m' = refl

  target_told : (target : Target) (m' first : ℕ) (constructs : Bool) →
      told_needs (rule_target p m sh target m' (method_class p m') constructs first (length (arguments_of p m'))) ≡ needs (target_wanted target (method_class p m') m' first)
  target_told This m' first constructs = refl
  target_told (Register r) m' first constructs =
      ap (λ (l : List Need). (is_target p (method_class p m') (register sh r), RegisterKind) ∷ need_of p m sh (want.NoArgument r first m') ∷ l)
      (age_untold p m' constructs (register sh r) [])
      ∙ ap (λ (n : Need). n ∷ need_of p m sh (want.NoArgument r first m') ∷ []) (owner_told (method_class p m') (operands.Register r) m')
  target_told (Field f) m' first constructs =
      ap (λ (l : List Need). (is_target p (method_class p m') (held p m sh (operands.Field f)), RegisterKind) ∷ l) (age_untold p m' constructs (held p m sh (operands.Field f)) [])
      ∙ ap (λ (n : Need). n ∷ []) (owner_told (method_class p m') (operands.Field f) m')
  target_told (On_entry k) m' first constructs =
      ap (λ (l : List Need). (is_target p (method_class p m') (held p m sh (operands.Entry k)), RegisterKind) ∷ l) (age_untold p m' constructs (held p m sh (operands.Entry k)) [])
      ∙ ap (λ (n : Need). n ∷ []) (owner_told (method_class p m') (operands.Entry k) m')

  each_told : (xs : List Argument) (first : ℕ) → told_needs (each_argument p sh xs first) ≡ needs (each_wanted xs first)
  each_told [] first = refl
  each_told (argument.Word ∷ xs) first = ap (λ (l : List Need). (is_word (register sh first), RegisterKind) ∷ l) (each_told xs (suc first))
  each_told (argument.Own t ∷ xs) first = ap (λ (l : List Need). (is_own_for p t (register sh first), RegisterKind) ∷ l) (each_told xs (suc first))

  arguments_told : (m' first : ℕ) → told_needs (rule_arguments p sh (arguments_of p m') first) ≡ needs (want.Arguments m' first ∷ each_wanted (arguments_of p m') first)
  arguments_told m' first = ap (λ (l : List Need). need_of p m sh (want.Arguments m' first) ∷ l) (each_told (arguments_of p m') first)

  -- the target, the arguments, and what is asked once they have moved
  called_told : (target : Target) (m' first : ℕ) (constructs : Bool) (rest : List Need) →
      told_needs (rule_target p m sh target m' (method_class p m') constructs first (length (arguments_of p m')) ++ (rule_arguments p sh (arguments_of p m') first ++ rest))
      ≡ needs (given_wanted p m target m' first) ++ told_needs rest
  called_told target m' first constructs rest =
      let on = rule_target p m sh target m' (method_class p m') constructs first (length (arguments_of p m')) in
      let given = rule_arguments p sh (arguments_of p m') first in
      let on_wanted = target_wanted target (method_class p m') m' first in
      let given_wanted = want.Arguments m' first ∷ each_wanted (arguments_of p m') first in
      told_both on (given ++ rest)
      ∙ ap (λ (l : List Need). told_needs on ++ l) (told_both given rest)
      ∙ ap (λ (l : List Need). l ++ (told_needs given ++ told_needs rest)) (target_told target m' first constructs)
      ∙ ap (λ (l : List Need). needs on_wanted ++ (l ++ told_needs rest)) (arguments_told m' first)
      ∙ sym (append_assoc (needs on_wanted) (needs given_wanted) (told_needs rest))
      ∙ ap (λ (l : List Need). l ++ told_needs rest) (sym (map_both (need_of p m sh) on_wanted given_wanted))

  -- ---- returns and fields

  result_told : (g : Gives) (a : ℕ) (rest : List Need) → told_needs (rule_result p m pc sh g a ++ rest) ≡ need_of p m sh (result_wanted g a) ∷ told_needs rest
  result_told gives.Nothing a rest = refl
  result_told gives.Word a rest = refl
  result_told (gives.Own t) a rest = refl
  result_told (gives.Maybe t) a rest = refl
  result_told (gives.Left c) a rest = refl

  put_told : (o : Option Thing) (f b : ℕ) → field_thing p (holder_of p m) f ≡ o → (may_be_declared p o (register sh b), RegisterKind) ≡ need_of p m sh (put_wanted o f b)
  put_told None f b is = ap (λ (t : Bool). (t, RegisterKind)) (sym (ap is_some is))
  put_told (Some t) f b is = refl

  -- ---- each instruction

  pub all_told : (i : Instr) → told_needs (rule_needs p m pc sh i) ≡ needs_told p m sh i
  all_told (Const a w) = refl
  all_told (Copy a b) = refl
  all_told (Add a b c) = refl
  all_told (Sub a b c) = refl
  all_told (Mul a b c) = refl
  all_told (And a b c) = refl
  all_told (Or a b c) = refl
  all_told (Xor a b c) = refl
  all_told (Jump to) = refl
  all_told (JumpEqual a b to) = refl
  all_told (JumpLess a b to) = refl
  all_told (Loop depth rounds) = refl
  all_told (Next depth to) = refl
  all_told (Print a) = refl
  all_told (Load a w) = refl
  all_told (Store w b) = refl
  all_told (Move a b) = refl
  all_told (JumpNull a to) = refl
  all_told (JumpEmpty f to) = refl
  all_told (Take a f) = refl
  all_told (Put f b) = ap (λ (n : Need). n ∷ []) (put_told (field_thing p (holder_of p m) f) f b refl)
  all_told (New a c) = refl
  all_told (Delete a) = refl
  all_told (Call target m' first c) =
      called_told target m' first (is_construct (method_role p m')) (rule_moved p m (arguments_moved (arguments_of p m') first sh) target m' c)
  all_told (Trap target m' first c) =
      called_told target m' first (is_construct (method_role p m')) (rule_trapped p m pc sh (arguments_moved (arguments_of p m') first sh) target m' c)
  all_told (NewOrLeave a c) = refl
  all_told (Push a) = refl
  all_told (PushOperation a m') = refl
  all_told (Pop a) = refl
  all_told PopOperation = refl
  all_told PopDelete = refl
  all_told (Leave a) = refl
  all_told (LeaveIf a) = refl
  all_told (Return a) = result_told (gives_of p m) a (rule_left p m pc sh a ++ rule_ended p m pc sh)
  all_told (JumpActive to) = refl
  all_told (JumpAdded to) = refl
  all_told (Enlist priority) = refl
  all_told (Issue a b) = refl
  all_told SetActive = refl
  all_told Cancel = refl
  all_told Abort = refl
  all_told (Status a) = refl
  all_told (Connect a) = refl
  all_told (Ask a b x) = refl
  all_told Close = refl
  all_told (TakeMessage a) = refl
  all_told (Reply a b) = refl
  all_told Stop = refl
  all_told (Hand a) = refl

-- ---- the first that fails

module _ {A : Type 0} (value : A) (why : Reason) (so : is_told why ≡ true) where
  one_more : (met : Bool) (r : Reason) (ns : List Need) → (judged ns value ≡ Err why → first_failing (told_needs ns) ≡ first_failing ns) →
      cond met (judged ns value) (Err r) ≡ Err why → first_failing (told_needs ((met, r) ∷ ns)) ≡ first_failing ((met, r) ∷ ns)
  one_more true r ns rest e = elim (is_told r) as (λ t. first_failing (cond t ((true, r) ∷ told_needs ns) (told_needs ns)) ≡ first_failing ns) [
    | true ↦ rest e
    | false ↦ rest e
  ]
  one_more false r ns rest e =
      let same : r ≡ why = cc in
      ap (λ (t : Bool). first_failing (cond t ((false, r) ∷ told_needs ns) (told_needs ns))) (ap is_told same ∙ so)

  first_told : (ns : List Need) → judged ns value ≡ Err why → first_failing (told_needs ns) ≡ first_failing ns
  first_told [] e = absurd cc
  first_told (n ∷ ns) e = one_more n.0 n.1 ns (first_told ns) e

pub told_first : (p : Image) (m pc : ℕ) (sh : AbstractState) (i : Instr) (why : Reason) → is_told why ≡ true → rule p m pc sh i ≡ Err why →
    first_failing (needs_told p m sh i) ≡ first_failing (rule_needs p m pc sh i)
told_first p m pc sh i why so e = ap first_failing (sym (all_told p m pc sh i)) ∙ first_told (flows p m pc sh i) why so (rule_needs p m pc sh i) e
