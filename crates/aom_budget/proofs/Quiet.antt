-- A quiet method has no cleanup entries, and calls none that has.
use Rattle.std.proofs.lemmas.Bool.Decides.{nat_tests}
use Rattle.std.proofs.Common.{◌≡◌, ℕ, zero, suc, ◌≤◌, true, false, List, [], ◌∷◌, ◌++◌, length, map, IfSome, IsTrue, Option, Some, None, inl, inr, refl, subst}
use Rattle.std.proofs.Common.{sym, ap, ◌∙◌, arith}
use Rattle.aom_budget.proofs.ImageLemmas.{nil_given, some_given}
use Rattle.std.specs.Prelude.{not}
use Rattle.std.proofs.lemmas.Bool.{true≢false}
use Rattle.aom_image.specs.Image.{Image}
use Rattle.aom_image.specs.Views.{gives_of, gives_in, is_quiet, quiet_in, leaves, leaves_in, method_at}
use Rattle.aom_instructions.specs.declared.instr.Instr.{Instr}
use Rattle.aom_instructions.specs.declared.instr.Target.{Target}
use Rattle.aom_image.specs.declared.method.Gives.{Gives}
use Rattle.aom_image.specs.declared.method.Gives.TheVariants.{Nothing, Word as A_word, Own as An_own, Maybe as A_maybe, Left}
use Rattle.aom_image.specs.declared.method.Method.{Method}
use Rattle.aom_roles.specs.Tests.{AllTrue}
use Rattle.aom_roles.specs.Shapes.{IsShaped, gives_left}
use Rattle.aom_link_conditions.specs.Linked.{IsLinked}
use Rattle.aom_budget.proofs.LinkConditionsLemmas.{all_there}
use Rattle.aom_link_conditions.specs.Overriding.{MayOverride, MayOverrideNamed, over_in, overridden_method}
use Rattle.aom_typing_rules.specs.Calls.{brought, rule_call, rule_trap}
use Rattle.aom_abstract_state.specs.Entries.{without_top}
use Rattle.aom_typing_rules.specs.Laws.{HaveAtMost}
use Rattle.aom_abstract_state.specs.Needs.{Need, Flow}
use Rattle.aom_typing_rules.specs.Objects.{flow_jump_null, flow_jump_empty}
use Rattle.aom_typing_rules.specs.Rules.{rule_needs, flows, ways_of}
use Rattle.aom_abstract_state.specs.AbstractState.{AbstractState}
use Rattle.aom_typing_rules.specs.Ways.{Called, Caught, Goes_on, News, Pushed, Pushed_operation, Ways, after, flowing}
use Rattle.aom_roles.specs.Tables.{at}
use Rattle.aom_abstract_state.specs.Arguments.{entry_shape}
use Rattle.aom_abstract_state.specs.declared.kind.CleanupEntry.{CleanupEntry}
use Rattle.aom_abstract_state.specs.declared.kind.FieldState.{FieldState}
use Rattle.aom_abstract_state.specs.declared.kind.Kind.{Kind}
use Rattle.aom_budget.proofs.TypingRulesLemmas.{by_states, lasting_has}
use Rattle.aom_static_bounds.specs.Shapes.{Shapes, Meets, AllMet, IsMethodTyped}
use Rattle.aom_static_bounds.specs.Heights.{StandsAt, Enters, CallsOver, Heights}
use Rattle.aom_static_bounds.specs.Heights.Heights.{own, under}
use Rattle.aom_static_bounds.specs.Layers.{MayRun}
use Rattle.aom_budget.proofs.Overridden.{over_along}

-- ---- flags

quiet_stays : (p : Image) (m : ℕ) → IsLinked p → is_quiet p m ≡ true → leaves p m ≡ false
unfolding method_at quiet_in leaves_in
quiet_stays p m linked quiet = go (method_at p m) refl quiet
  where
    go : (o : Option Method) → method_at p m ≡ o → quiet_in o ≡ true → leaves_in o ≡ false
    go None e q = refl
    go (Some d) e q = (all_there (IsShaped p) p.methods m d linked.shapes e).flags.quiet q

quiet_keeps : (p : Image) (m : ℕ) → IsLinked p → is_quiet p m ≡ true → gives_left (gives_of p m) ≡ false
unfolding method_at quiet_in gives_in gives_left
quiet_keeps p m linked quiet = go (method_at p m) refl quiet
  where
    by : (d : Method) (g : Gives) → IsShaped p d → d.gives ≡ g → quiet_in (Some d) ≡ true → gives_left g ≡ false
    by d Nothing shaped e q = refl
    by d A_word shaped e q = refl
    by d (An_own t) shaped e q = refl
    by d (A_maybe t) shaped e q = refl
    by d (Left c) shaped e q =
        let left : IsTrue (gives_left d.gives) = rw e refl in
        absurd (true≢false (sym (shaped.flags.left left) ∙ shaped.flags.quiet q))

    go : (o : Option Method) → method_at p m ≡ o → quiet_in o ≡ true → gives_left (gives_in o) ≡ false
    go None e q = refl
    go (Some d) e q = by d d.gives (all_there (IsShaped p) p.methods m d linked.shapes e) refl q

-- what runs in the place of a quiet method is quiet
over_quiet : (p : Image) → IsLinked p → (k x : ℕ) → overridden_method p k ≡ Some x → is_quiet p x ≡ true → is_quiet p k ≡ true
unfolding over_in method_at quiet_in
over_quiet p linked k x over quiet = go (method_at p k) refl (method_at p x) refl over quiet
  where
    go : (o : Option Method) → method_at p k ≡ o → (n : Option Method) → method_at p x ≡ n → over_in o ≡ Some x → quiet_in n ≡ true → quiet_in o ≡ true
    go None is n at over quiet = cc
    go (Some d) is None at over quiet = cc
    go (Some d) is (Some e) at over quiet =
        let stands = all_there (MayOverrideNamed p) p.methods k d linked.overriders.each is in
        let asks = (subst (λ o. IfSome o (MayOverride p d)) at (subst (λ o. IfSome o (λ m. IfSome (method_at p m) (MayOverride p d))) over stands)).asks in
        asks.quiet quiet

run_quiet : (p : Image) → IsLinked p → (j k : ℕ) → is_quiet p j ≡ true → MayRun p j k → is_quiet p k ≡ true
run_quiet p linked j k quiet (inl same) = subst (λ i. is_quiet p i ≡ true) same quiet
run_quiet p linked j k quiet (inr over) = over_along p (λ i. is_quiet p i ≡ true) j (over_quiet p linked) quiet k over

-- ---- flows

low : {es : List CleanupEntry} → es ≡ [] → length es ≤ 0
low none = rw none (omega arith)

top_low : (es : List CleanupEntry) → es ≡ [] → length (without_top es) ≤ 0
top_low es none = rw none (omega arith)

brings_none : (g : Gives) (c : ℕ) (sh : AbstractState) → gives_left g ≡ false → length (brought g c sh).entries ≡ length sh.entries
unfolding gives_left
brings_none x c sh e = grind arith

rest_true : (xs ys : List Need) → AllTrue (xs ++ ys) → AllTrue ys
rest_true [] ys h = h
rest_true (x ∷ xs) ys h = rest_true xs ys h.1

module _ (p : Image) (m : ℕ) (linked : IsLinked p) (quiet : is_quiet p m ≡ true) where
  callee_quiet : (pc : ℕ) (sh : AbstractState) (target : Target) (k first c : ℕ) → AllTrue (rule_call p m pc sh target k first c) → is_quiet p k ≡ true
  callee_quiet pc sh target k first c needs = grind (arith, nat_tests, rest_true)

  untrapped : (pc : ℕ) (sh : AbstractState) (target : Target) (k first c : ℕ) → AllTrue (rule_trap p m pc sh target k first c) → ⊥
  untrapped pc sh target k first c needs = true≢false (sym needs.0 ∙ ap not quiet)

  null_low : (pc : ℕ) (sh : AbstractState) (kind : Kind) (r to : ℕ) → sh.entries ≡ [] → HaveAtMost 0 (flow_jump_null p m pc sh kind r to)
  null_low pc sh x r to none = grind (arith, nat_tests, low none)

  empty_low : (pc : ℕ) (sh : AbstractState) (x : FieldState) (f to : ℕ) → sh.entries ≡ [] → HaveAtMost 0 (flow_jump_empty p m pc sh x f to)
  empty_low pc sh x f to none = grind (arith, nat_tests, low none)

  -- nothing is pushed, no trap is set, and what is called is quiet too
  IsQuietly : Ways → Type 0
  IsQuietly (Goes_on (Pushed r)) = ⊥
  IsQuietly (Goes_on Pushed_operation) = ⊥
  IsQuietly (Goes_on (Called target k first c)) = is_quiet p k ≡ true
  IsQuietly (Goes_on (Caught target k first c)) = ⊥
  IsQuietly _ = true ≡ true

  quietly : (pc : ℕ) (sh : AbstractState) (i : Instr) → AllTrue (rule_needs p m pc sh i) → IsQuietly (ways_of p i)
  unfolding IsQuietly
  quietly pc sh x needs = grind (arith, nat_tests, quiet_stays p m linked quiet, callee_quiet pc sh, untrapped pc sh)

  after_none : (pc : ℕ) (sh : AbstractState) (news : News) → IsQuietly (Goes_on news) → sh.entries ≡ [] → length (after p m pc sh news).entries ≤ 0
  unfolding IsQuietly
  after_none pc sh x q none = grind (arith, nat_tests, top_low sh.entries none, brings_none, quiet_keeps p, lasting_has, low none)

  ways_none : (pc : ℕ) (sh : AbstractState) (ways : Ways) → IsQuietly ways → sh.entries ≡ [] → HaveAtMost 0 (flowing p m pc sh ways)
  ways_none pc sh x q none = grind (arith, nat_tests, after_none pc sh, low none, null_low pc sh, empty_low pc sh, by_states)

  stays_low : (pc : ℕ) (sh : AbstractState) (i : Instr) → AllTrue (rule_needs p m pc sh i) → sh.entries ≡ [] → HaveAtMost 0 (flows p m pc sh i)
  stays_low pc sh i needs none = ways_none pc sh (ways_of p i) (quietly pc sh i needs) none

-- ---- the states without entries

with_none : AbstractState → List CleanupEntry → Option AbstractState
with_none sh [] = Some sh
with_none sh (e ∷ es) = None

lowest_at : Option AbstractState → Option AbstractState
lowest_at None = None
lowest_at (Some sh) = with_none sh sh.entries

lowest : Shapes → Shapes
lowest s = map lowest_at s

at_lowest : (s : Shapes) (pc : ℕ) → at None (lowest s) pc ≡ lowest_at (at None s pc)
unfolding lowest lowest_at
at_lowest [] pc = refl
at_lowest (x ∷ xs) zero = refl
at_lowest (x ∷ xs) (suc pc) = at_lowest xs pc

-- what stands there stood there, with no entries
stood : (o : Option AbstractState) (sh : AbstractState) → lowest_at o ≡ Some sh → (o ≡ Some sh) × (sh.entries ≡ [])
unfolding lowest_at with_none
stood o sh e = grind (arith, nat_tests, some_given, lowest_at, nil_given, with_none)

stays_there : (sh : AbstractState) → sh.entries ≡ [] → lowest_at (Some sh) ≡ Some sh
unfolding lowest_at with_none
stays_there sh none = ap (with_none sh) none

no_length : (es : List CleanupEntry) → length es ≤ 0 → es ≡ []
no_length es h = nil_given (λ xs. length xs ≤ 0) es h (λ x xs some. omega (arith, some)) (λ e none. e)

meets_lowest : (s : Shapes) (to : ℕ) (sh : AbstractState) → length sh.entries ≤ 0 → Meets s to sh → Meets (lowest s) to sh
meets_lowest s to sh few h = record {
  next = h.next;
  there = at_lowest s to ∙ (ap lowest_at h.there ∙ stays_there h.next (h.implied.entries ∙ no_length sh.entries few));
  implied = h.implied;
}

all_lowest : (s : Shapes) (ways : List Flow) → HaveAtMost 0 ways → AllMet s ways → AllMet (lowest s) ways
all_lowest s [] few h = tt
all_lowest s (way ∷ ways) few h = (meets_lowest s way.0 way.1 few.0 h.0, all_lowest s ways few.1 h.1)

-- they are a typing of a quiet method
lowest_typed : (p : Image) (m : ℕ) (s : Shapes) → IsLinked p → is_quiet p m ≡ true → IsMethodTyped p m s → IsMethodTyped p m (lowest s)
lowest_typed p m s linked quiet h = record {
  each = λ pc sh e.
      let there = stood (at None s pc) sh (sym (at_lowest s pc) ∙ e) in
      let applies = h.each pc sh there.0 in
      record {
        instr = applies.instr;
        stands = applies.stands;
        needs = applies.needs;
        flows = all_lowest s _ (stays_low p m linked quiet pc sh applies.instr applies.needs there.1) applies.flows;
      };
  entry = meets_lowest s 0 (entry_shape p m) (omega arith) h.entry;
}

stands_lowest : (p : Image) (m place : ℕ) (sh : AbstractState) → IsLinked p → is_quiet p m ≡ true → StandsAt p m place sh → sh.entries ≡ []
stands_lowest p m place sh linked quiet h =
    let meets = (h.strongest.least (lowest h.states) (lowest_typed p m h.states linked quiet h.strongest.typed)).each place sh h.there in
    let there = stood (at None h.states place) meets.next (sym (at_lowest h.states place) ∙ meets.there) in
    sym meets.implied.entries ∙ there.1

-- ---- heights

entered_quiet : (p : Image) (m pc : ℕ) (sh : AbstractState) (i : Instr) (k : ℕ) → IsLinked p → is_quiet p m ≡ true → Enters p i k →
    AllTrue (rule_needs p m pc sh i) → is_quiet p k ≡ true
entered_quiet p m pc sh x k linked quiet enters needs = grind (
  arith,
  nat_tests,
  run_quiet p linked,
  callee_quiet p m linked quiet pc sh,
  untrapped p m linked quiet pc sh,
)

called_quiet : (p : Image) (m k h : ℕ) → IsLinked p → is_quiet p m ≡ true → CallsOver p m k h → is_quiet p k ≡ true
called_quiet p m k h linked quiet call =
    let applies = call.stands.strongest.typed.each call.place call.shape call.stands.there in
    let same : applies.instr ≡ call.instr = let f = applies.stands in let g = call.here in cc in
    let needs : AllTrue (rule_needs p m call.place call.shape call.instr) = rw same at applies.needs in
    entered_quiet p m call.place call.shape call.instr k linked quiet call.enters needs

pub quiet_is_low : (p : Image) (m n : ℕ) → IsLinked p → is_quiet p m ≡ true → Heights p m n → n ≡ 0
quiet_is_low p m n linked quiet (own h) =
    let none = low (stands_lowest p m h.place h.shape linked quiet h.stands) in
    omega (arith, none, h.count)
quiet_is_low p m n linked quiet (under {k = k} {h = count} {n = above} call heights) =
    let none = low (stands_lowest p m call.place call.shape linked quiet call.stands) in
    omega (arith, none, call.count, quiet_is_low p k above linked (called_quiet p m k count linked quiet call) heights)
