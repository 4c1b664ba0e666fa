-- Each class that a state of the strongest typing names is one that the method mentions; so what a method may call has a lower number.
use Rattle.std.proofs.lemmas.Bool.Decides.{nat_tests}
use Rattle.std.proofs.Common.{◌≡◌, ℕ, zero, suc, ◌<◌, ◌==◌, Bool, true, false, cond, ◌&&◌, All, IsTrue, IfSome, List}
use Rattle.std.proofs.Common.{[], ◌∷◌, map, Option, Some, None, inl, inr, refl, sym, ap, ◌∙◌, subst, arith}
use Rattle.aom_budget.proofs.ImageLemmas.{some_given, true_given}
use Rattle.std.specs.Prelude.{nat_lt}
use Rattle.std.specs.List.{list_all}
use Rattle.std.proofs.lemmas.Bool.{lt-ltb}
use Rattle.aom_image.specs.Image.{Image}
use Rattle.aom_image.specs.Views.{arguments_of, arguments_in, class_in, fields_of, gives_of, instr_at, method_at, method_class, role_in}
use Rattle.aom_instructions.specs.declared.instr.Instr.{Instr}
use Rattle.aom_instructions.specs.declared.instr.Target.{Target}
use Rattle.aom_instructions.specs.declared.instr.Target.TheVariants.{This, Register, Field, Entry as On_entry}
use Rattle.aom_image.specs.declared.method.Argument.{Argument}
use Rattle.aom_image.specs.declared.method.Argument.TheVariants.{Word as A_word_argument, Own as An_own_argument}
use Rattle.aom_image.specs.declared.method.Gives.{Gives}
use Rattle.aom_image.specs.declared.method.Gives.TheVariants.{Nothing, Word as A_word, Own as An_own, Maybe as A_maybe, Left}
use Rattle.aom_image.specs.declared.method.Method.{Method}
use Rattle.aom_image.specs.declared.method.Role.{Role}
use Rattle.aom_image.specs.declared.method.Role.TheVariants as roles
use Rattle.aom_image.specs.declared.method.Thing.{Thing}
use Rattle.aom_image.specs.declared.method.Thing.TheVariants.{Object, Message}
use Rattle.aom_roles.specs.Roles.{role_number}
use Rattle.aom_link_conditions.specs.Calls.{AllBelow, CallsBelow, EndsBelow, MayCancel, Mentions, MentionsThing, MentionsArgument}
use Rattle.aom_link_conditions.specs.Calls.{MentionsResult, MentionsFields, MentionsRoot, RunsBelow, CallsOrdered}
use Rattle.aom_link_conditions.specs.Linked.{IsLinked}
use Rattle.aom_link_conditions.specs.Overriding.{over_in}
use Rattle.aom_link_conditions.specs.Roles.{own_role, fills_role, same_role}
use Rattle.aom_budget.proofs.LinkConditionsLemmas.{all_there, at_place, both, cancels_own, found, join, of_method}
use Rattle.aom_budget.proofs.RolesLemmas.{through}
use Rattle.aom_typing_rules.specs.Calls.{brought, caught, worked_on, while_called}
use Rattle.aom_typing_rules.specs.Requests.{resting}
use Rattle.aom_budget.proofs.AbstractStateLemmas.{at-set_extending, has_itself}
use Rattle.aom_abstract_state.specs.Entries.{made_ready_entry, made_ready_at, without_top, with_entry}
use Rattle.aom_abstract_state.specs.Arguments.{after_of, argument_moved, arguments_moved, argument_kind, entry_shape}
use Rattle.aom_typing_rules.specs.Cleanup.{entry_of, top_kind}
use Rattle.aom_abstract_state.specs.Kinds.{entry_kind, register, field, set_register, set_field, filled, made_ready}
use Rattle.aom_abstract_state.specs.Needs.{Flow}
use Rattle.aom_typing_rules.specs.Objects.{flow_jump_null, flow_jump_empty}
use Rattle.aom_abstract_state.specs.Order.{Weaker, IsImpliedBy}
use Rattle.aom_abstract_state.specs.Order.WeakerFilling.{alike_filling}
use Rattle.aom_abstract_state.specs.Order.Weaker.{alike, unset_word, unset_null, maybe_null, maybe_own}
use Rattle.aom_typing_rules.specs.Rules.{flows, ways_of}
use Rattle.aom_abstract_state.specs.AbstractState.{AbstractState}
use Rattle.aom_typing_rules.specs.Ways.{As_before, Branches, Branches_in, Branches_on_empty, Branches_on_null, Called, Cancelled}
use Rattle.aom_typing_rules.specs.Ways.{Caught, Dropped, Ends, Filled, Goes_back, Handed, Goes_on, Goes_to, Holding, Left_in, Moved}
use Rattle.aom_typing_rules.specs.Ways.{News, Popped, Pushed, Pushed_operation, Taken, Taken_message, Ways, after, flowing}
use Rattle.aom_roles.specs.Tables.{at}
use Rattle.aom_roles.specs.Things.{Holder, Member, root_thing, field_thing, holder_by, holder_of}
use Rattle.aom_abstract_state.specs.declared.kind.CleanupEntry.{CleanupEntry}
use Rattle.aom_abstract_state.specs.declared.kind.InitState.TheVariants.{Ready}
use Rattle.aom_abstract_state.specs.declared.kind.CleanupEntry.TheVariants.{Operation}
use Rattle.aom_abstract_state.specs.declared.kind.FieldState.{FieldState}
use Rattle.aom_abstract_state.specs.declared.kind.FieldState.TheVariants.{Empty, Full}
use Rattle.aom_abstract_state.specs.declared.kind.Kind.{Kind}
use Rattle.aom_abstract_state.specs.declared.kind.Kind.TheVariants.{Unset, Word, Null, Own, Maybe}
use Rattle.aom_budget.proofs.TypingRulesLemmas.{by_states, flows_more, needs_more}
use Rattle.aom_static_bounds.specs.Shapes.{Shapes, Meets, AllMet, Applies, IsMethodTyped}
use Rattle.aom_static_bounds.specs.Strongest.{IsMethodStrongest}
use Rattle.aom_static_bounds.specs.Charges.{Charge, No_charge, A_call, An_operation, A_destruction, A_cancel, charge_of}
use Rattle.aom_static_bounds.specs.Calls.{Among, MayCall, bodies, called_for, callees, cancels, destructors, object_class, thing_class}
use Rattle.aom_static_bounds.specs.Layers.{Runs}
use Rattle.aom_budget.proofs.Greatest.{run_from}
use Rattle.aom_budget.proofs.Lined.{cancels_from, destructors_from}
use Rattle.aom_budget.proofs.Overridden.{overrider_is}
use Rattle.aom_budget.proofs.VerifyLemmas.{follow_met}

-- ---- what runs as an object goes has a lower number

abbrev runs_below : Image → ℕ → Option ℕ → Bool
runs_below p m class = list_all (λ k. nat_lt k m) (destructors p class)

all_below : (m : ℕ) (xs : List ℕ) → ((k : ℕ) → Among k xs → k < m) → IsTrue (list_all (λ k. nat_lt k m) xs)
all_below m [] each = refl
all_below m (x ∷ xs) each = join (nat_lt x m) (list_all (λ k. nat_lt k m) xs) (lt-ltb x m (each x (inl refl))) (all_below m xs (λ k h. each k (inr h)))

-- the method of a role in a class, where all in that role there are lower
role_below : (p : Image) (m d k : ℕ) (r : Role) → AllBelow p.methods m d r → own_role p d r ≡ Some k → k < m
unfolding own_role
role_below p m d k r all own = let w = found (fills_role d r) p.methods k own in (subst (λ o. IfSome o (λ e. IsTrue (fills_role d r e) → k < m)) w.1 (all k)) w.2

ends_below : (p : Image) (m y k : ℕ) → EndsBelow p m y → Runs p (Object y) k → k < m
ends_below p m y k ends x = grind (arith, nat_tests, role_below p m)

mentioned : (p : Image) (m c : ℕ) → Mentions p m c → IsTrue (runs_below p m (Some c))
mentioned p m c h = all_below m (destructors p (Some c)) (λ k among. let w = destructors_from p c k among in ends_below p m w.0 k (h w.0 w.1) w.2)

thing_mentioned : (p : Image) (m : ℕ) (t : Thing) → MentionsThing p m t → IsTrue (runs_below p m (thing_class t))
thing_mentioned p m x h = grind (arith, nat_tests, mentioned p m)

-- ---- states that name such classes alone

abbrev is_low : Image → ℕ → Kind → Bool
is_low p m k = runs_below p m (object_class k)

abbrev entry_low : Image → ℕ → CleanupEntry → Bool
entry_low p m e = is_low p m (entry_kind e)

record IsLow (p : Image) (m : ℕ) (sh : AbstractState) : Type 0 where
  registers : (i : ℕ) → IsTrue (is_low p m (register sh i))
  entries : IsTrue (list_all (entry_low p m) sh.entries)

abbrev AllLow : Image → ℕ → List Flow → Type 0
AllLow p m [] = Unit {0}
AllLow p m (way ∷ ways) = IsLow p m way.1 × AllLow p m ways

abbrev FieldsLow : Image → ℕ → Holder → Type 0
FieldsLow p m holder = (f : ℕ) → IfSome (field_thing p holder f) (λ t. IsTrue (runs_below p m (thing_class t)))

module _ (p : Image) (m : ℕ) where
  root_low : (root : Option ℕ) → IfSome root (Mentions p m) → (f : ℕ) → IfSome (root_thing root f) (λ t. IsTrue (runs_below p m (thing_class t)))
  root_low root h x = grind (arith, nat_tests, mentioned p m)

  member_low : (c : ℕ) → All (MentionsThing p m) (fields_of p c) → FieldsLow p m (Member c)
  member_low c h f = grind (arith, nat_tests, thing_mentioned p m, all_there (MentionsThing p m))

  class_low : (own : Option ℕ) (r : Role) → (IsTrue (same_role r roles.Main) → MentionsRoot p m) → MentionsFields p m own → FieldsLow p m (holder_by (Some r) own)
  unfolding role_number
  class_low own x root fields = grind (arith, nat_tests, root_low p.header.root, member_low)

  holder_low : (d : Method) → method_at p m ≡ Some d → CallsOrdered p m d → FieldsLow p m (holder_of p m)
  unfolding role_in class_in
  holder_low d e h = rw e (class_low d.class d.role h.root h.fields)

  set_low : (sh : AbstractState) (i : ℕ) (k : Kind) → IsLow p m sh → IsTrue (is_low p m k) → IsLow p m (set_register sh i k)
  set_low sh i k h low = record {
    registers = λ j. rw (at-set_extending Unset sh.registers i j k) (either j (i == j));
    entries = h.entries;
  }
    where
      either : (j : ℕ) (b : Bool) → IsTrue (is_low p m (cond b k (register sh j)))
      either j x = grind arith

  -- what a field has is no part of it
  field_low : (sh : AbstractState) (f : ℕ) (x : FieldState) → IsLow p m sh → IsLow p m (set_field sh f x)
  field_low sh f x h = record { registers = h.registers; entries = h.entries }

  filled_low : (o : Option Thing) (x : FieldState) → IfSome o (λ t. IsTrue (runs_below p m (thing_class t))) → IsTrue (is_low p m (filled o x))
  filled_low x y h = grind arith

  with_low : (e : CleanupEntry) (sh : AbstractState) → IsTrue (entry_low p m e) → IsLow p m sh → IsLow p m (with_entry e sh)
  with_low e sh low h = record { registers = h.registers; entries = join (entry_low p m e) (list_all (entry_low p m) sh.entries) low h.entries }

  pushed_low : (k : Kind) → IsTrue (is_low p m k) → IsTrue (entry_low p m (entry_of k))
  pushed_low x h = grind arith

  top_low : (es : List CleanupEntry) → IsTrue (list_all (entry_low p m) es) → IsTrue (is_low p m (top_kind es))
  top_low [] h = refl
  top_low (e ∷ es) h = (both (entry_low p m e) (list_all (entry_low p m) es) h).0

  rest_low : (es : List CleanupEntry) → IsTrue (list_all (entry_low p m) es) → IsTrue (list_all (entry_low p m) (without_top es))
  rest_low [] h = refl
  rest_low (e ∷ es) h = (both (entry_low p m e) (list_all (entry_low p m) es) h).1

  without_low : (sh : AbstractState) → IsLow p m sh → IsLow p m (record sh { entries = without_top sh.entries })
  without_low sh h = record { registers = h.registers; entries = rest_low sh.entries h.entries }

  -- ---- calls

  made_ready_low : (k : Kind) → IsTrue (is_low p m k) → IsTrue (is_low p m (made_ready k))
  made_ready_low x h = grind arith

  made_ready_entry_low : (e : CleanupEntry) → IsTrue (entry_low p m e) → IsTrue (entry_low p m (made_ready_entry e))
  made_ready_entry_low x h = grind arith

  made_ready_at_low : (es : List CleanupEntry) (k : ℕ) → IsTrue (list_all (entry_low p m) es) → IsTrue (list_all (entry_low p m) (made_ready_at es k))
  made_ready_at_low [] k h = refl
  made_ready_at_low (e ∷ es) zero h = let w = both (entry_low p m e) (list_all (entry_low p m) es) h in
      join (entry_low p m (made_ready_entry e)) (list_all (entry_low p m) es) (made_ready_entry_low e w.0) w.1
  made_ready_at_low (e ∷ es) (suc k) h = grind (arith, nat_tests, both, join, made_ready_at_low es k)

  argument_low : (x : Argument) (r : ℕ) (sh : AbstractState) → IsLow p m sh → IsLow p m (argument_moved x r sh)
  argument_low x r sh h = grind (arith, nat_tests, set_low sh r Null h)

  arguments_low : (xs : List Argument) (first : ℕ) (sh : AbstractState) → IsLow p m sh → IsLow p m (arguments_moved xs first sh)
  arguments_low [] first sh h = h
  arguments_low (x ∷ xs) first sh h = arguments_low xs (suc first) (argument_moved x first sh) (argument_low x first sh h)

  worked_low : (class : Option ℕ) (ended : ℕ) (sh : AbstractState) → IsLow p m sh → IsLow p m (worked_on class ended sh)
  worked_low None ended sh h = h
  worked_low (Some c) ended sh h = record { registers = h.registers; entries = h.entries }

  called_low : (target : Target) (class : Option ℕ) (ended : ℕ) (sh : AbstractState) → IsLow p m sh → IsLow p m (while_called target class ended sh)
  called_low This class ended sh h = worked_low class ended sh h
  called_low (Register r) class ended sh h = set_low sh r (made_ready (register sh r)) h (made_ready_low (register sh r) (h.registers r))
  called_low (Field f) class ended sh h = h
  called_low (On_entry k) class ended sh h = record { registers = h.registers; entries = made_ready_at_low sh.entries k h.entries }

  brought_low : (g : Gives) (c : ℕ) (sh : AbstractState) → MentionsResult p m g → IsLow p m sh → IsLow p m (brought g c sh)
  brought_low Nothing c sh g h = h
  brought_low A_word c sh g h = set_low sh c Word h refl
  brought_low (An_own t) c sh g h = set_low sh c _ h (thing_mentioned p m t g)
  brought_low (A_maybe t) c sh g h = set_low sh c _ h (thing_mentioned p m t g)
  brought_low (Left x) c sh g h = with_low _ sh (mentioned p m x g) h

  caught_low : (g : Gives) (c : ℕ) (sh : AbstractState) → MentionsResult p m g → IsLow p m sh → IsLow p m (caught g c sh)
  caught_low Nothing c sh g h = set_low sh (suc c) Word h refl
  caught_low A_word c sh g h = set_low (set_register sh c Word) (suc c) Word (set_low sh c Word h refl) refl
  caught_low (An_own t) c sh g h = set_low _ (suc c) Word (set_low sh c _ h (thing_mentioned p m t g)) refl
  caught_low (A_maybe t) c sh g h = set_low _ (suc c) Word (set_low sh c _ h (thing_mentioned p m t g)) refl
  caught_low (Left x) c sh g h = set_low sh (suc c) Word h refl

  lasting_low : (target : Target) (called first ended : ℕ) (sh : AbstractState) →
      IsLow p m sh → IsLow p m (while_called target (method_class p called) ended (arguments_moved (arguments_of p called) first sh))
  lasting_low target called first ended sh h =
      called_low target (method_class p called) ended (arguments_moved (arguments_of p called) first sh) (arguments_low (arguments_of p called) first sh h)

  -- ---- flows

  null_low : (pc : ℕ) (sh : AbstractState) (k : Kind) (r to : ℕ) → IsLow p m sh → IsTrue (is_low p m k) → AllLow p m (flow_jump_null p m pc sh k r to)
  null_low pc sh Unset r to h low = tt
  null_low pc sh Word r to h low = tt
  null_low pc sh Null r to h low = (h, tt)
  null_low pc sh (Own t a) r to h low = (h, tt)
  null_low pc sh (Maybe t a) r to h low = (set_low sh r (Own t a) h low, (set_low sh r Null h refl, tt))

  empty_low : (pc : ℕ) (sh : AbstractState) (x : FieldState) (f to : ℕ) → IsLow p m sh → AllLow p m (flow_jump_empty p m pc sh x f to)
  empty_low pc sh x f to h = grind (arith, nat_tests, field_low sh f Full h, field_low sh f Empty h)

  -- the kind that a register comes to have names such a class, and so does what a call gives
  NamesLow : Ways → Type 0
  NamesLow (Goes_on (Holding a kind)) = IsTrue (is_low p m kind)
  NamesLow (Goes_on (Called target called first c)) = MentionsResult p m (gives_of p called)
  NamesLow (Goes_on (Caught target called first c)) = MentionsResult p m (gives_of p called)
  NamesLow _ = true ≡ true

  names_low : (own : Option ℕ) (i : Instr) → RunsBelow p m own i → NamesLow (ways_of p i)
  unfolding NamesLow
  names_low own x r = grind (arith, nat_tests, mentioned p m)

  module _ (own : Option ℕ) (fields : FieldsLow p m (holder_of p m)) where
    after_low : (pc : ℕ) (sh : AbstractState) (news : News) → NamesLow (Goes_on news) → IsLow p m sh → IsLow p m (after p m pc sh news)
    unfolding NamesLow
    after_low pc sh As_before low h = h
    after_low pc sh (Holding a kind) low h = set_low sh a kind h low
    after_low pc sh (Moved a b) low h = set_low (set_register sh b Null) a (register sh b) (set_low sh b Null h refl) (h.registers b)
    after_low pc sh (Taken a f) low h =
        set_low (set_field sh f Empty) a _ (field_low sh f Empty h) (filled_low (field_thing p (holder_of p m) f) (field sh f) (fields f))
    after_low pc sh (Filled f b) low h = field_low (set_register sh b Null) f _ (set_low sh b Null h refl)
    after_low pc sh (Pushed a) low h =
        with_low (entry_of (register sh a)) (set_register sh a Null) (pushed_low (register sh a) (h.registers a)) (set_low sh a Null h refl)
    after_low pc sh Pushed_operation low h = with_low Operation sh refl h
    after_low pc sh (Popped a) low h = set_low _ a (top_kind sh.entries) (without_low sh h) (top_low sh.entries h.entries)
    after_low pc sh Dropped low h = without_low sh h
    after_low pc sh (Called target called first c) low h = brought_low (gives_of p called) c _ low (lasting_low target called first (after_of p called) sh h)
    after_low pc sh (Caught target called first c) low h =
        caught_low (gives_of p called) c _ low (lasting_low target called first (resting p (method_class p called)) sh h)
    after_low pc sh (Left_in states) low h = record { registers = h.registers; entries = h.entries }
    after_low pc sh Cancelled low h = record { registers = h.registers; entries = h.entries }
    after_low pc sh (Handed a) low h = let held = set_low sh a (Maybe Message Ready) h refl in record { registers = held.registers; entries = h.entries }
    after_low pc sh (Taken_message a) low h = let held = set_low sh a (Own Message Ready) h refl in record { registers = held.registers; entries = h.entries }

    ways_low : (pc : ℕ) (sh : AbstractState) (ways : Ways) → NamesLow ways → IsLow p m sh → AllLow p m (flowing p m pc sh ways)
    ways_low pc sh Ends low h = tt
    ways_low pc sh (Goes_on news) low h = (after_low pc sh news low h, tt)
    ways_low pc sh (Goes_to to) low h = (h, tt)
    ways_low pc sh (Branches to) low h = (h, (h, tt))
    ways_low pc sh (Goes_back to) low h = (h, (h, tt))
    ways_low pc sh (Branches_on_null a to) low h = null_low pc sh (register sh a) a to h (h.registers a)
    ways_low pc sh (Branches_on_empty f to) low h = empty_low pc sh (field sh f) f to h
    ways_low pc sh (Branches_in there here to) low h =
        let same : (s : ℕ) → IsLow p m (record sh { states = s }) = λ s. record { registers = h.registers; entries = h.entries } in
        by_states (λ fs. AllLow p m fs) sh (suc pc) there here to tt (λ s. (same s, tt)) (λ t. (same t, tt)) (λ s t. (same s, (same t, tt)))

    flows_low : (pc : ℕ) (sh : AbstractState) (i : Instr) → RunsBelow p m own i → IsLow p m sh → AllLow p m (flows p m pc sh i)
    flows_low pc sh i r h = ways_low pc sh (ways_of p i) (names_low own i r) h

  arguments_kinds : (xs : List Argument) (i : ℕ) → All (MentionsArgument p m) xs → IsTrue (is_low p m (at Unset (map argument_kind xs) i))
  arguments_kinds [] i h = refl
  arguments_kinds (A_word_argument ∷ xs) zero h = refl
  arguments_kinds (An_own_argument t ∷ xs) zero h = thing_mentioned p m t (h 0 A_word_argument (omega arith))
  arguments_kinds (x ∷ xs) (suc i) h = arguments_kinds xs i (λ k d below. h (suc k) d (omega (arith, below)))

  begins_low : (d : Method) → method_at p m ≡ Some d → CallsOrdered p m d → IsLow p m (entry_shape p m)
  unfolding arguments_in
  begins_low d e h = record { registers = λ i. rw e (arguments_kinds d.arguments i h.arguments); entries = refl }

-- ---- the strongest states name no others

-- what may be there of a class that is not mentioned is null
abbrev raised : Image → ℕ → Kind → Kind
raised p m Unset = Unset
raised p m Word = Word
raised p m Null = Null
raised p m (Own t a) = Own t a
raised p m (Maybe t a) = cond (runs_below p m (thing_class t)) (Maybe t a) Null

abbrev owned_low : Image → ℕ → Kind → Bool
owned_low p m Unset = true
owned_low p m Word = true
owned_low p m Null = true
owned_low p m (Own t a) = runs_below p m (thing_class t)
owned_low p m (Maybe t a) = true

abbrev raised_shape : Image → ℕ → AbstractState → AbstractState
raised_shape p m sh = record sh { registers = map (raised p m) sh.registers }

-- a state stays where nothing is owned of such a class
abbrev stays : Image → ℕ → AbstractState → Bool
stays p m sh = list_all (owned_low p m) sh.registers && list_all (entry_low p m) sh.entries

abbrev kept : Image → ℕ → Option AbstractState → Option AbstractState
kept p m None = None
kept p m (Some sh) = cond (stays p m sh) (Some (raised_shape p m sh)) None

abbrev all_kept : Image → ℕ → Shapes → Shapes
all_kept p m s = map (kept p m) s

at_map : {A B : Type 0} (f : A → B) (d : A) (xs : List A) (i : ℕ) → at (f d) (map f xs) i ≡ f (at d xs i)
at_map f d [] i = refl
at_map f d (x ∷ xs) zero = refl
at_map f d (x ∷ xs) (suc i) = at_map f d xs i

module _ (p : Image) (m : ℕ) where
  at_raised : (ks : List Kind) (i : ℕ) → at Unset (map (raised p m) ks) i ≡ raised p m (at Unset ks i)
  at_raised ks i = at_map (raised p m) Unset ks i

  at_kept : (s : Shapes) (pc : ℕ) → at None (all_kept p m s) pc ≡ kept p m (at None s pc)
  at_kept s pc = at_map (kept p m) None s pc

  kind_raised : (k : Kind) → Weaker k (raised p m k)
  kind_raised Unset = alike
  kind_raised Word = alike
  kind_raised Null = alike
  kind_raised (Own t a) = alike
  kind_raised (Maybe t a) = go (runs_below p m (thing_class t))
    where
      go : (b : Bool) → Weaker (Maybe t a) (cond b (Maybe t a) Null)
      go true = alike
      go false = maybe_null

  shape_raised : (sh : AbstractState) → IsImpliedBy sh (raised_shape p m sh)
  shape_raised sh = record {
    registers = λ i. rw (at_raised sh.registers i) (kind_raised (register sh i));
    fields = λ f. alike_filling;
    entries = refl;
    states = has_itself sh.states;
    message_state = refl;
  }

  raised_low : (k : Kind) → IsTrue (owned_low p m k) → IsTrue (is_low p m (raised p m k))
  raised_low x h = grind arith

  owned_at : (ks : List Kind) (i : ℕ) → IsTrue (list_all (owned_low p m) ks) → IsTrue (owned_low p m (at Unset ks i))
  owned_at [] i h = refl
  owned_at (k ∷ ks) zero h = (both (owned_low p m k) (list_all (owned_low p m) ks) h).0
  owned_at (k ∷ ks) (suc i) h = owned_at ks i (both (owned_low p m k) (list_all (owned_low p m) ks) h).1

  owned_all : (ks : List Kind) → ((i : ℕ) → IsTrue (owned_low p m (at Unset ks i))) → IsTrue (list_all (owned_low p m) ks)
  owned_all [] h = refl
  owned_all (k ∷ ks) h = join (owned_low p m k) (list_all (owned_low p m) ks) (h zero) (owned_all ks (λ i. h (suc i)))

  shape_low : (sh : AbstractState) → IsTrue (stays p m sh) → IsLow p m (raised_shape p m sh)
  shape_low sh h =
      let w = both (list_all (owned_low p m) sh.registers) (list_all (entry_low p m) sh.entries) h in
      record {
        registers = λ i. rw (at_raised sh.registers i) (raised_low (register sh i) (owned_at sh.registers i w.0));
        entries = w.1;
      }

  low_owned : (k : Kind) → IsTrue (is_low p m k) → IsTrue (owned_low p m k)
  low_owned x h = grind arith

  -- what says no more than a kind of such a class
  weaker_owned : (x y : Kind) → Weaker x y → IsTrue (is_low p m y) → IsTrue (owned_low p m x)
  weaker_owned x y (alike {k = k}) h = low_owned k h
  weaker_owned x y unset_word h = refl
  weaker_owned x y unset_null h = refl
  weaker_owned x y (maybe_null {t = t} {a = age}) h = refl
  weaker_owned x y (maybe_own {t = t} {a = age}) h = refl

  low_raised : (k : Kind) → IsTrue (is_low p m k) → raised p m k ≡ k
  low_raised x h = grind arith

  -- still says no more once it is raised
  weaker_raised : (x y : Kind) → Weaker x y → IsTrue (is_low p m y) → Weaker (raised p m x) y
  weaker_raised x y (alike {k = k}) h = rw (low_raised k h) alike
  weaker_raised x y unset_word h = unset_word
  weaker_raised x y unset_null h = unset_null
  weaker_raised x y (maybe_null {t = t} {a = age}) h = go (runs_below p m (thing_class t))
    where
      go : (b : Bool) → Weaker (cond b (Maybe t age) Null) Null
      go true = maybe_null
      go false = alike
  weaker_raised x y (maybe_own {t = t} {a = age}) h = rw h maybe_own

  meets_kept : (s : Shapes) (to : ℕ) (sh : AbstractState) → IsLow p m sh → Meets s to sh → Meets (all_kept p m s) to sh
  meets_kept s to sh low h =
      let owned = owned_all h.next.registers (λ i. weaker_owned (register h.next i) (register sh i) (h.implied.registers i) (low.registers i)) in
      let stay : IsTrue (stays p m h.next) =
      join (list_all (owned_low p m) h.next.registers) (list_all (entry_low p m) h.next.entries) owned (rw h.implied.entries low.entries) in
      let there : kept p m (Some h.next) ≡ Some (raised_shape p m h.next) = rw stay refl in
      record {
        next = raised_shape p m h.next;
        there = at_kept s to ∙ (ap (kept p m) h.there ∙ there);
        implied = record {
          registers = λ i. rw (at_raised h.next.registers i) (weaker_raised (register h.next i) (register sh i) (h.implied.registers i) (low.registers i));
          fields = h.implied.fields;
          entries = h.implied.entries;
          states = h.implied.states;
          message_state = h.implied.message_state;
        };
      }

  all_meet_kept : (s : Shapes) (ways : List Flow) → AllLow p m ways → AllMet s ways → AllMet (all_kept p m s) ways
  all_meet_kept s [] low h = tt
  all_meet_kept s (way ∷ ways) low h = (meets_kept s way.0 way.1 low.0 h.0, all_meet_kept s ways low.1 h.1)

  -- what is kept stood there
  stood : (o : Option AbstractState) (x : AbstractState) → kept p m o ≡ Some x → (sh : AbstractState) × (o ≡ Some sh) × IsTrue (stays p m sh) × (x ≡ raised_shape p m sh)
  stood o x e = grind (arith, nat_tests, some_given, true_given)

  ordered : IsLinked p → (d : Method) → method_at p m ≡ Some d → CallsOrdered p m d
  unfolding method_at
  ordered linked d e = at_place (CallsOrdered p) p.methods m d linked.calls e

  -- the method of an instruction, and what it runs and mentions
  runs_ordered : IsLinked p → (pc : ℕ) (i : Instr) → instr_at p m pc ≡ Some i →
      (d : Method) × (method_at p m ≡ Some d) × CallsOrdered p m d × RunsBelow p m d.class i
  runs_ordered linked pc i e =
      let w = of_method p m pc i e in
      let calls = ordered linked w.0 w.1 in
      (w.0, w.1, calls, all_there (RunsBelow p m w.0.class) w.0.code pc i calls.code w.2)

  raised_applies : (s : Shapes) (pc : ℕ) (sh : AbstractState) → IsLinked p → IsMethodTyped p m s → at None s pc ≡ Some sh → IsTrue (stays p m sh) →
      Applies p m (all_kept p m s) pc (raised_shape p m sh)
  raised_applies s pc sh linked h there stay =
      let applies = h.each pc sh there in
      let runs = runs_ordered linked pc applies.instr applies.stands in
      let low = flows_low p m runs.0.class (holder_low p m runs.0 runs.1 runs.2) pc (raised_shape p m sh) applies.instr runs.3 (shape_low sh stay) in
      record {
        instr = applies.instr;
        stands = applies.stands;
        needs = needs_more p m pc sh (raised_shape p m sh) applies.instr (shape_raised sh) applies.needs;
        flows = all_meet_kept s _ low (follow_met s _ _ (flows_more p m pc sh (raised_shape p m sh) applies.instr (shape_raised sh) applies.needs) applies.flows);
      }

  kept_typed : (s : Shapes) → IsLinked p → IsMethodTyped p m s → IsMethodTyped p m (all_kept p m s)
  kept_typed s linked h = record {
    each = λ pc x e.
        let w = stood (at None s pc) x (sym (at_kept s pc) ∙ e) in
        subst (λ y. Applies p m (all_kept p m s) pc y) (sym w.3) (raised_applies s pc w.0 linked h w.1 w.2);
    entry =
        let applies = h.each 0 h.entry.next h.entry.there in
        let runs = runs_ordered linked 0 applies.instr applies.stands in
        meets_kept s 0 (entry_shape p m) (begins_low p m runs.0 runs.1 runs.2) h.entry;
  }

  was_low : (k : Kind) → IsTrue (owned_low p m k) → Weaker (raised p m k) k → IsTrue (is_low p m k)
  was_low x h w = grind arith

  states_low : (s : Shapes) (pc : ℕ) (sh : AbstractState) → IsLinked p → IsMethodStrongest p m s → at None s pc ≡ Some sh → IsLow p m sh
  states_low s pc sh linked h there =
      let meets = (h.least (all_kept p m s) (kept_typed s linked h.typed)).each pc sh there in
      let w = stood (at None s pc) meets.next (sym (at_kept s pc) ∙ meets.there) in
      let same : w.0 ≡ sh = let f = w.1 in cc in
      let stay : IsTrue (stays p m sh) = rw same at w.2 in
      let is : meets.next ≡ raised_shape p m sh = rw same at w.3 in
      let back : IsImpliedBy (raised_shape p m sh) sh = rw is at meets.implied in
      let both_stay = both (list_all (owned_low p m) sh.registers) (list_all (entry_low p m) sh.entries) stay in
      record {
        registers = λ i. was_low (register sh i) (owned_at sh.registers i both_stay.0)
            (subst (λ k. Weaker k (register sh i)) (at_raised sh.registers i) (back.registers i));
        entries = both_stay.1;
      }

  -- ---- what is called

  among_low : (k : ℕ) (xs : List ℕ) → IsTrue (list_all (λ j. nat_lt j m) xs) → Among k xs → k < m
  among_low k [] h c = absurd c
  among_low k (x ∷ xs) h (inl e) = let w = both (nat_lt x m) (list_all (λ j. nat_lt j m) xs) h in let low = w.0 in grind (arith, low, e)
  among_low k (x ∷ xs) h (inr c) = among_low k xs (both (nat_lt x m) (list_all (λ j. nat_lt j m) xs) h).1 c

  -- what the order asks of what an instruction sets going
  ChargeBelow : Option ℕ → Charge → Type 0
  ChargeBelow own No_charge = Unit {0}
  ChargeBelow own (A_call called) = CallsBelow p m called
  ChargeBelow own (An_operation called) = called < m
  ChargeBelow own (A_destruction r) = Unit {0}
  ChargeBelow own A_cancel = IfSome own (MayCancel p m)

  charge_below : (own : Option ℕ) (i : Instr) → RunsBelow p m own i → ChargeBelow own (charge_of i)
  unfolding ChargeBelow
  charge_below own x r = grind arith

  cancel_low : (own : Option ℕ) (k : ℕ) → IfSome own (MayCancel p m) → Among k (cancels p own) → k < m
  cancel_low None k h among = absurd among
  cancel_low (Some c) k h among = grind (arith, nat_tests, cancels_from p c k among, through p, cancels_own p m)

  body_low : (called k : ℕ) → CallsBelow p m called → Among k (bodies p called) → k < m
  unfolding over_in method_at
  body_low called k h among = grind (arith, nat_tests, run_from p called k among, overrider_is p k called)

  callee_low : (sh : AbstractState) (i : Instr) (k : ℕ) → RunsBelow p m (method_class p m) i → IsLow p m sh → Among k (callees p m sh i) → k < m
  unfolding ChargeBelow
  callee_low sh i k r h among = go (charge_of i) (charge_below (method_class p m) i r) among
    where
      go : (x : Charge) → ChargeBelow (method_class p m) x → Among k (called_for p m sh x) → k < m
      go No_charge below none = absurd none
      go (A_call called) below called_there = body_low called k below called_there
      go (An_operation called) below (inl same) = subst (λ j. j < m) (sym same) below
      go (An_operation called) below (inr none) = absurd none
      go (A_destruction a) below gone = among_low k (destructors p (object_class (register sh a))) (h.registers a) gone
      go A_cancel below cancelled = cancel_low (method_class p m) k below cancelled

  pub called_lower : (k : ℕ) → IsLinked p → MayCall p m k → k < m
  unfolding class_in
  called_lower k linked call = grind (
    arith,
    nat_tests,
    runs_ordered linked call.place call.calls.instr call.calls.stands,
    states_low call.states call.place call.calls.shape linked call.strongest call.calls.there,
    callee_low call.calls.shape call.calls.instr k,
  )
