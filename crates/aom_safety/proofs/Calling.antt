-- A method is called, plainly or under a trap: on its caller's own object, on what a register, a field or a cleanup entry owns, or on nothing.
use Rattle.std.proofs.lemmas.Bool.Decides.{nat_tests}
use Rattle.std.proofs.Common.{[], Bool, IsTrue, List, None, Option, Some, ap, arith, cond, false, inl, inr, length}
use Rattle.std.proofs.Common.{refl, subst, suc, sym, true, ℕ, ℤ, ◌&&◌, ◌+◌, ◌-◌, ◌<◌, ◌==◌, ◌∙◌, ◌∷◌, ◌≡◌, ◌≤◌}
use Rattle.std.proofs.lemmas.Bool.{eq-eqb, eqb-true, ltb-true, ne_eqb, true≢false}
use Rattle.std.specs.Prelude.{is_none, is_some, map, not, replicate, ◌⊎◌}
use Rattle.aom_image.specs.Image.{Image}
use Rattle.aom_image.specs.Views.{arguments_of, has, method_class, method_role}
use Rattle.aom_instructions.specs.declared.instr.Target.{Target}
use Rattle.aom_instructions.specs.declared.instr.Target.TheVariants.{Entry as On_entry, Field as On_field, Register as On_register, This}
use Rattle.aom_image.specs.declared.method.Argument.{Argument}
use Rattle.aom_image.specs.declared.method.Gives.{Gives}
use Rattle.aom_image.specs.declared.method.Role.TheVariants.{Construct, Do}
use Rattle.aom_image.specs.declared.method.Thing.{Thing}
use Rattle.aom_image.specs.declared.method.Thing.TheVariants.{Message as A_message, Object as An_object_of}
use Rattle.aom_roles.specs.Tests.{AllTrue}
use Rattle.aom_roles.specs.Roles.{is_cancel, is_construct, is_service}
use Rattle.aom_typing_rules.specs.Calls.{age_need, awaits, is_target, rule_target, stands_here, while_called}
use Rattle.aom_typing_rules.specs.Requests.{begins_there, may_begin}
use Rattle.aom_abstract_state.specs.Arguments.{argument_kind, arguments_moved, before_of, entry_fields, entry_shape}
use Rattle.aom_abstract_state.specs.Kinds.{entry_kind, field, filled, is_fresh_kind, is_object_or_null, is_ready_kind, is_unowning, made_ready, register, set_register}
use Rattle.aom_abstract_state.specs.Entries.{made_ready_at}
use Rattle.aom_abstract_state.specs.Order.{IsImpliedBy, WeakerFilling, alike, alike_filling, perhaps_empty, perhaps_full}
use Rattle.aom_abstract_state.specs.AbstractState.{AbstractState}
use Rattle.aom_roles.specs.Tables.{at, is_among}
use Rattle.aom_roles.specs.Things.{Member, field_thing, holder_by, holder_of, is_subtype}
use Rattle.aom_typing_rules.specs.Typing.{IsTyped, Typing}
use Rattle.aom_abstract_state.specs.declared.kind.InitState.{InitState}
use Rattle.aom_abstract_state.specs.declared.kind.InitState.TheVariants.{Fresh, Ready}
use Rattle.aom_abstract_state.specs.declared.kind.CleanupEntry.TheVariants.{Operation as Pushed_operation}
use Rattle.aom_abstract_state.specs.declared.kind.FieldState.{FieldState}
use Rattle.aom_abstract_state.specs.declared.kind.FieldState.TheVariants.{Empty, Full, Perhaps}
use Rattle.aom_abstract_state.specs.declared.kind.Kind.{Kind}
use Rattle.aom_abstract_state.specs.declared.kind.Kind.TheVariants.{Null, Own, Unset}
use Rattle.aom_safety.proofs.TypingRulesLemmas.{filled_more}
use Rattle.aom_safety.proofs.Claimed.{claim_in_view, Outside, OwnsNoMore, claim_from, claim_register_above, claim_weaker}
use Rattle.aom_safety.proofs.Claimed.{fits_weaker, outside_differs, word_fits_weaker}
use Rattle.aom_safety.proofs.Destroying.{Untouched, at_alike, eqb_comm, other_name, untouched, untouched_method}
use Rattle.aom_safety.proofs.Finishing.{all_join}
use Rattle.aom_safety.proofs.Items.{begins_well, entry_claimed, entry_owns, entry_there, length_each, length_forms, made_ready_claim, made_ready_items}
use Rattle.aom_safety.proofs.Jumps.{words_kept}
use Rattle.aom_safety.proofs.SemanticsLemmas.{at-set_extending, held_lives, same_place-true}
use Rattle.aom_safety.proofs.Passing.{Passed, filled_weaker_below, field_state, lower, under, upper}
use Rattle.aom_safety.proofs.Raising.{parents_met, raised}
use Rattle.aom_safety.proofs.Straight.{frames_reworded, At, claim_field, claim_register, field_fits, field_not_from, field_outside}
use Rattle.aom_safety.proofs.Straight.{fits_unowning, kind_fits, top, word_of_object}
use Rattle.aom_safety.proofs.Overriders.{RunsFor, begins_as}
use Rattle.aom_safety.proofs.ReceiverHolding.{receiver_conforms_counts, receiver_conforms_family, receiver_conforms_field, receiver_conforms_same}
use Rattle.aom_safety.proofs.RolesLemmas.{stands_along, through}
use Rattle.aom_roles.specs.Families.{descends}
use Rattle.aom_semantics.specs.Calls.{entry_place, receiver_at, needs_result, needs_target, needs_target_object, own_receiver}
use Rattle.aom_semantics.specs.Calls.{own_view, passed_cells, passed_words, target_receiver, target_view, works_on}
use Rattle.aom_safety.specs.Claims.{own_field, serves, Layer, Method, claim, declared, declared_field}
use Rattle.aom_safety.specs.Claims.{forms, receiver_claim, items_of, layer_claim, objects, tasks_of}
use Rattle.aom_safety.proofs.Waiting.{waits_in_view}
use Rattle.aom_safety.specs.Laws.{IsCalled, IsWired}
use Rattle.aom_semantics.specs.Places.{In_service, Cell, Elsewhere, Entry, Field, Going, Object, Place}
use Rattle.aom_semantics.specs.Places.{Register, Root, held, named, requested, same_place, seen}
use Rattle.aom_semantics.specs.State.{thing_view, AtRoot, Choice, Frame, Receiver, Inside, Run, State, Static, WrongKind}
use Rattle.aom_semantics.specs.State.{field_place, frame_as, receiver_holder, receiver_view, thing_holder, word}
use Rattle.aom_safety.specs.WellTyped.{InView, CountsAs, ReceiverConforms, IsServed, AllUndo, Awaits, Back, Fits, Good, Holds, IsApart, IsBelow}
use Rattle.aom_safety.specs.WellTyped.{ReceiverIsHeld, IsNoFieldOf, NotIn, Returns, Stack, Stands, WellTyped, WordFits, WorksOn}
use Rattle.aom_safety.proofs.Callees.{apart_from, below_more, filled_ready, fits_fresh, held_own, holder_called, holder_member, holder_static}
use Rattle.aom_safety.proofs.Callees.{receiver_member, member_kind, moved_entries, moved_fields, moved_register, own_for, passed_elsewhere}
use Rattle.aom_safety.specs.Requests.{Known, ConformsTo, Unworked, known_at, resting_in, states_claim, thing_kind, works_at}
use Rattle.aom_roles.specs.Shapes.{kind_of}
use Rattle.aom_safety.proofs.ConformingTo.{known_plain, same_object, conforms_to_first, conforms_to_less, unworked_rests}
use Rattle.aom_safety.proofs.Attending.{plain_claim, called_plain}

module _ (p : Image) (t : Typing) (wired : IsWired p) (typed : IsTyped p t) (c : Choice) (s : State) (fr : Frame) (sh : AbstractState)
    (ls : List Layer) (has_task : At p t s fr sh ls) (m first depth height : ℕ) (deep : length (tasks_of ls) < depth) (is_called : IsCalled p m) where
  abbrev xs : List Argument
  xs = arguments_of p m

  abbrev after_arguments : AbstractState
  after_arguments = arguments_moved xs first sh

  abbrev cs : List Cell
  cs = passed_cells p fr (tasks_of ls) s depth xs first 0 s.cells

  abbrev regs : List Kind
  regs = map argument_kind xs

  abbrev ws : List (Option ℤ)
  ws = passed_words p fr (tasks_of ls) s xs first

  -- what runs in the place of the method called
  abbrev callee : ℕ → Option ℕ → Receiver → Frame
  callee k view receiver = record (frame_as k receiver view height) { words = ws }

  -- what may run in the place of the method called on what counts so: nothing else where it constructs
  abbrev MayRun : ℕ → Option ℕ → Object → Type 0
  MayRun k view o = ReceiverConforms p (thing_holder o.thing) (holder_of p k) × (method_role p m ≡ Some Construct → k ≡ m)
      × CountsAs p (thing_holder o.thing) view (holder_of p k)

  -- the fields that its class declares are as the first state says
  abbrev FieldsBegin : Option ℕ → Receiver → Type 0
  FieldsBegin view Static = Unit {0}
  FieldsBegin view AtRoot = ⊥
  FieldsBegin view (Inside o from) = (k : ℕ) → MayRun k view o →
      (f : ℕ) (x : Thing) → field_thing p (holder_of p k) f ≡ Some x → Fits p (seen cs) (held cs (Field o.name f)) (filled (Some x) (field (entry_shape p m) f))

  -- what is known of the object that it works on as it begins, over its caller in that state
  abbrev known_there : Object → AbstractState → ℕ → Known
  known_there o sh' states = record { states = states; cancelled = (states_claim p o (Method fr sh' ∷ ls)).cancelled }

  -- it is in one of the states in which it begins
  abbrev BeginsWell : Receiver → AbstractState → Type 0
  BeginsWell (Inside o from) sh' = ConformsTo (thing_kind p o.thing) (known_there o sh' (before_of p m)) (requested cs o.name)
      × (thing_kind p o.thing ≡ kind_of p (method_class p m))
  BeginsWell _ sh' = Unit {0}

  -- it does not cancel
  pub cancels_not : is_cancel (method_role p m) ≡ false
  cancels_not = grind (arith, nat_tests)

  -- and does not serve
  pub serves_not : serves p m ≡ false
  serves_not = called_plain p m is_called

  pub kind_begun : (receiver : Receiver) (sh' : AbstractState) → BeginsWell receiver sh' → (o : Object) (from : Place) → receiver ≡ Inside o from →
      thing_kind p o.thing ≡ kind_of p (method_class p m)
  kind_begun x sh' b o from e = grind arith

  -- the caller while the call lasts, and the home of the method called and what it counts as
  pub record Entering (ended : ℕ) (receiver : Receiver) (view : Option ℕ) (sh' : AbstractState) : Type 0 where
    pub fits : (r : Place) → Fits p (seen cs) (held cs r) (field_state p t fr ls depth deep (declared p cs) regs sh' r)
    pub words : (i : ℕ) → WordFits (word fr i) (register sh' i)
    pub receiver_held : ReceiverIsHeld p cs (Method fr sh' ∷ ls) receiver
    pub apart : (k : ℕ) → IsApart p view k receiver (Method fr sh' ∷ ls)
    pub holder : ReceiverConforms p (receiver_holder receiver) (holder_of p m)
    pub owning : (i : ℕ) → is_unowning (register sh' i) ≡ is_unowning (register after_arguments i)
    pub items : objects sh'.entries (items_of ls) ≡ objects sh.entries (items_of ls)
    pub fields : FieldsBegin view receiver
    pub conforms_to : (x : Object) → named cs x.name ≡ Some x → works_at x.name receiver ≡ false →
        ConformsTo (thing_kind p x.thing) (states_claim p x (Method fr sh' ∷ ls)) (requested cs x.name)
    pub begun : BeginsWell receiver sh'
    -- the caller's own object will be in one of these states
    pub settles : (o : Object) (from : Place) → receiver ≡ Inside o from → works_at o.name fr.receiver ≡ true → sh'.states ≡ ended

  module _ (passed : Passed p t fr ls depth deep cs after_arguments regs ws) where
    -- what is claimed with what runs over its caller
    abbrev claims_over : ℕ → Receiver → AbstractState → AbstractState → Place → Kind
    claims_over k receiver after sh' r = layer_claim p (Method (callee k None receiver) after) depth [] r (claim p (declared p cs) (Method fr sh' ∷ ls) r)

    -- the first state of the called method over its caller
    begins : {ended : ℕ} {view : Option ℕ} (k : ℕ) (receiver : Receiver) (sh' : AbstractState) → Entering ended receiver view sh' →
        ReceiverConforms p (receiver_holder receiver) (holder_of p k) × (method_role p m ≡ Some Construct → k ≡ m) × CountsAs p (receiver_holder receiver) view (holder_of p k) →
        serves p k ≡ false → (after : AbstractState) → IsImpliedBy after (entry_shape p m) → (r : Place) → Fits p (seen cs) (held cs r) (claims_over k receiver after sh' r)
    begins {view = view} k receiver sh' e receiver_holding silent after w (Register f i) = grind (arith, nat_tests, fits_weaker p)
    begins {view = view} k receiver sh' e receiver_holding silent after w (Entry j) = grind (arith, nat_tests)
    begins {view = view} k receiver sh' e receiver_holding silent after w (Field n f) = go receiver receiver_holding e.fields
      where
        below : Kind
        below = claim p (declared p cs) (Method fr sh' ∷ ls) (Field n f)

        go : (receiver : Receiver) → ReceiverConforms p (receiver_holder receiver) (holder_of p k) × (method_role p m ≡ Some Construct → k ≡ m) × CountsAs p (receiver_holder receiver) view
            (holder_of p k) → FieldsBegin view receiver → Fits p (seen cs) (held cs (Field n f)) (receiver_claim p (holder_of p k) receiver after n f below)
        go Static may b = e.fits (Field n f)
        go AtRoot may b = e.fits (Field n f)
        go (Inside o from) may b = inside (o.name == n) refl (field_thing p (holder_of p k) f) refl
          where
            inside : (at : Bool) → (o.name == n) ≡ at → (own : Option Thing) →
                field_thing p (holder_of p k) f ≡ own → Fits p (seen cs) (held cs (Field n f)) (cond at (own_field own (field after f) below) below)
            inside true same (Some x) is = subst (λ j. Fits p (seen cs) (held cs (Field j f)) (filled (Some x) (field after f))) (eqb-true o.name n same)
                (fits_weaker p (seen cs) (held cs (Field o.name f)) (filled_more (Some x) _ _ (w.fields f)) (b k may f x is))
            inside true same None is = e.fits (Field n f)
            inside false other own is = e.fits (Field n f)
    begins {view = view} k receiver sh' e receiver_holding silent after w (Elsewhere Root) = grind (arith, nat_tests)
    begins {view = view} k receiver sh' e receiver_holding silent after w (Elsewhere In_service) = grind (arith, nat_tests, plain_claim)
    begins {view = view} k receiver sh' e receiver_holding silent after w (Elsewhere o) = e.fits (Elsewhere o)
    begins {view = view} k receiver sh' e receiver_holding silent after w (Going j) = e.fits (Going j)

    -- so what runs in its place is entered, over these layers, which claim what the caller claims
    pub enter : {ended : ℕ} (receiver : Receiver) (sh' : AbstractState) (over : List Layer) (k : ℕ) (view : Option ℕ) → RunsFor p m k (receiver_holder receiver) view →
        (IsServed over → ⊥) → Entering ended receiver view sh' → length (tasks_of over) ≡ depth → length (items_of over) ≡ height → ((d : Place → Kind)
        (r : Place) → claim p d over r ≡ claim p d (Method fr sh' ∷ ls) r) → ((o : Object) → states_claim p o over ≡ states_claim p o (Method fr sh' ∷ ls)) →
        ReceiverIsHeld p cs over receiver → IsApart p view k receiver over → Stack p t cs (Returns k receiver) over → (s' : State) →
        s'.cells ≡ cs → s'.tasks ≡ Run (callee k view receiver) ∷ tasks_of over → forms s'.items ≡ items_of over → AllUndo p s'.items → WellTyped p t s'
    enter receiver sh' over k view runs unserved e at_depth high same same_states receiver_held apart stack s' cells tasks items undo_operations =
        let leads = typed.entry k runs.there in
        let w = begins_as p m k (receiver_holder receiver) view runs leads.0 leads.2 in
        let good : Good p t cs (Method (callee k view receiver) leads.0 ∷ over) = record {
          stack = (
            leads.1,
            record {
              words = λ i. word_fits_weaker (at None ws i) (w.registers i) (passed.given i);
              holder = runs.holder;
              view = runs.counts;
              height = sym high;
              alone = λ cancels. absurd (true≢false (sym cancels ∙ plain));
              message = (λ serving. absurd (true≢false (sym serving ∙ silent)), λ served. absurd (unserved served));
            },
            receiver_held,
            apart,
            stack,
          );
          fits = λ r. rw (as_begun leads.0 w r) (begins k receiver sh' e (runs.holder, runs.only, runs.counts) silent leads.0 w r);
          conforms_to = grind (arith, nat_tests, known_plain, conforms_to_less, same_object);
          no_duplicates = passed.no_duplicates;
        } in
        begins_well p t cs (callee k view receiver) leads.0 over s' w.entries good cells tasks items undo_operations
      where
        plain : is_cancel (method_role p k) ≡ false
        plain = ap is_cancel runs.role ∙ cancels_not

        silent : serves p k ≡ false
        silent = ap is_service runs.role ∙ serves_not

        as_begun : (after : AbstractState) → IsImpliedBy after (entry_shape p m) → (r : Place) →
            claim p (declared p cs) (Method (callee k view receiver) after ∷ over) r ≡ claims_over k receiver after sh' r
        as_begun after w x = grind arith

    -- the caller below, while the call lasts
    pub caller : {ended : ℕ} {view : Option ℕ} (receiver : Receiver) (sh' : AbstractState) (back : Back) → Entering ended receiver view sh' → Stands p t back fr sh' →
        Stack p t cs back (Method fr sh' ∷ ls)
    caller receiver sh' back e stands = (stands, frames_reworded has_task.good.stack.1 e.words, passed.receiver_held, has_task.good.stack.3, passed.stack)

    -- the cleanup stack is as it was
    pub same_high : {ended : ℕ} {view : Option ℕ} (receiver : Receiver) (sh' : AbstractState) → Entering ended receiver view sh' → forms s.items ≡ items_of (Method fr sh' ∷ ls)
    same_high receiver sh' e = has_task.items ∙ sym e.items

    -- the fields of an object that is not under construction
    do_fields : (o : Object) (from : Place) (view : Option ℕ) (sh' : AbstractState) →
        ((r : Place) → Fits p (seen cs) (held cs r) (field_state p t fr ls depth deep (declared p cs) regs sh' r)) → named cs o.name ≡ Some o →
        IsApart p view m (Inside o from) (Method fr sh' ∷ ls) → method_role p m ≡ Some Do → FieldsBegin view (Inside o from)
    do_fields o from view sh' fits lives apart role k may f x is = let claims = claim_in_view p (declared p cs) (Method fr sh' ∷ ls) o.name f (λ f. filled
        (field_thing p (thing_holder o.thing) f) Perhaps) view apart.2.0 (ap is_some (may.2.fields f x is)) (ap (λ y. declared_field p y f) lives) in
        rw (ap (λ r. at Perhaps (entry_fields r) f) role ∙ at_alike 8 Perhaps f)
        (rw (claims ∙ ap (λ y. filled y Perhaps) (may.0.fields f x is)) at (fits (Field o.name f)))

    -- the fields of the called method's class are null
    abbrev AllNull : Object → Type 0
    AllNull o = (f : ℕ) (x : Thing) → field_thing p (holder_of p m) f ≡ Some x → held cs (Field o.name f) ≡ None

    construct_fields : (o : Object) (from : Place) (view : Option ℕ) → AllNull o → method_role p m ≡ Some Construct → FieldsBegin view (Inside o from)
    construct_fields o from view null role k may f x is =
        let none = null f x (ap (λ j. field_thing p (holder_of p j) f) (sym (may.1 role)) ∙ is) in
        rw (ap (λ r. at Perhaps (entry_fields r) f) role) (rw none (fits_fresh p (seen cs) (Some x) 8 f))

    -- it is a plain method, or a construct that finds them null
    abbrev Starts : Object → Type 0
    Starts o = method_role p m ≡ Some Do ⊎ ((method_role p m ≡ Some Construct) × AllNull o)

    start_fields : (o : Object) (from : Place) (view : Option ℕ) (sh' : AbstractState) →
        ((r : Place) → Fits p (seen cs) (held cs r) (field_state p t fr ls depth deep (declared p cs) regs sh' r)) → named cs o.name ≡ Some o →
        IsApart p view m (Inside o from) (Method fr sh' ∷ ls) → Starts o → FieldsBegin view (Inside o from)
    start_fields o from view sh' fits lives apart (inl role) = do_fields o from view sh' fits lives apart role
    start_fields o from view sh' fits lives apart (inr w) = construct_fields o from view w.1 w.0

    -- it is a plain call, or it constructs what is fresh
    abbrev Ages : InitState → Type 0
    Ages a = method_role p m ≡ Some Do ⊎ ((method_role p m ≡ Some Construct) × (a ≡ Fresh))

    -- so what it constructs was asked nothing
    fresh_one : (o : Object) (z : Thing) (a : InitState) → Fits p (seen cs) (Some o) (Own z a) → Ages a →
        (method_role p m ≡ Some Do) ⊎ ((method_role p m ≡ Some Construct) × (requested cs o.name ≡ None))
    fresh_one o z a here x = grind arith

    -- and finds its fields null
    starts_fresh : (o : Object) (z : Thing) (a : InitState) → Fits p (seen cs) (Some o) (Own z a) → Ages a → Starts o
    starts_fresh o z a here x = grind arith

    -- what a target asks, and how the method begins
    abbrev Begun : ℕ → Target → Type 0
    Begun ended target = AllTrue (needs_target p fr (tasks_of ls) s target m (method_class p m) first (length xs)) ×
        Entering ended (target_receiver p fr (tasks_of ls) s target (method_class p m))
        (target_view p fr (tasks_of ls) s target (method_class p m)) (while_called target (method_class p m) ended after_arguments)

    -- and what its object counts as
    abbrev Answer : ℕ → Target → Type 0
    Answer ended target = Begun ended target × CountsAs p
        (receiver_holder (target_receiver p fr (tasks_of ls) s target (method_class p m))) (target_view p fr (tasks_of ls) s target (method_class p m)) (holder_of p m)

    -- a static method
    on_nothing : (ended : ℕ) → method_class p m ≡ None → Entering ended Static None after_arguments
    on_nothing ended e = record {
      conforms_to = λ x lives other. passed.conforms_to x lives;
      begun = tt;
      settles = λ o from e w. cc;
      fits = passed.fits;
      words = passed.words;
      receiver_held = tt;
      apart = λ k. tt;
      holder = receiver_conforms_same p _ _ (sym (ap (λ k. holder_by (method_role p m) k) e ∙ holder_static (method_role p m) is_called.role));
      owning = λ i. refl;
      items = ap (λ es. objects es (items_of ls)) (moved_entries xs first sh);
      fields = tt;
    }

    -- how it begins on an object on which no layer works
    well_begun : (o : Object) (sh' : AbstractState) →
        named cs o.name ≡ Some o → Unworked o.name (Method fr sh' ∷ ls) → thing_kind p o.thing ≡ kind_of p (method_class p m) → begins_there p m ≡ true →
        (method_role p m ≡ Some Do) ⊎ ((method_role p m ≡ Some Construct) × (requested cs o.name ≡ None)) → BeginsWell (Inside o (Elsewhere Root)) sh'
    well_begun o sh' lives u kind may role = (grind (arith, nat_tests, unworked_rests p o (Method fr sh' ∷ ls) u, begun role), kind)
      where
        begun : (method_role p m ≡ Some Do) ⊎ ((method_role p m ≡ Some Construct) × (requested cs o.name ≡ None)) →
            ConformsTo (thing_kind p o.thing) (resting_in (before_of p m)) (requested cs o.name)
        begun x = grind (arith, nat_tests, unworked_rests p o, conforms_to_less, conforms_to_first)

    target_kind : (y : ℕ) (x : Object) (z : Thing) → method_class p m ≡ Some y → is_subtype p x.thing z ≡ true → is_subtype p z (An_object_of y) ≡ true →
        thing_kind p x.thing ≡ kind_of p (method_class p m)
    target_kind y x z class a b = of_family x.thing (stands_along p x.thing z (An_object_of y) a b) ∙ ap (kind_of p) (sym class)
      where
        of_family : (v : Thing) → is_subtype p v (An_object_of y) ≡ true → thing_kind p v ≡ kind_of p (Some y)
        of_family (An_object_of b) stands = wired.family.kinds b y stands
        of_family A_message stands = cc

    -- it is not the caller's own
    settles_not : (ended : ℕ) (sh' : AbstractState) (o : Object) (q : Place) →
        works_at o.name fr.receiver ≡ false → (x : Object) (from : Place) → Inside o q ≡ Inside x from → works_at x.name fr.receiver ≡ true → sh'.states ≡ ended
    settles_not ended sh' o q off x from e w = grind (arith, nat_tests)

    abbrev worked : ℕ → AbstractState
    worked ended = record after_arguments { fields = replicate 8 Perhaps; states = ended }

    opened : (ended : ℕ) → OwnsNoMore (worked ended) after_arguments
    opened ended = record {
      registers = λ i. alike;
      fields = λ i. subst (λ x. WeakerFilling x (field after_arguments i)) (sym (at_alike 8 Perhaps i)) (any (field after_arguments i));
      entries = refl;
      message_state = refl;
    }
      where
        any : (x : FieldState) → WeakerFilling Perhaps x
        any Empty = perhaps_empty
        any Full = perhaps_full
        any Perhaps = alike_filling

    -- a method of the caller's own object
    on_own : (ended : ℕ) (k b : ℕ) (o : Object) (from : Place) → fr.receiver ≡ Inside o from → thing_holder o.thing ≡ Member b → descends p b k ≡ true →
        method_class p m ≡ Some k → Starts o → IsTrue (has (before_of p m) after_arguments.states) → Entering ended (Inside o from) fr.view (worked ended)
    on_own ended k b o from eh member stands class starts before =
        let holds : Holds p cs ls o from = subst (λ h. ReceiverIsHeld p cs ls h) eh passed.receiver_held in
        let apart : IsApart p fr.view fr.method (Inside o from) ls = subst (λ h. IsApart p fr.view fr.method h ls) eh has_task.good.stack.3 in
        let apart' : (k : ℕ) → IsApart p fr.view k (Inside o from) (Method fr (worked ended) ∷ ls) =
        λ k. (apart.0, (subst (λ h. NotIn o.name h) (sym eh) apart.0, apart.1), (own_fields, tt), inl own_receiver_works) in
        let fits : (r : Place) → Fits p (seen cs) (held cs r) (field_state p t fr ls depth deep (declared p cs) regs (worked ended) r) =
        λ r. fits_weaker p (seen cs) (held cs r) (grind (arith, nat_tests, filled_weaker_below depth, claim_weaker p, opened ended)) (passed.fits r) in
        record {
          fits = fits;
          words = passed.words;
          receiver_held = record {
            there = holds.there;
            lives = holds.lives;
            below = below_more from fr (worked ended) ls holds.below;
            ready = grind (arith, nat_tests, claim_from);
          };
          apart = apart';
          holder = grind (arith, nat_tests, holder_called, receiver_conforms_family p wired.family b k stands);
          owning = λ i. refl;
          items = ap (λ es. objects es (items_of ls)) (moved_entries xs first sh);
          fields = start_fields o from fr.view (worked ended) fits holds.lives (apart' m) starts;
          conforms_to = grind (arith, nat_tests, below);
          begun = (own_begun holds.lives, member_kind p o.thing b member ∙ wired.family.kinds b k stands ∙ ap (kind_of p) (sym class));
          settles = λ x q e w. refl;
        }
      where
        own_receiver_works : works_at o.name fr.receiver ≡ true
        own_receiver_works = ap (λ h. works_at o.name h) eh ∙ eq-eqb o.name _ refl

        below : Object → Known
        below x = states_claim p x ls

        own_begun : named cs o.name ≡ Some o → ConformsTo (thing_kind p o.thing) (known_there o (worked ended) (before_of p m)) (requested cs o.name)
        own_begun lives = go (works_at o.name fr.receiver) own_receiver_works (passed.conforms_to o lives)
          where
            go : (b : Bool) → b ≡ true → ConformsTo
                (thing_kind p o.thing) (cond b (known_at p fr after_arguments.states (below o)) (below o)) (requested cs o.name) → ConformsTo (thing_kind p o.thing)
                (record { states = before_of p m; cancelled = (cond b (known_at p fr ended (below o)) (below o)).cancelled }) (requested cs o.name)
            go b e h = grind (arith, conforms_to_less)

        own_fields : InView p fr.view (λ f. filled (field_thing p (thing_holder o.thing) f) Perhaps) o.name (Method fr (worked ended) ∷ ls)
        own_fields = grind (arith, nat_tests, waits_in_view p fr o from eh, at_alike 8 Perhaps)

    -- where an object stood before the arguments were passed, it stands after
    stays_at : (q : Place) (o : Object) → ((i : ℕ) → first ≤ i → i < (first + length xs) → same_place (lower p t fr ls depth deep i) q ≡ false) →
        ((i : ℕ) → same_place (upper p t fr ls depth deep i) q ≡ false) → held s.cells q ≡ Some o → held cs q ≡ Some o
    stays_at q o lo up there = grind (
      arith,
      nat_tests,
      passed_elsewhere p s fr ls depth deep t,
      upper p t fr ls depth deep,
      fits_unowning p,
      claim_register_above p s.cells (Method fr sh ∷ ls) depth,
    )

    -- what is known of an object on which a method of that class may work
    target_met : (y : ℕ) (o : Option Object) (x : Object) (z : Thing) → o ≡ Some x → is_subtype p x.thing z ≡ true → is_subtype p z (An_object_of y) ≡ true →
        AllTrue (needs_target_object p (Some y) o)
    target_met y o x z e a b = grind (arith, nat_tests, stands_along p x.thing z (An_object_of y) a b)

    target_holder : (y : ℕ) (x : Object) (z : Thing) →
        method_class p m ≡ Some y → is_subtype p x.thing z ≡ true → is_subtype p z (An_object_of y) ≡ true → ReceiverConforms p (thing_holder x.thing) (holder_of p m)
    target_holder y x z class a b = rw (ap (λ c. holder_by (method_role p m) c) class ∙ holder_called (method_role p m) y is_called.role)
        (of_family x.thing (stands_along p x.thing z (An_object_of y) a b))
      where
        of_family : (v : Thing) → is_subtype p v (An_object_of y) ≡ true → ReceiverConforms p (thing_holder v) (Member y)
        of_family (An_object_of b) stands = receiver_conforms_family p wired.family b y stands
        of_family A_message stands = cc

    -- a construct method works on a fresh object, another on a ready one
    age_of : (k : Kind) → AllTrue (age_need p m (is_construct (method_role p m)) k ∷ []) →
        (method_role p m ≡ Some Do) ⊎ ((method_role p m ≡ Some Construct) × (is_fresh_kind k ≡ true))
    age_of k n = grind (arith, nat_tests)

    -- what a register owns
    module _ (r y : ℕ) (class : method_class p m ≡ Some y) (z : Thing) (a : InitState) (kind : register sh r ≡ Own z a) (for : is_subtype p z (An_object_of y) ≡ true)
        (apart : (r < first) ⊎ ((first + length xs) ≤ r)) where
      abbrev q : Place
      q = top ls r

      abbrev made_ready_shape : AbstractState
      made_ready_shape = set_register after_arguments r (made_ready (register after_arguments r))

      same_kind : register after_arguments r ≡ Own z a
      same_kind = moved_register xs first sh r apart ∙ kind

      now_ready : made_ready (register after_arguments r) ≡ Own z Ready
      now_ready = ap made_ready same_kind

      aside : (i : ℕ) → first ≤ i → i < (first + length xs) → same_place (lower p t fr ls depth deep i) q ≡ false
      aside i le lt = grind (arith, nat_tests, ne_eqb i r, apart)

      above : (i : ℕ) → same_place (upper p t fr ls depth deep i) q ≡ false
      above i = ap (λ b. b && (i == r)) (ne_eqb depth (length (tasks_of ls)) (λ e. absurd (omega arith)))

      owned : (o : Object) × (held s.cells q ≡ Some o) × (is_subtype p o.thing z ≡ true)
      owned = held_own p (seen s.cells) (held s.cells q) z a (rw kind at (kind_fits p t c s fr sh ls has_task r))

      on_register : (ended : ℕ) → begins_there p m ≡ true → Ages a → Entering ended (Inside owned.0 q) (thing_view owned.0.thing) made_ready_shape
      on_register ended may ages = record {
        conforms_to = λ x lives other. passed.conforms_to x lives;
        begun = well_begun owned.0 made_ready_shape lives u.unworked (target_kind y owned.0 z class owned.2 for) may (fresh_one owned.0 z a here_fits ages);
        settles = settles_not ended made_ready_shape owned.0 q u.unworked.0;
        fits = fits;
        words = words_kept fr.words after_arguments r (made_ready (register after_arguments r)) passed.words (grind (arith, nat_tests, now_ready, same_kind));
        receiver_held = record { there = there; lives = lives; below = omega arith; ready = ap is_ready_kind (claim_register p (λ x. Null) fr made_ready_shape ls r ∙ at_r ∙ now_ready) };
        apart = apart_so;
        holder = target_holder y owned.0 z class owned.2 for;
        owning = owning;
        items = ap (λ es. objects es (items_of ls)) (moved_entries xs first sh);
        fields = start_fields owned.0 q (thing_view owned.0.thing) made_ready_shape fits lives (apart_so m) (starts_fresh owned.0 z a here_fits ages);
      }
        where
          there : held cs q ≡ Some owned.0
          there = stays_at q owned.0 aside above owned.1

          lives : named cs owned.0.name ≡ Some owned.0
          lives = held_lives cs q owned.0 passed.no_duplicates there

          at_r : register made_ready_shape r ≡ made_ready (register after_arguments r)
          at_r = grind (arith, nat_tests, at-set_extending Unset, eq-eqb r)

          here_fits : Fits p (seen cs) (Some owned.0) (Own z a)
          here_fits = grind (arith, nat_tests, there, same_kind, field_state p t fr ls depth deep, ne_eqb depth, claim_register p)

          fits : (x : Place) → Fits p (seen cs) (held cs x) (field_state p t fr ls depth deep (declared p cs) regs made_ready_shape x)
          fits x = rw (under p t fr ls depth deep (declared p cs) after_arguments regs r (made_ready (register after_arguments r)) x) (go (same_place q x) refl)
            where
              go : (b : Bool) → same_place q x ≡ b → Fits p (seen cs) (held cs x)
                  (cond b (made_ready (register after_arguments r)) (field_state p t fr ls depth deep (declared p cs) regs after_arguments x))
              go true e = subst (λ k. Fits p (seen cs) (held cs x) k) (sym now_ready)
                  (subst (λ w. Fits p (seen cs) w (Own z Ready)) (sym (ap (λ w. held cs w) (sym (same_place-true q x e)) ∙ there)) (owned.2, tt))
              go false e = passed.fits x

          u : Untouched p (λ f. filled (field_thing p (thing_holder owned.0.thing) f) Perhaps) owned.0.name (Method fr made_ready_shape ∷ ls)
          u = untouched_method p t cs q owned.0 passed.no_duplicates there (λ f. filled (field_thing p (thing_holder owned.0.thing) f) Perhaps) fr made_ready_shape ls
              (λ x from e. tt) (omega arith) passed.receiver_held (untouched p t cs q owned.0 passed.no_duplicates there
              (λ f. filled (field_thing p (thing_holder owned.0.thing) f) Perhaps) ls (Returns fr.method fr.receiver) (omega arith) passed.stack)

          apart_so : (k : ℕ) → IsApart p (thing_view owned.0.thing) k (Inside owned.0 q) (Method fr made_ready_shape ∷ ls)
          apart_so k = (tt, u.none_in, (λ f some. u.unclaimed f, tt), inr u.unworked)

          owning : (i : ℕ) → is_unowning (register made_ready_shape i) ≡ is_unowning (register after_arguments i)
          owning i = ap is_unowning (at-set_extending Unset after_arguments.registers r i (made_ready (register after_arguments r))) ∙ go (r == i) refl
            where
              go : (b : Bool) → (r == i) ≡ b →
                  is_unowning (cond b (made_ready (register after_arguments r)) (register after_arguments i)) ≡ is_unowning (register after_arguments i)
              go true e = grind (arith, nat_tests, now_ready, eqb-true r i e, same_kind)
              go false e = refl

    -- what a field owns
    module _ (f y : ℕ) (class : method_class p m ≡ Some y) (z : Thing) (a : InitState) (kind : filled (field_thing p (receiver_holder fr.receiver) f) (field sh f) ≡ Own z a)
        (for : is_subtype p z (An_object_of y) ≡ true) (some : is_some (field_thing p (receiver_holder fr.receiver) f) ≡ true)
        (own : is_some (field_thing p (holder_of p fr.method) f) ≡ true) (role : method_role p m ≡ Some Do) where
      abbrev spot : Place
      spot = field_place fr.receiver f

      aside_field : (receiver : Receiver) (i j : ℕ) → same_place (Register i j) (field_place receiver f) ≡ false
      aside_field x i j = grind arith

      kept_in : (o : Object) × (held s.cells spot ≡ Some o) × (is_subtype p o.thing z ≡ true)
      kept_in = grind (arith, nat_tests, held_own p, field_fits p t c s fr sh ls has_task f own)

      on_field : (ended : ℕ) → begins_there p m ≡ true → Entering ended (Inside kept_in.0 spot) (thing_view kept_in.0.thing) after_arguments
      on_field ended may = record {
        conforms_to = λ x lives other. passed.conforms_to x lives;
        begun = well_begun kept_in.0 after_arguments lives u.unworked (target_kind y kept_in.0 z class kept_in.2 for) may (inl role);
        settles = settles_not ended after_arguments kept_in.0 spot u.unworked.0;
        fits = passed.fits;
        words = passed.words;
        receiver_held = record {
          there = there;
          lives = lives;
          below = below fr.receiver refl;
          ready = ap is_ready_kind
              (claim_field p (λ x. Null) fr after_arguments ls fr.receiver f refl (receiver_conforms_field p _ _ f has_task.good.stack.1.holder own) some) ∙ filled_ready _ _;
        };
        apart = apart_so;
        holder = target_holder y kept_in.0 z class kept_in.2 for;
        owning = λ i. refl;
        items = ap (λ es. objects es (items_of ls)) (moved_entries xs first sh);
        fields = do_fields kept_in.0 spot (thing_view kept_in.0.thing) after_arguments passed.fits lives (apart_so m) role;
      }
        where
          there : held cs spot ≡ Some kept_in.0
          there = stays_at spot kept_in.0 (λ i le lt. aside_field fr.receiver _ i) (λ i. aside_field fr.receiver _ i) kept_in.1

          lives : named cs kept_in.0.name ≡ Some kept_in.0
          lives = held_lives cs spot kept_in.0 passed.no_duplicates there

          outside : Outside spot ls
          outside = field_outside p t c s fr sh ls has_task fr.receiver f refl some

          below : (receiver : Receiver) → fr.receiver ≡ receiver → IsBelow (field_place receiver f) (Method fr after_arguments ∷ ls)
          below (Inside x from) e = inl (subst (λ h. WorksOn x.name h) (sym e) refl)
          below _ e = tt

          u : Untouched p (λ f. filled (field_thing p (thing_holder kept_in.0.thing) f) Perhaps) kept_in.0.name (Method fr after_arguments ∷ ls)
          u = untouched_method p t cs spot kept_in.0 passed.no_duplicates there (λ f. filled (field_thing p (thing_holder kept_in.0.thing) f) Perhaps) fr after_arguments
              ls (λ x from e. field_not_from p t c s fr sh ls has_task fr.receiver f refl x from e) outside passed.receiver_held (untouched p t cs spot kept_in.0
              passed.no_duplicates there (λ f. filled (field_thing p (thing_holder kept_in.0.thing) f) Perhaps) ls (Returns fr.method fr.receiver) outside passed.stack)

          no_field_of : (receiver : Receiver) → fr.receiver ≡ receiver → IsNoFieldOf kept_in.0.name (field_place receiver f)
          no_field_of (Inside x from) e =
              let holds : Holds p cs ls x from = subst (λ h. ReceiverIsHeld p cs ls h) e passed.receiver_held in
              eqb_comm kept_in.0.name x.name ∙ other_name p t cs spot kept_in.0 passed.no_duplicates there from x holds.there
              (outside_differs spot from ls outside (field_not_from p t c s fr sh ls has_task fr.receiver f refl x from e) holds.below)
          no_field_of _ e = tt

          apart_so : (k : ℕ) → IsApart p (thing_view kept_in.0.thing) k (Inside kept_in.0 spot) (Method fr after_arguments ∷ ls)
          apart_so k = (no_field_of fr.receiver refl, u.none_in, (λ f some. u.unclaimed f, tt), inr u.unworked)

    -- a construct method works on a fresh one
    ages : (k : Kind) (z : Thing) (a : InitState) → k ≡ Own z a → (method_role p m ≡ Some Do) ⊎ ((method_role p m ≡ Some Construct) × (is_fresh_kind k ≡ true)) →
        (method_role p m ≡ Some Do) ⊎ ((method_role p m ≡ Some Construct) × (a ≡ Fresh))
    ages k z a e x = grind arith

    -- what a cleanup entry owns
    module _ (k y : ℕ) (class : method_class p m ≡ Some y) (z : Thing) (a : InitState)
        (within : k < length sh.entries) (kind : entry_kind (at Pushed_operation sh.entries k) ≡ Own z a) (for : is_subtype p z (An_object_of y) ≡ true) where
      abbrev entry_stack : Place
      entry_stack = entry_place s.items k

      abbrev index : ℕ
      index = length s.items - suc k

      abbrev made_ready_pile : AbstractState
      made_ready_pile = record after_arguments { entries = made_ready_at after_arguments.entries k }

      high : length s.items ≡ length (objects sh.entries (items_of ls))
      high = sym (length_forms s.items) ∙ ap length has_task.items

      same_entries : after_arguments.entries ≡ sh.entries
      same_entries = moved_entries xs first sh

      deeper : length (items_of ls) ≤ index
      deeper = omega (arith, high, within, length_each sh.entries (items_of ls))

      -- what is claimed of the entry, by the caller as it is and while the call lasts
      claimed : (d : Place → Kind) → claim p d (Method fr sh ∷ ls) entry_stack ≡ entry_kind (at Pushed_operation sh.entries k)
      claimed d = grind (arith, nat_tests, high, entry_claimed sh.entries)

      anew : (d : Place → Kind) (j : ℕ) →
          claim p d (Method fr made_ready_pile ∷ ls) (Entry j) ≡ cond (index == j) (Own z Ready) (claim p d (Method fr after_arguments ∷ ls) (Entry j))
      anew d j = grind (arith, nat_tests, same_entries, made_ready_claim sh.entries, high)

      piled : (o : Object) × (held s.cells entry_stack ≡ Some o) × (is_subtype p o.thing z ≡ true)
      piled = held_own p (seen s.cells) (held s.cells entry_stack) z a (rw (claimed (declared p s.cells) ∙ kind) at (has_task.good.fits entry_stack))

      on_entry : (ended : ℕ) → begins_there p m ≡ true → Ages a → Entering ended (Inside piled.0 entry_stack) (thing_view piled.0.thing) made_ready_pile
      on_entry ended may ages = record {
        conforms_to = λ x lives other. passed.conforms_to x lives;
        begun = well_begun piled.0 made_ready_pile lives u.unworked (target_kind y piled.0 z class piled.2 for) may (fresh_one piled.0 z a here_fits ages);
        settles = settles_not ended made_ready_pile piled.0 entry_stack u.unworked.0;
        fits = fits;
        words = passed.words;
        receiver_held = record {
          there = there;
          lives = lives;
          below = omega (arith, high, within, length_each sh.entries (items_of ls), ap length same_items);
          ready = grind (arith, nat_tests, anew, eq-eqb);
        };
        apart = apart_so;
        holder = target_holder y piled.0 z class piled.2 for;
        owning = λ i. refl;
        items = same_items;
        fields = start_fields piled.0 entry_stack (thing_view piled.0.thing) made_ready_pile fits lives (apart_so m) (starts_fresh piled.0 z a here_fits ages);
      }
        where
          same_items : objects made_ready_pile.entries (items_of ls) ≡ objects sh.entries (items_of ls)
          same_items = made_ready_items after_arguments.entries k (items_of ls) ∙ ap (λ es. objects es (items_of ls)) same_entries

          there : held cs entry_stack ≡ Some piled.0
          there = stays_at entry_stack piled.0 (λ i le lt. refl) (λ i. refl) piled.1

          lives : named cs piled.0.name ≡ Some piled.0
          lives = held_lives cs entry_stack piled.0 passed.no_duplicates there

          here_fits : Fits p (seen cs) (Some piled.0) (Own z a)
          here_fits = grind (arith, nat_tests, there, same_entries, claimed)

          fits : (x : Place) → Fits p (seen cs) (held cs x) (field_state p t fr ls depth deep (declared p cs) regs made_ready_pile x)
          fits (Register f i) = passed.fits (Register f i)
          fits (Entry j) = subst (λ k. Fits p (seen cs) (held cs (Entry j)) k) (sym (anew (declared p cs) j)) (go (index == j) refl)
            where
              go : (b : Bool) → (index == j) ≡ b →
                  Fits p (seen cs) (held cs (Entry j)) (cond b (Own z Ready) (claim p (declared p cs) (Method fr after_arguments ∷ ls) (Entry j)))
              go true e = subst (λ w. Fits p (seen cs) w (Own z Ready)) (sym (ap (λ n. held cs (Entry n)) (sym (eqb-true index j e)) ∙ there)) (piled.2, tt)
              go false e = passed.fits (Entry j)
          fits (Field n f) = grind (arith, nat_tests)
          fits (Elsewhere Root) = grind (arith, nat_tests)
          fits (Elsewhere w) = passed.fits (Elsewhere w)
          fits (Going j) = passed.fits (Going j)

          u : Untouched p (λ f. filled (field_thing p (thing_holder piled.0.thing) f) Perhaps) piled.0.name (Method fr made_ready_pile ∷ ls)
          u = untouched_method p t cs entry_stack piled.0 passed.no_duplicates there (λ f. filled (field_thing p (thing_holder piled.0.thing) f) Perhaps) fr made_ready_pile ls
              (λ x from e. tt) deeper passed.receiver_held (untouched p t cs entry_stack piled.0 passed.no_duplicates there
              (λ f. filled (field_thing p (thing_holder piled.0.thing) f) Perhaps) ls (Returns fr.method fr.receiver) deeper passed.stack)

          apart_so : (k : ℕ) → IsApart p (thing_view piled.0.thing) k (Inside piled.0 entry_stack) (Method fr made_ready_pile ∷ ls)
          apart_so k = (tt, u.none_in, (λ f some. u.unclaimed f, tt), inr u.unworked)

    -- what a place owns is what the method works on
    at_receiver : {ended : ℕ} (q : Place) (o : Object) (sh' : AbstractState) → held s.cells q ≡ Some o →
        Entering ended (Inside o q) (thing_view o.thing) sh' → Entering ended (receiver_at (held s.cells q) q) (receiver_view (receiver_at (held s.cells q) q)) sh'
    at_receiver {ended = ended} q o sh' there g = subst (λ x. Entering ended (receiver_at x q) (receiver_view (receiver_at x q)) sh') (sym there) g

    -- each kind of target
    on_this : (ended : ℕ) (k : Option ℕ) → method_class p m ≡ k → AllTrue (rule_target p fr.method sh This m
        (method_class p m) (is_construct (method_role p m)) first (length xs)) → may_begin p m This after_arguments.states ≡ true → Answer ended This
    on_this ended None e n may =
        let begun = on_nothing ended e in (
          grind (arith, nat_tests, parents_met p t wired s fr sh ls has_task m, begun),
          grind (arith, nat_tests, receiver_conforms_counts p Static),
        )
    on_this ended (Some k) e n may = go (method_class p fr.method) refl
      where
        -- the caller works on an object of that class; a construct is its parent's
        starts : (o : Object) (from : Place) → fr.receiver ≡ Inside o from → Starts o
        starts o from at = of is_called.role
          where
            of : (method_role p m ≡ Some Do) ⊎ (method_role p m ≡ Some Construct) → Starts o
            of (inl r) = inl r
            of (inr r) =
                inr (r, raised p t wired s fr sh ls has_task m r n.1 cs after_arguments (moved_fields xs first sh) o from at (λ f. passed.fits (Field o.name f)))

        go : (own : Option ℕ) → method_class p fr.method ≡ own → Answer ended This
        go None f = let clash : false ≡ true = sym (ap (λ x. stands_here p x (method_class p m)) f ∙ ap (λ x. stands_here p None x) e) ∙ n.0 in cc
        go (Some y) f =
            let stands : is_subtype p (An_object_of y) (An_object_of k) ≡ true = sym (grind (arith, nat_tests)) ∙ n.0 in
            let own_holder : holder_of p fr.method ≡ Member y = ap (λ x. holder_by (method_role p fr.method) x) f
            ∙ holder_member (method_role p fr.method) y (λ r. let clash : Some y ≡ None = sym f ∙ wired.static_main fr.method r in cc) in
            let receiver_conforms = has_task.good.stack.1.holder.member y own_holder in
            let counts = has_task.good.stack.1.view in
            let above : descends p receiver_conforms.0 k ≡ true = stands_along p (An_object_of receiver_conforms.0) (An_object_of y) (An_object_of k) receiver_conforms.2 stands in
            let w = receiver_member fr.receiver receiver_conforms.0 receiver_conforms.1 in
            let viewed = counts.some receiver_conforms.0 receiver_conforms.1 in
            let between = counts.between viewed.0 viewed.1 in
            let works : holder_of p m ≡ Member k = ap (λ c. holder_by (method_role p m) c) e ∙ holder_called (method_role p m) k is_called.role in
            let fits : descends p viewed.0 k ≡ true = through p viewed.0 y k (grind arith) stands in (
              (
                (ap (λ k. works_on p k fr.view) e ∙ ap (λ v. works_on p (Some k) v) viewed.1 ∙ fits, (parents_met p t wired s fr sh ls has_task m (is_construct (method_role p m)) n.1, tt)),
                subst (λ x. Entering ended (own_receiver x fr.receiver) (own_view x fr.view) (while_called This x ended after_arguments)) (sym e)
                    (subst (λ h. Entering ended h fr.view (worked ended)) (sym w.2)
                    (on_own ended k receiver_conforms.0 w.0 w.1 w.2 w.3 above e (starts w.0 w.1 w.2) (grind (arith, nat_tests)))),
              ),
              subst (λ x. CountsAs p (receiver_holder (own_receiver x fr.receiver)) (own_view x fr.view) (holder_of p m)) (sym e)
                  (subst (λ x. CountsAs p (receiver_holder fr.receiver) x (holder_of p m)) (sym viewed.1) (record {
                    some = λ c is. (viewed.0, refl);
                    between = λ v is.
                        let same : viewed.0 ≡ v = cc in (
                          between.0,
                          between.1,
                          subst (λ x. descends p between.0 x ≡ true) same between.2,
                          k,
                          works,
                          subst (λ x. descends p x k ≡ true) same fits,
                        );
                    fields = λ f t is. wired.family.inherits viewed.0 k f t fits (ap (λ h. field_thing p h f) (sym works) ∙ is);
                  })),
            )

    on_owned : (ended r : ℕ) (k : Option ℕ) → method_class p m ≡ k → AllTrue (rule_target p fr.method sh
        (On_register r) m (method_class p m) (is_construct (method_role p m)) first (length xs)) → begins_there p m ≡ true → Begun ended (On_register r)
    on_owned ended r None e n may = let clash : false ≡ true = sym (ap (λ x. is_target p x (register sh r)) e) ∙ n.0 in cc
    on_owned ended r (Some y) e n may =
        let w = own_for p (An_object_of y) (register sh r) (sym (ap (λ x. is_target p x (register sh r)) e) ∙ n.0) in
        let aside = apart_from first (length xs) r n.1.0 in
        let x = owned r y e w.0 w.1 w.2 w.3 aside in (
          (
            ap is_none (word_of_object (word fr r) (register sh r) (ap is_object_or_null w.2) (has_task.good.stack.1.words r)),
            all_join (needs_target_object p (method_class p m) (held s.cells (top ls r))) ((not (is_among first (length xs) r), WrongKind) ∷ []) (subst (λ k.
                AllTrue (needs_target_object p k (held s.cells (top ls r)))) (sym e) (target_met y (held s.cells (top ls r)) x.0 w.0 x.1 x.2 w.3)) (n.1.0, tt),
          ),
          at_receiver (top ls r) x.0 (while_called (On_register r) (method_class p m) ended after_arguments) x.1
              (on_register r y e w.0 w.1 w.2 w.3 aside ended may (ages (register sh r) w.0 w.1 w.2 (age_of (register sh r) n.1.1))),
        )

    on_kept : (ended f : ℕ) (k : Option ℕ) → method_class p m ≡ k → AllTrue (rule_target p fr.method sh
        (On_field f) m (method_class p m) (is_construct (method_role p m)) first (length xs)) → begins_there p m ≡ true → Begun ended (On_field f)
    on_kept ended f None e n may = grind (arith, nat_tests)
    on_kept ended f (Some y) e n may =
        let kind : Kind = filled (field_thing p (receiver_holder fr.receiver) f) (field sh f) in
        let declared_there = something (field_thing p (holder_of p fr.method) f) (field sh f) in
        let v = own_for p (An_object_of y) (filled (field_thing p (holder_of p fr.method) f) (field sh f)) (grind (arith, nat_tests)) in
        let same : kind ≡ filled (field_thing p (holder_of p fr.method) f) (field sh f) = grind (arith, nat_tests, receiver_conforms_field) in
        let w = own_for p (An_object_of y) kind (grind (arith, nat_tests)) in
        let there = something (field_thing p (receiver_holder fr.receiver) f) (field sh f) w.0 w.1 w.2 in
        let does_so = ready (field_thing p (holder_of p fr.method) f) (field sh f) (age_of (filled (field_thing p (holder_of p fr.method) f) (field sh f)) n.1) in
        let own = declared_there v.0 v.1 v.2 in
        let x = kept_in f y e w.0 w.1 w.2 w.3 there own does_so in (
          (declared_there v.0 v.1 v.2, subst (λ k. AllTrue (needs_target_object p k (held s.cells (field_place fr.receiver f)))) (sym e) (target_met y _ x.0 w.0 x.1 x.2 w.3)),
          at_receiver (field_place fr.receiver f) x.0 after_arguments x.1 (on_field f y e w.0 w.1 w.2 w.3 there own does_so ended may),
        )
      where
        something : (x : Option Thing) (y : FieldState) (z : Thing) (a : InitState) → filled x y ≡ Own z a → is_some x ≡ true
        something x y z a e = grind arith

        -- what a field owns is ready
        ready : (x : Option Thing) (y : FieldState) → (method_role p m ≡ Some Do) ⊎ ((method_role p m ≡ Some Construct) × (is_fresh_kind (filled x y) ≡ true)) →
            method_role p m ≡ Some Do
        ready x y (inl role) = role
        ready (Some x) Empty (inr w) = let clash : false ≡ true = w.1 in cc
        ready _ _ (inr w) = let clash : false ≡ true = w.1 in cc

    on_pushed : (ended k : ℕ) (c : Option ℕ) → method_class p m ≡ c → AllTrue (rule_target p fr.method sh
        (On_entry k) m (method_class p m) (is_construct (method_role p m)) first (length xs)) → begins_there p m ≡ true → Begun ended (On_entry k)
    on_pushed ended k None e n may = grind (arith, nat_tests)
    on_pushed ended k (Some y) e n may =
        let kind : Kind = entry_kind (at Pushed_operation sh.entries k) in
        let within : k < length sh.entries = ltb-true k (length sh.entries) n.0 in
        let w = own_for p (An_object_of y) kind (sym (ap (λ x. is_target p x kind) e) ∙ n.1.0) in
        let x = piled k y e w.0 w.1 within w.2 w.3 in (
          (
            entry_there sh.entries (items_of ls) s.items k has_task.items within,
            (
              entry_owns sh.entries (items_of ls) s.items k has_task.items within (ap is_unowning w.2),
              rw e (target_met y (held s.cells (entry_place s.items k)) x.0 w.0 x.1 x.2 w.3),
            ),
          ),
          at_receiver (entry_place s.items k) x.0 (while_called (On_entry k) (method_class p m) ended after_arguments) x.1
              (on_entry k y e w.0 w.1 within w.2 w.3 ended may (ages kind w.0 w.1 w.2 (age_of kind n.1.1))),
        )

    -- what is not the caller's own counts as its own class
    elsewhere : (ended : ℕ) (target : Target) → Begun ended target → target_view p fr
        (tasks_of ls) s target (method_class p m) ≡ receiver_view (target_receiver p fr (tasks_of ls) s target (method_class p m)) → Answer ended target
    elsewhere ended target b e = grind (arith, nat_tests, receiver_conforms_counts p)

    pub answer :
        (ended : ℕ) (target : Target) → AllTrue (rule_target p fr.method sh target m (method_class p m) (is_construct (method_role p m)) first (length xs)) →
        may_begin p m target after_arguments.states ≡ true → Answer ended target
    answer ended This n may = on_this ended (method_class p m) refl n may
    answer ended (On_register r) n may = elsewhere ended (On_register r) (on_owned ended r (method_class p m) refl n may) refl
    answer ended (On_field f) n may = elsewhere ended (On_field f) (on_kept ended f (method_class p m) refl n may) refl
    answer ended (On_entry k) n may = elsewhere ended (On_entry k) (on_pushed ended k (method_class p m) refl n may) refl

    -- what the result comes to owns nothing
    pub result_free : (x : ℕ) → is_unowning (register after_arguments x) ≡ true → is_none (held cs (top ls x)) ≡ true
    result_free x u = grind (arith, nat_tests, fits_unowning p, top ls x, ne_eqb depth, claim_register p)

    pub result_met : (g : Gives) (x : ℕ) → awaits g (register after_arguments x) ≡ true → AllTrue (needs_result p fr (tasks_of ls) s g cs x)
    result_met x y a = grind (arith, nat_tests, result_free)

    pub awaited : (g : Gives) (x : ℕ) (sh' : AbstractState) →
        ((i : ℕ) → is_unowning (register sh' i) ≡ is_unowning (register after_arguments i)) → awaits g (register after_arguments x) ≡ true → Awaits g x sh'
    awaited x y sh' same a = grind arith
