-- The last item of the cleanup stack is dealt with: its object is destroyed, or its operation runs, over the layers below it.
use Rattle.std.proofs.lemmas.Bool.Decides.{nat_tests}
use Rattle.std.proofs.Common.{[], Bool, List, None, Option, Some, ap, arith, cond, false, length, map, refl, subst, sym, true, ℕ, ℤ, ◌==◌, ◌∙◌, ◌∷◌, ◌≡◌, ◌≤◌}
use Rattle.std.proofs.lemmas.Bool.{true≢false, eqb-true}
use Rattle.std.specs.Prelude.{is_some}
use Rattle.aom_image.specs.Image.{Image}
use Rattle.aom_image.specs.Views.{method_class}
use Rattle.aom_image.specs.declared.method.Role.TheVariants.{Undo}
use Rattle.aom_image.specs.declared.method.Thing.TheVariants.{Object as An_object_of}
use Rattle.aom_roles.specs.Roles.{is_service}
use Rattle.aom_abstract_state.specs.Kinds.{entry_kind, filled, register}
use Rattle.aom_abstract_state.specs.Order.{IsImpliedBy}
use Rattle.aom_abstract_state.specs.AbstractState.{AbstractState}
use Rattle.aom_roles.specs.Tables.{at}
use Rattle.aom_roles.specs.Things.{Nobody, field_thing, holder_by, holder_of}
use Rattle.aom_typing_rules.specs.Typing.{IsTyped, Typing}
use Rattle.aom_abstract_state.specs.Arguments.{argument_kind, entry_shape}
use Rattle.aom_abstract_state.specs.declared.kind.InitState.{InitState}
use Rattle.aom_abstract_state.specs.declared.kind.CleanupEntry.{CleanupEntry}
use Rattle.aom_abstract_state.specs.declared.kind.CleanupEntry.TheVariants.{Object as Pushed_object, Operation as Pushed_operation}
use Rattle.aom_abstract_state.specs.declared.kind.FieldState.TheVariants.{Perhaps}
use Rattle.aom_abstract_state.specs.declared.kind.Kind.{Kind}
use Rattle.aom_abstract_state.specs.declared.kind.Kind.TheVariants.{Null, Own, Unset, Word}
use Rattle.aom_safety.proofs.Claimed.{claim_entry_above, claim_register_above, fits_weaker, stack_moved, word_fits_weaker}
use Rattle.aom_safety.proofs.Destroying.{no_going, untouched, goes_well}
use Rattle.aom_safety.proofs.Items.{length_forms}
use Rattle.aom_safety.proofs.SemanticsLemmas.{same_place-true, same_place_refl}
use Rattle.aom_safety.proofs.Straight.{fits_unowning}
use Rattle.aom_safety.proofs.ReceiverHolding.{counts_same, receiver_conforms_same}
use Rattle.aom_safety.specs.Claims.{Layer, Method, claim, declared, entry_form, forms, items_of, objects, tasks_of}
use Rattle.aom_semantics.specs.Cleanup.{dealt_with, destroyed, operation_frame, top_is_whole, top_place, top_matches_entry}
use Rattle.aom_semantics.specs.Effects.{applied, deals as deals_effect}
use Rattle.aom_safety.specs.Laws.{IsWired}
use Rattle.aom_semantics.specs.Places.{In_service, Elsewhere, Entry, Going, Object, Place, Register, NoDuplicates, changed, held, moved, seen}
use Rattle.aom_semantics.specs.State.{An_object, An_operation, Frame, Item, Run, State, Static, Task, thing_holder, word}
use Rattle.aom_safety.specs.WellTyped.{IsServed, AllUndo, Fits, Gone, IsUndo, Returns, Stack, WellTyped, WordFits}
use Rattle.aom_safety.specs.Requests.{AllConformTo}
use Rattle.aom_safety.proofs.Attending.{plain_claim}

-- without the last entry the layers claim nothing of its place, and else the same
pub less_claims : (f g : Place → Kind) (q : Place) (k : Kind) → ((r : Place) → f r ≡ changed g q k r) → g q ≡ Null → (r : Place) → g r ≡ changed f q Null r
less_claims f g q k more free r = grind (arith, nat_tests, same_place-true q r)

-- the layers with the last entry, and those below it, over which it is dealt with
pub record Dealing (p : Image) (t : Typing) (s : State) (e : CleanupEntry) (before below : List Layer) : Type 0 where
  pub fits : (r : Place) → Fits p (seen s.cells) (held s.cells r) (claim p (declared p s.cells) before r)
  pub claims : (r : Place) → claim p (declared p s.cells) before r ≡ changed (claim p (declared p s.cells) below) (Entry (length (items_of below))) (entry_kind e) r
  pub deep : length (tasks_of before) ≡ length (tasks_of below)
  pub conforms_to : AllConformTo p s.cells below
  pub no_duplicates : NoDuplicates s.cells
  pub items : forms s.items ≡ entry_form e ∷ items_of below
  pub undo_operations : AllUndo p s.items
  -- below a destruction, and below an operation
  pub under_object : Stack p t s.cells Gone below
  pub unserved : IsServed below → ⊥
  pub under_operation : (m : ℕ) → IsUndo p m → Stack p t s.cells (Returns m Static) below

module _ (p : Image) (t : Typing) (wired : IsWired p) (typed : IsTyped p t) (s : State) (e : CleanupEntry) (before below : List Layer)
    (d : Dealing p t s e before below) where
  abbrev q : Place
  q = Entry (length (items_of below))

  less : (r : Place) → claim p (declared p s.cells) below r ≡ changed (claim p (declared p s.cells) before) (Entry (length (items_of below))) Null r
  less = less_claims (claim p (declared p s.cells) before) (claim p (declared p s.cells) below) q (entry_kind e) d.claims
      (claim_entry_above p s.cells below (length (items_of below)) (omega arith))

  -- what the entry's place holds is as the entry says
  entry_fits : Fits p (seen s.cells) (held s.cells (Entry (length (items_of below)))) (entry_kind e)
  entry_fits = rw (d.claims q ∙ ap (λ b. cond b (entry_kind e) (claim p (declared p s.cells) below q)) (same_place_refl q)) at (d.fits q)

  -- the object of an entry goes
  object_goes : (o : Object) (items : List Item) → forms items ≡ items_of below → AllUndo p items → held s.cells (Entry (length (items_of below))) ≡ Some o →
      WellTyped p t (destroyed p (Some o) items (tasks_of below) s)
  object_goes o items same undo_operations there =
      let g = Going (length (tasks_of below)) in
      let high : length items ≡ length (items_of below) = sym (length_forms items) ∙ ap length same in
      let deep : length (tasks_of before) ≤ length (tasks_of below) = omega (arith, d.deep) in
      let free = no_going p t s.cells o q before below d.fits there deep less in
      let k : ℕ → Kind = λ f. filled (field_thing p (thing_holder o.thing) f) Perhaps in
      goes_well p t s.cells o q before below d.fits there deep less wired typed d.no_duplicates
      (stack_moved p t s.cells q g below Gone free (omega arith) (omega arith) d.under_object)
      (untouched p t s.cells q o d.no_duplicates there k below Gone (omega arith) d.under_object)
      d.conforms_to (destroyed p (Some o) items (tasks_of below) s) (length items) high (ap (λ n. moved (Entry n) g s.cells) high) refl same undo_operations

  module _ (m : ℕ) (w : ℤ) (undo : IsUndo p m) (operation : entry_kind e ≡ Null) where
    -- what is known as an operation begins: its word
    begins_with : (i : ℕ) → register (entry_shape p m) i ≡ at Unset (Word ∷ []) i
    begins_with i = ap (λ xs. register (record (entry_shape p m) { registers = map argument_kind xs }) i) undo.arguments

    -- the entry's claim was none
    fits_below : (r : Place) → Fits p (seen s.cells) (held s.cells r) (claim p (declared p s.cells) below r)
    fits_below r = grind (arith, nat_tests, less r)

    runs_fitting : (height : ℕ) (after : AbstractState) → IsImpliedBy after (entry_shape p m) → (r : Place) →
        Fits p (seen s.cells) (held s.cells r) (claim p (declared p s.cells) (Method (operation_frame m w height) after ∷ below) r)
    runs_fitting height after says (Register f i) = go (length (tasks_of below) == f) refl
      where
        go : (b : Bool) → (length (tasks_of below) == f) ≡ b →
            Fits p (seen s.cells) (held s.cells (Register f i)) (cond b (register after i) (claim p (declared p s.cells) below (Register f i)))
        go true h =
            let above = rw (claim_register_above p s.cells below f i (omega (arith, eqb-true _ _ h))) at (fits_below (Register f i)) in
            rw (fits_unowning p (seen s.cells) _ Null refl above) (fits_weaker p (seen s.cells) None (says.registers i) (rw (begins_with i) (grind arith)))
        go false h = fits_below (Register f i)
    runs_fitting height after says r = grind (arith, nat_tests, plain_claim, fits_below (Elsewhere In_service), fits_below r)

    -- an operation works on nothing
    holder : holder_of p m ≡ Nobody
    holder = ap (λ r. holder_by r (method_class p m)) undo.role ∙ ap (λ c. holder_by (Some Undo) c) undo.class

    operation_runs : (items : List Item) → forms items ≡ items_of below →
        AllUndo p items → WellTyped p t (record s { tasks = Run (operation_frame m w (length items)) ∷ tasks_of below; items = items })
    operation_runs items same undo_operations =
        let leads = typed.entry m undo.there in
        let says = leads.2 in
        let fr = operation_frame m w (length items) in
        record {
          layers = Method fr leads.0 ∷ below;
          tasks = refl;
          items = same ∙ ap (λ es. objects es (items_of below)) (sym says.entries);
          undo_operations = undo_operations;
          good = record {
            stack = (
              leads.1,
              record {
                words = λ i. word_fits_weaker (word fr i) (says.registers i) (subst (λ k. WordFits (word fr i) k) (sym (begins_with i)) (grind arith));
                holder = receiver_conforms_same p _ _ (sym holder);
                view = counts_same p Static _ (sym holder);
                height = sym (length_forms items) ∙ ap length same;
                alone = λ e. tt;
                message = (λ e. absurd (true≢false (sym e ∙ ap is_service undo.role)), λ served. absurd (d.unserved served));
              },
              tt,
              tt,
              d.under_operation m undo,
            );
            fits = runs_fitting (length items) leads.0 says;
            conforms_to = d.conforms_to;
            no_duplicates = d.no_duplicates;
          };
        }

-- the effect of `popdelete` is that
pub dealing : (p : Image) (fr : Frame) (ts : List Task) (s : State) (items : List Item) (o : Option Object) → s.items ≡ items → held s.cells (top_place items)
    ≡ o → top_matches_entry items ≡ true → top_is_whole s.cells items ≡ true → dealt_with p items (Run fr ∷ ts) s ≡ applied p fr ts s (deals_effect fr items o)
dealing p fr ts s (An_object ∷ items) (Some o) at e there whole = grind (arith, nat_tests, items)
dealing p fr ts s (An_operation m w ∷ items) o at e there whole = grind (arith, nat_tests, items)
dealing p fr ts s _ o at e there whole = cc

-- so it is there, and what follows is well typed
pub deals : (p : Image) (t : Typing) → IsWired p → IsTyped p t → (s : State) (e : CleanupEntry) (before below : List Layer) → Dealing p t s e before below →
    (top_is_whole s.cells s.items ≡ true) × WellTyped p t (dealt_with p s.items (tasks_of below) s)
deals p t wired typed s e before below d = go e s.items d d.items d.undo_operations
  where
    Goal : List Item → Type 0
    Goal items = (top_is_whole s.cells items ≡ true) × WellTyped p t (dealt_with p items (tasks_of below) s)

    whole : (o : Option Object) (c : ℕ) (a : InitState) → Fits p (seen s.cells) o (Own (An_object_of c) a) → (x : Object) × (o ≡ Some x)
    whole x c a f = grind arith

    go : (e : CleanupEntry) (items : List Item) → Dealing p t s e before below → forms items ≡ entry_form e ∷ items_of below → AllUndo p items → Goal items
    go (Pushed_object c a) (An_object ∷ items) d h u =
        let same : forms items ≡ items_of below = cc in
        let x = whole _ c a (entry_fits p t wired typed s (Pushed_object c a) before below d) in
        let there : held s.cells (Entry (length items)) ≡ Some x.0 = ap (λ n. held s.cells (Entry n)) (sym (length_forms items) ∙ ap length same) ∙ x.1 in
        (ap is_some there, subst (λ o. WellTyped p t (destroyed p o items (tasks_of below) s)) (sym there) (object_goes p t wired typed s (Pushed_object c a) before below d x.0 items same u x.1))
    go Pushed_operation (An_operation m w ∷ items) d h u =
        let same : forms items ≡ items_of below = cc in
        (refl, operation_runs p t wired typed s Pushed_operation before below d m w u.0 refl items same u.1)
    go _ _ d h u = cc
