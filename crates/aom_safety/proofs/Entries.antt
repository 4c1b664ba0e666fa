-- The laws of the cleanup stack's instructions.
use Rattle.std.proofs.lemmas.Bool.Decides.{nat_tests}
use Rattle.std.proofs.Common.{Bool, List, None, Option, Some, [], ap, arith, cond, false, length, refl, subst, suc, sym, true, ℕ, ℤ, ◌∙◌, ◌∷◌, ◌≡◌}
use Rattle.std.specs.Prelude.{is_none, is_some, not}
use Rattle.aom_image.specs.Image.{Image}
use Rattle.aom_image.specs.Views.{action_in, instr_at}
use Rattle.aom_instructions.specs.declared.instr.Instr.TheVariants.{NewOrLeave, Pop, PopDelete, PopOperation, Push, PushOperation}
use Rattle.aom_image.specs.declared.method.Thing.TheVariants.{Object as An_object_of}
use Rattle.aom_typing_rules.specs.Cleanup.{entry_of, owns_object, top_kind, top_matches_object as top_matches_object_entry, top_matches_operation as top_matches_operation_entry}
use Rattle.aom_abstract_state.specs.Entries.{with_entry, without_top}
use Rattle.aom_abstract_state.specs.Kinds.{entry_kind, no_entry, register, set_register}
use Rattle.aom_typing_rules.specs.Objects.{new_age}
use Rattle.aom_abstract_state.specs.AbstractState.{AbstractState}
use Rattle.aom_typing_rules.specs.Typing.{IsTyped, Leads, Typing}
use Rattle.aom_abstract_state.specs.declared.kind.CleanupEntry.{CleanupEntry}
use Rattle.aom_abstract_state.specs.declared.kind.CleanupEntry.TheVariants.{Object as Pushed_object, Operation as Pushed_operation}
use Rattle.aom_abstract_state.specs.declared.kind.Kind.{Kind}
use Rattle.aom_abstract_state.specs.declared.kind.Kind.TheVariants.{Null, Own}
use Rattle.aom_safety.proofs.Claimed.{claim-set_register, claim_entry_above, claim_push, length_objects}
use Rattle.aom_safety.proofs.Creation.{made_well, IsUnused}
use Rattle.aom_safety.proofs.Dealing.{dealing, Dealing, deals, less_claims}
use Rattle.aom_safety.proofs.Items.{length_forms}
use Rattle.aom_safety.proofs.Leaving.{leave_is_met, leave_keeps, trap_is_there}
use Rattle.aom_safety.proofs.SemanticsLemmas.{same_place_refl}
use Rattle.aom_safety.proofs.Straight.{frames_reworded, At, Fitted, Law, claim_register, fits_unowning, fitted, free_register, kind_fits}
use Rattle.aom_safety.proofs.Straight.{no_word, no_word_fits, relabel, relocate, settle, top, well, words_set}
use Rattle.aom_safety.proofs.Things.{stands_object}
use Rattle.aom_safety.proofs.Words.{has_word}
use Rattle.aom_semantics.specs.Calls.{below_top}
use Rattle.aom_safety.specs.Claims.{Form, Layer, Method, Object_form, Operation_form, claim, declared, entry_form, forms, items_of, objects, tasks_of}
use Rattle.aom_semantics.specs.Cleanup.{leave_needs, no_memory, pushed_cells, top_place, top_matches_entry, top_matches_object, top_matches_operation}
use Rattle.aom_safety.specs.Laws.{IsWired}
use Rattle.aom_semantics.specs.Moves.{does, needs}
use Rattle.aom_semantics.specs.Objects.{is_no_message}
use Rattle.aom_semantics.specs.Places.{Cell, Entry, Object, Place, CellView, changed, held, moved, same_place, seen}
use Rattle.aom_semantics.specs.State.{An_object, An_operation, Choice, Frame, Item, Run, State, next, set_word}
use Rattle.aom_safety.specs.WellTyped.{AllUndo, Fits, Gone, IsUndo, Stack, WellTyped}
use Rattle.aom_semantics.specs.Effects.{Made, Pushed as Object_pushed, Pushed_operation as Operation_pushed, Same, applied, sets, unless_refused, updates}
use Rattle.aom_semantics.specs.Words.{read}
use Rattle.aom_instructions.specs.declared.instr.Instr.{Instr}
use Rattle.aom_roles.specs.Tests.{AllTrue}
use Rattle.aom_safety.proofs.RolesLemmas.{stands_itself}

-- ---- kinds of objects that may be pushed

object_again : (k : Kind) → owns_object k ≡ true → entry_form (entry_of k) ≡ Object_form
object_again x e = grind arith

-- such a place holds an object, and no message
owned_met : (p : Image) (h : CellView) (o : Option Object) (k : Kind) → owns_object k ≡ true → Fits p h o k → (is_some o ≡ true) × (is_no_message o ≡ true)
owned_met p h x y e f = grind (arith, nat_tests, stands_object p)

-- ---- the last item

top_object : (items : List Item) (below : List Form) → forms items ≡ Object_form ∷ below → (rest : List Item) × (items ≡ An_object ∷ rest) × (forms rest ≡ below)
top_object (An_object ∷ rest) below e = (rest, refl, cc)
top_object _ below e = cc

-- an operation, which is one
record Operation_at (p : Image) (items : List Item) (below : List Form) : Type 0 where
  rest : List Item
  method : ℕ
  word : ℤ
  is : items ≡ An_operation method word ∷ rest
  known : forms rest ≡ below
  undo : IsUndo p method
  undo_operations : AllUndo p rest

top_operation : (p : Image) (items : List Item) (below : List Form) → forms items ≡ Operation_form ∷ below → AllUndo p items → Operation_at p items below
top_operation p (An_operation m w ∷ rest) below e u = record { rest = rest; method = m; word = w; is = refl; known = cc; undo = u.0; undo_operations = u.1 }
top_operation p _ below e u = cc

-- a method's claims with its last entry, and without
module _ (p : Image) (cs : List Cell) (fr : Frame) (sh : AbstractState) (ls : List Layer) (v : CleanupEntry) (es : List CleanupEntry) (e : sh.entries ≡ v ∷ es)
    (items : List Item) (known : forms items ≡ objects es (items_of ls)) where
  abbrev less : AbstractState
  less = record sh { entries = es }

  place_of_top : Entry (length (objects es (items_of ls))) ≡ Entry (length items)
  place_of_top = ap (λ fs. Entry (length fs)) (sym known) ∙ ap Entry (length_forms items)

  whole : (r : Place) → claim p (declared p cs) (Method fr sh ∷ ls) r
      ≡ changed (claim p (declared p cs) (Method fr less ∷ ls)) (Entry (length items)) (entry_kind v) r
  whole r = grind (arith, nat_tests, claim_push p, place_of_top)

  entry_here : claim p (declared p cs) (Method fr sh ∷ ls) (Entry (length items)) ≡ entry_kind v
  entry_here = whole (Entry (length items))
      ∙ ap (λ b. cond b (entry_kind v) (claim p (declared p cs) (Method fr less ∷ ls) (Entry (length items)))) (same_place_refl (Entry (length items)))

  entry_less : (r : Place) → claim p (declared p cs) (Method fr less ∷ ls) r ≡ changed (claim p (declared p cs) (Method fr sh ∷ ls)) (Entry (length items)) Null r
  entry_less r = less_claims (claim p (declared p cs) (Method fr sh ∷ ls)) (claim p (declared p cs) (Method fr less ∷ ls))
      (Entry (length items)) (entry_kind v) whole (ap (λ q. claim p (declared p cs) (Method fr less ∷ ls) q) (sym place_of_top)
      ∙ claim_entry_above p cs (Method fr less ∷ ls) (length (objects es (items_of ls))) (omega arith)) r

module _ (p : Image) (t : Typing) (c : Choice) (s : State) (fr : Frame) (sh : AbstractState) (ls : List Layer) (has_task : At p t s fr sh ls) where
  g : Fitted p t s.cells fr sh ls
  g = fitted p t s.cells fr sh ls has_task.good

  height : length s.items ≡ length (items_of (Method fr sh ∷ ls))
  height = sym (length_forms s.items) ∙ ap length has_task.items

  next_place : Entry (length (items_of (Method fr sh ∷ ls))) ≡ Entry (length s.items)
  next_place = ap Entry (sym height)

  no_entry_yet : held s.cells (Entry (length s.items)) ≡ None
  no_entry_yet = fits_unowning p (seen s.cells) _ Null refl
      (rw (claim_entry_above p s.cells (Method fr sh ∷ ls) (length s.items) (omega (arith, height))) at (has_task.good.fits (Entry (length s.items))))

  -- ---- a push

  abbrev pushed_shape : ℕ → AbstractState
  pushed_shape a = with_entry (entry_of (register sh a)) (set_register sh a Null)

  -- the object is on the cleanup stack, and the push may still leave
  push_fitted : (a : ℕ) → owns_object (register sh a) ≡ true → Fitted p t (pushed_cells fr (tasks_of ls) s a) (next (set_word fr a None)) (pushed_shape a) ls
  push_fitted a owns =
      let d = declared p s.cells in
      let k = register sh a in
      let q = Entry (length s.items) in
      let claims = λ (r : Place).
      claim_push p d fr (set_register sh a Null) ls (entry_of k) r
      ∙ ap (λ x. changed (claim p d (Method fr (set_register sh a Null) ∷ ls)) x (entry_kind (entry_of k)) r) next_place
      ∙ ap (λ v. changed (claim p d (Method fr (set_register sh a Null) ∷ ls)) q v r) (grind arith)
      ∙ ap (λ x. cond (same_place q r) k x) (claim-set_register p d fr sh ls a Null r)
      ∙ ap (λ x. changed (changed (claim p d (Method fr sh ∷ ls)) (top ls a) Null) q x r) (sym (claim_register p d fr sh ls a)) in
      relocate p t s.cells fr (next (set_word fr a None)) sh (pushed_shape a) ls (top ls a) q
      g refl refl refl refl no_entry_yet (omega arith) (omega (arith, height, length_objects sh.entries (items_of ls)))
      (λ o from e. (tt, tt)) (λ r x e k f. refl) claims (words_set fr.words sh a None Null has_task.good.stack.1.words refl)

  pub law_push : IsWired p → (a : ℕ) → Law p t c s fr sh ls has_task (Push a)
  law_push wired a n leads = (
    (
      ap is_none (no_word p t c s fr sh ls has_task a (grind arith)),
      (met.0, (met.1, (trap_is_there p t cells fr' (pushed_shape a) ls there n.1.0 n.1.1.0, needed c.refused))),
    ),
    goes c.refused,
  )
    where
      fr' : Frame
      fr' = next (set_word fr a None)

      cells : List Cell
      cells = pushed_cells fr (tasks_of ls) s a

      met : (is_some (held s.cells (top ls a)) ≡ true) × (is_no_message (held s.cells (top ls a)) ≡ true)
      met = owned_met p (seen s.cells) (held s.cells (top ls a)) (register sh a) n.0 (kind_fits p t c s fr sh ls has_task a)

      there : Fitted p t (pushed_cells fr (tasks_of ls) s a) (next (set_word fr a None)) (pushed_shape a) ls
      there = push_fitted a n.0

      items : forms (An_object ∷ s.items) ≡ objects (entry_of (register sh a) ∷ sh.entries) (items_of ls)
      items = grind (arith, nat_tests, object_again)

      needed : (b : Bool) → AllTrue (cond b (leave_needs (pushed_cells fr (tasks_of ls) s a) (Run fr ∷ tasks_of ls)) [])
      needed true = leave_is_met p t cells fr' fr (pushed_shape a) ls there n.1.0 n.1.1.0
      needed false = tt

      goes : (b : Bool) → WellTyped p t (applied p fr (tasks_of ls) s (unless_refused b (Object_pushed a) (sets fr a None (Object_pushed a))))
      goes true = leave_keeps p t wired (record s { cells = cells; items = An_object ∷ s.items }) no_memory fr'
          (pushed_shape a) ls items has_task.undo_operations there n.1.0 n.1.1.0 n.1.1.1.0 n.1.1.1.1.0
      goes false = well p t c s fr sh ls has_task _ fr' (pushed_shape a) refl items has_task.undo_operations (settle p t cells fr' (pushed_shape a) ls there leads.0)

  -- ---- the push of an operation

  operation_fitted : Fitted p t s.cells (next fr) (with_entry Pushed_operation sh) ls
  operation_fitted = grind (arith, nat_tests, relabel p t s.cells fr, g, no_entry_yet, claim_push p, next_place)

  pub law_push_operation : IsWired p → (a m : ℕ) → instr_at p fr.method fr.place ≡ Some (PushOperation a m) → Law p t c s fr sh ls has_task (PushOperation a m)
  law_push_operation wired a m here n leads = (
    (has_word p t c s fr sh ls has_task a n.0, (trap_is_there p t s.cells (next fr) with_operation ls operation_fitted n.1.0 n.1.1.0, needed c.refused)),
    goes c.refused,
  )
    where
      with_operation : AbstractState
      with_operation = with_entry Pushed_operation sh

      items : forms (An_operation m (read fr (tasks_of ls) s a) ∷ s.items) ≡ objects (Pushed_operation ∷ sh.entries) (items_of ls)
      items = ap (λ fs. Operation_form ∷ fs) has_task.items

      undo_operations : AllUndo p (An_operation m (read fr (tasks_of ls) s a) ∷ s.items)
      undo_operations = (wired.pushed fr.method fr.place a m (ap action_in here), has_task.undo_operations)

      needed : (b : Bool) → AllTrue (cond b (leave_needs s.cells (Run fr ∷ tasks_of ls)) [])
      needed true = leave_is_met p t s.cells (next fr) fr with_operation ls operation_fitted n.1.0 n.1.1.0
      needed false = tt

      goes : (b : Bool) → WellTyped p t (applied p fr (tasks_of ls) s
          (unless_refused b (Operation_pushed m (read fr (tasks_of ls) s a)) (updates fr (Operation_pushed m (read fr (tasks_of ls) s a)))))
      goes true = leave_keeps p t wired (record s { items = An_operation m (read fr (tasks_of ls) s a) ∷ s.items }) no_memory
          (next fr) with_operation ls items undo_operations operation_fitted n.1.0 n.1.1.0 n.1.1.1.0 n.1.1.1.1.0
      goes false = well p t c s fr sh ls has_task _ (next fr) with_operation refl items undo_operations
          (settle p t s.cells (next fr) with_operation ls operation_fitted leads.0)

  -- ---- a pop

  -- the last entry comes to a register
  pub law_pop : (a : ℕ) → Law p t c s fr sh ls has_task (Pop a)
  law_pop a n leads = go sh.entries refl n.1.1.0
    where
      free : held s.cells (top ls a) ≡ None
      free = free_register p t c s fr sh ls has_task a n.0

      fr' : Frame
      fr' = next (set_word fr a None)

      popped_at : (x : CleanupEntry) (es : List CleanupEntry) → sh.entries ≡ x ∷ es → (rest : List Item) → s.items ≡ An_object ∷ rest →
          forms rest ≡ objects es (items_of ls) → AllTrue (needs p c fr (tasks_of ls) s (Pop a)) × WellTyped p t (does p c fr (tasks_of ls) s (Pop a))
      popped_at x es e rest is known =
          let d = declared p s.cells in
          let k = entry_kind x in
          let sh' = record (set_register sh a k) { entries = es } in
          let q = Entry (length rest) in
          let high : length rest ≡ length (objects es (items_of ls)) = sym (length_forms rest) ∙ ap length known in
          let claims = λ (r : Place). claim-set_register p d fr (record sh { entries = es }) ls a k r
          ∙ ap (λ y. cond (same_place (top ls a) r) k y) (entry_less p s.cells fr sh ls x es e rest known r)
          ∙ ap (λ y. changed (changed (claim p d (Method fr sh ∷ ls)) q Null) (top ls a) y r) (sym (entry_here p s.cells fr sh ls x es e rest known)) in
          let there = relocate p t s.cells fr fr' sh sh' ls q (top ls a) g refl refl refl refl free
          (omega (arith, high, length_objects es (items_of ls))) (omega arith)
          (λ o from e. (tt, tt)) (λ r x e k f. refl) claims (words_set fr.words sh a None k has_task.good.stack.1.words (no_word_fits k (grind arith))) in
          let lead : Leads t fr.method (suc fr.place) sh' =
          subst (λ es. Leads t fr.method (suc fr.place) (set_register (record sh { entries = without_top es }) a (top_kind es))) e leads.0 in
          let undo_operations : AllUndo p rest = subst (λ i. AllUndo p i) is has_task.undo_operations in (
            (ap is_none free, (ap top_matches_entry is, (ap top_matches_object is, tt))),
            subst (λ i. WellTyped p t
                (record s { cells = moved (Entry (length (below_top i))) (top ls a) s.cells; tasks = Run fr' ∷ tasks_of ls; items = below_top i })) (sym is)
                (well p t c s fr sh ls has_task (record s { cells = moved q (top ls a) s.cells; tasks = Run fr' ∷ tasks_of ls; items = rest })
                fr' sh' refl known undo_operations (settle p t (moved q (top ls a) s.cells) fr' sh' ls there lead)),
          )

      go : (es : List CleanupEntry) → sh.entries ≡ es → top_matches_object_entry es ≡ true →
          AllTrue (needs p c fr (tasks_of ls) s (Pop a)) × WellTyped p t (does p c fr (tasks_of ls) s (Pop a))
      go (Pushed_object x age ∷ es) e h =
          let at_top = top_object s.items (objects es (items_of ls)) (has_task.items ∙ ap (λ es. objects es (items_of ls)) e) in
          popped_at (Pushed_object x age) es e at_top.0 at_top.1 at_top.2
      go _ e h = cc

  -- ---- the last entry goes

  pub law_pop_operation : Law p t c s fr sh ls has_task PopOperation
  law_pop_operation n leads = go sh.entries refl n.1.0
    where
      go : (es : List CleanupEntry) → sh.entries ≡ es → top_matches_operation_entry es ≡ true →
          AllTrue (needs p c fr (tasks_of ls) s PopOperation) × WellTyped p t (does p c fr (tasks_of ls) s PopOperation)
      go (Pushed_operation ∷ es) e h =
          let op = top_operation p s.items (objects es (items_of ls)) (has_task.items ∙ ap (λ es. objects es (items_of ls)) e) has_task.undo_operations in
          let q = Entry (length op.rest) in
          let sh' = record sh { entries = es } in
          let nothing : Fits p (seen s.cells) (held s.cells q) Null =
          subst (λ k. Fits p (seen s.cells) (held s.cells q) k) (entry_here p s.cells fr sh ls Pushed_operation es e op.rest op.known) (has_task.good.fits q) in
          let there = relabel p t s.cells fr (next fr) sh sh' ls q Null g refl refl refl refl nothing
          (entry_less p s.cells fr sh ls Pushed_operation es e op.rest op.known) has_task.good.stack.1.words in
          let lead : Leads t fr.method (suc fr.place) sh' = subst (λ es. Leads t fr.method (suc fr.place) (record sh { entries = without_top es })) e leads.0 in (
            (ap top_matches_entry op.is, (ap top_matches_operation op.is, tt)),
            subst (λ i. WellTyped p t (record s { tasks = Run (next fr) ∷ tasks_of ls; items = below_top i })) (sym op.is)
                (well p t c s fr sh ls has_task (record s { tasks = Run (next fr) ∷ tasks_of ls; items = op.rest })
                (next fr) sh' refl op.known op.undo_operations (settle p t s.cells (next fr) sh' ls there lead)),
          )
      go _ e h = cc

  -- over the method an object is destroyed, or an operation runs; the method goes on once that is over
  pub law_pop_delete : IsWired p → IsTyped p t → Law p t c s fr sh ls has_task PopDelete
  law_pop_delete wired typed n leads = go sh.entries refl n.0
    where
      lead : (x : CleanupEntry) (es : List CleanupEntry) → sh.entries ≡ x ∷ es → Leads t fr.method (suc fr.place) (record sh { entries = es })
      lead x es e = subst (λ es. Leads t fr.method (suc fr.place) (record sh { entries = without_top es })) e leads.0

      -- the method waits
      waits : (x : CleanupEntry) (es : List CleanupEntry) → sh.entries ≡ x ∷ es → Stack p t s.cells Gone (Method fr (record sh { entries = es }) ∷ ls)
      waits x es e = (lead x es e, frames_reworded has_task.good.stack.1 has_task.good.stack.1.words, has_task.good.stack.2, has_task.good.stack.3, has_task.good.stack.4)

      -- for a method that gives nothing and does not leave
      known : (x : CleanupEntry) (es : List CleanupEntry) → sh.entries ≡ x ∷ es → forms s.items ≡ entry_form x ∷ objects es (items_of ls)
      known x es e = has_task.items ∙ ap (λ es. objects es (items_of ls)) e

      top_matches : (x : CleanupEntry) (below : List Form) (items : List Item) → forms items ≡ entry_form x ∷ below → top_matches_entry items ≡ true
      top_matches x below (An_object ∷ items) f = refl
      top_matches x below (An_operation m w ∷ items) f = refl
      top_matches _ below _ f = absurd (grind arith)

      go : (es : List CleanupEntry) → sh.entries ≡ es → not (no_entry es) ≡ true →
          AllTrue (needs p c fr (tasks_of ls) s PopDelete) × WellTyped p t (does p c fr (tasks_of ls) s PopDelete)
      go [] e h = cc
      go (x ∷ es) e h =
          let less = record sh { entries = es } in
          let d : Dealing p t s x (Method fr sh ∷ ls) (Method fr less ∷ ls) = record {
            fits = has_task.good.fits;
            claims = λ r. ap (λ es. claim p (declared p s.cells) (Method fr (record sh { entries = es }) ∷ ls) r) e
                ∙ claim_push p (declared p s.cells) fr less ls x r;
            deep = refl;
            conforms_to = has_task.good.conforms_to;
            no_duplicates = has_task.good.no_duplicates;
            items = known x es e;
            undo_operations = has_task.undo_operations;
            under_object = waits x es e;
            unserved = λ x. x;
            under_operation = grind (arith, nat_tests, waits, lead);
          } in
          let w = deals p t wired typed s x (Method fr sh ∷ ls) (Method fr less ∷ ls) d in
          let topped = top_matches x (objects es (items_of ls)) s.items (known x es e) in
          ((topped, (w.0, tt)), subst (λ v. WellTyped p t v) (dealing p fr (tasks_of ls) s s.items (held s.cells (top_place s.items)) refl refl topped w.0) w.1)

  -- ---- a new cell, or a leave

  pub law_new_or_leave : IsWired p → (a x : ℕ) → IsUnused p t c s fr sh ls has_task → Law p t c s fr sh ls has_task (NewOrLeave a x)
  law_new_or_leave wired a x unused n leads = ((ap is_none free, needed c.refused), goes c.refused)
    where
      k : Kind
      k = Own (An_object_of x) (new_age p x)

      free : held s.cells (top ls a) ≡ None
      free = free_register p t c s fr sh ls has_task a n.0

      needed : (b : Bool) → AllTrue (cond b (leave_needs s.cells (Run fr ∷ tasks_of ls)) [])
      needed true = leave_is_met p t s.cells fr fr sh ls g n.1.1.0 n.1.1.1.0
      needed false = tt

      goes : (b : Bool) → WellTyped p t (applied p fr (tasks_of ls) s (unless_refused b Same (sets fr a None (Made c.name x a))))
      goes true = leave_keeps p t wired s no_memory fr sh ls has_task.items has_task.undo_operations g n.1.1.0 n.1.1.1.0 n.1.1.1.1.0 n.1.1.1.1.1.0
      goes false = made_well p t c s fr sh ls has_task a x k free unused (λ h age. (stands_itself p (An_object_of x), age)) refl leads.0

  -- each instruction of this file by its law
  abbrev pub of_entries : IsWired p → IsTyped p t → IsUnused p t c s fr sh ls has_task → (i : Instr) → instr_at p fr.method fr.place ≡ Some i →
      Option (Law p t c s fr sh ls has_task i)
  of_entries wired typed unused (NewOrLeave a x) here = Some (law_new_or_leave wired a x unused)
  of_entries wired typed unused (Push a) here = Some (law_push wired a)
  of_entries wired typed unused (PushOperation a m) here = Some (law_push_operation wired a m here)
  of_entries wired typed unused (Pop a) here = Some (law_pop a)
  of_entries wired typed unused PopOperation here = Some law_pop_operation
  of_entries wired typed unused PopDelete here = Some (law_pop_delete wired typed)
  of_entries wired typed unused _ here = None
