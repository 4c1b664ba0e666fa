-- A method returns to the one that called it.
use Rattle.std.proofs.lemmas.Bool.Decides.{nat_tests}
use Rattle.std.proofs.Common.{Bool, IsTrue, List, None, Option, Some, [], ap, arith, cond, false}
use Rattle.std.proofs.Common.{length, pos, refl, subst, suc, sym, true, ℕ, ℤ, ◌<◌, ◌∙◌, ◌∷◌, ◌≡◌}
use Rattle.std.proofs.lemmas.Bool.{ne_eqb}
use Rattle.std.specs.Prelude.{is_none, is_some}
use Rattle.aom_image.specs.Image.{Image}
use Rattle.aom_image.specs.Views.{gives_of, has, instr_at, method_role}
use Rattle.aom_image.specs.declared.method.Gives.{Gives}
use Rattle.aom_image.specs.declared.method.Gives.TheVariants.{Left, Maybe as A_maybe, Nothing, Own as An_own, Word as A_word}
use Rattle.aom_image.specs.declared.method.Thing.{Thing}
use Rattle.aom_typing_rules.specs.Calls.{brought, caught, entries_done, leaves_one, result_moved, rule_result}
use Rattle.aom_abstract_state.specs.Kinds.{entry_kind, is_object_or_null, is_unowning, is_word, may_be, no_entry, none_owns, register, set_register}
use Rattle.aom_abstract_state.specs.Entries.{with_entry}
use Rattle.aom_abstract_state.specs.AbstractState.{AbstractState}
use Rattle.aom_typing_rules.specs.Typing.{Leads, Typing}
use Rattle.aom_abstract_state.specs.declared.kind.InitState.TheVariants.{Ready}
use Rattle.aom_abstract_state.specs.declared.kind.CleanupEntry.{CleanupEntry}
use Rattle.aom_abstract_state.specs.declared.kind.CleanupEntry.TheVariants.{Object as Pushed_object}
use Rattle.aom_abstract_state.specs.declared.kind.Kind.{Kind}
use Rattle.aom_abstract_state.specs.declared.kind.Kind.TheVariants.{Maybe, Null, Own, Word}
use Rattle.aom_safety.proofs.Claimed.{claim-set_register, claim_frame, claim_push, claim_register_above, declared_moved, keep_fits, mark_claims, stack_moved}
use Rattle.aom_safety.proofs.Finishing.{IsReturned, ReturnLaw, message_gone, after_return, Returnable, ended, ended_plainly, left_alone}
use Rattle.aom_safety.proofs.Finishing.{left_held, none_left, return_needs, same_items}
use Rattle.aom_safety.proofs.Items.{forms_below, mark_on_top, undo_operations_below}
use Rattle.aom_safety.proofs.SemanticsLemmas.{held_moved, requested_moved, same_place-true, same_place_refl, tidy_moved}
use Rattle.aom_safety.proofs.Straight.{frames_reworded, At, Fitted, claim_register, fits_unowning, receiver_held_relocated, next_unowning, no_word_fits}
use Rattle.aom_safety.proofs.Straight.{register_fits, settle, stepped, top, word_of_object, words_set, write, may_be_object}
use Rattle.aom_safety.proofs.Widening.{hold_widens, own_widens, own_widens_more, retaken}
use Rattle.aom_semantics.specs.Calls.{needs_ended, below_top, received, result_cells, result_needs, result_register, returned, reported_answer}
use Rattle.aom_safety.specs.Claims.{serves, Dispatching, Layer, Mark, Mark_form, Method}
use Rattle.aom_safety.specs.Claims.{Unwinding, claim, declared, forms, items_of, objects, tasks_of}
use Rattle.aom_semantics.specs.Objects.{is_thing}
use Rattle.aom_semantics.specs.Places.{In_service, Session, Queued, Cell, Entry, Object, Place, CellView, changed, held}
use Rattle.aom_semantics.specs.Places.{moved, requested, same_place, seen, Elsewhere, Field, Going, Register, Root}
use Rattle.aom_semantics.specs.State.{Of_server, Serves, Dispatched, Answered, Asks, Choice, Dispatch}
use Rattle.aom_semantics.specs.State.{Frame, Inside, Of_main, Of_object, Run, OwnedObject, State, next, set_word, word}
use Rattle.aom_safety.specs.WellTyped.{OwnedFirst, IsAttended, owned_object_of, Awaits, Back, Caught, EndsDispatch, EndsWell, Fits}
use Rattle.aom_safety.specs.WellTyped.{IsApart, LeavesNone, Now, Returns, Stack, WellTyped, WordFits, past_going}
use Rattle.aom_safety.proofs.ConformingTo.{all_moved, all_returned, known_plain, known_resting, rejoins_caller, rejoins_trap, rests_there, conforms_to_rests}
use Rattle.aom_safety.specs.Requests.{AllConformTo, ConformsTo, states_claim, thing_kind}
use Rattle.aom_abstract_state.specs.Arguments.{after_of}
use Rattle.aom_safety.proofs.Cancelled.{cancel_fitted, cells_then, role_cancels}
use Rattle.aom_safety.proofs.Leaving.{known_nonquiet, none_cancels}
use Rattle.aom_roles.specs.States.{idle}
use Rattle.aom_safety.specs.Laws.{IsWired}
use Rattle.aom_semantics.specs.Requests.{ended_cells}
use Rattle.aom_abstract_state.specs.declared.kind.MessageState.TheVariants.{Here}
use Rattle.aom_roles.specs.Roles.{is_cancel}
use Rattle.aom_roles.specs.Tests.{AllTrue}

module _ (p : Image) (t : Typing) (c : Choice) (s : State) (fr fr2 : Frame) (sh sh2 : AbstractState) (ls below : List Layer)
    (has_task : At p t s fr sh below) (back : Back) (caller : Stack p t s.cells back (Method fr2 sh2 ∷ ls)) (same_claims : (d : Place → Kind) (r : Place) →
    claim p d below r ≡ claim p d (Method fr2 sh2 ∷ ls) r) (deeper : length (tasks_of ls) < length (tasks_of below))
    (at_top : past_going below ≡ below) (conforms_to : AllConformTo p s.cells (Method fr2 sh2 ∷ ls)) (unserving : serves p fr.method ≡ true → ⊥) where
  -- with no result in cells
  pub plain : no_entry sh.entries ≡ true → none_owns sh.registers ≡ true → Fitted p t s.cells fr2 sh2 ls
  plain e n = let g = has_task.good in record {
    fits = λ r. rw (same_claims (declared p s.cells) r) at (ended p s.cells fr sh below g.stack.1.holder g.stack.1.view g.stack.2 g.stack.3 at_top e n
        (λ serving. absurd (unserving serving)) r (seen s.cells) (held s.cells r) (g.fits r));
    conforms_to = conforms_to;
    no_duplicates = g.no_duplicates;
    frames = caller.1;
    receiver_held = caller.2;
    apart = caller.3;
    stack = caller.4;
  }

  -- the object that is left is the caller's last entry
  pub pushed : (x : ℕ) → below ≡ Method fr2 sh2 ∷ ls → leaves_one p x sh.entries ≡ true → none_owns sh.registers ≡ true →
      Fitted p t s.cells fr2 (with_entry (Pushed_object x Ready) sh2) ls
  pushed x over e n = record {
    fits = λ r. rw (claim_push p (declared p s.cells) fr2 sh2 ls entry r) (go r (same_place spot r) refl);
    conforms_to = conforms_to;
    no_duplicates = has_task.good.no_duplicates;
    frames = frames_reworded caller.1 caller.1.words;
    receiver_held = caller.2;
    apart = caller.3;
    stack = caller.4;
  }
    where
      entry : CleanupEntry
      entry = Pushed_object x Ready

      -- what is left there
      itself : CleanupEntry
      itself = Pushed_object (left_alone p x sh.entries e).class Ready

      spot : Place
      spot = Entry (length (items_of (Method fr2 sh2 ∷ ls)))

      bare : AbstractState
      bare = record sh { entries = [] }

      without : (r : Place) → same_place spot r ≡ false →
          claim p (declared p s.cells) (Method fr sh ∷ below) r ≡ claim p (declared p s.cells) (Method fr bare ∷ below) r
      without r f = ap (λ es. claim p (declared p s.cells) (Method fr (record sh { entries = es }) ∷ below) r) (left_alone p x sh.entries e).alone
          ∙ claim_push p (declared p s.cells) fr bare below itself r ∙ ap (λ b. cond b
          (entry_kind itself) (claim p (declared p s.cells) (Method fr bare ∷ below) r)) (ap (λ l. same_place (Entry (length (items_of l))) r) over ∙ f)

      go : (r : Place) (b : Bool) → same_place spot r ≡ b →
          Fits p (seen s.cells) (held s.cells r) (cond b (entry_kind entry) (claim p (declared p s.cells) (Method fr2 sh2 ∷ ls) r))
      go r true f = rw (ap (λ l. Entry (length (items_of l))) over ∙ same_place-true spot r f) at (left_held p t c s fr sh below has_task x e)
      go r false f = rw (same_claims (declared p s.cells) r) at (ended p s.cells fr bare below has_task.good.stack.1.holder has_task.good.stack.1.view
          has_task.good.stack.2 has_task.good.stack.3 at_top refl n (λ serving. absurd (unserving serving)) r (seen s.cells) (held s.cells r)
          (rw (without r f) at (has_task.good.fits r)))

  -- the result goes to its register
  pub carried :
      (a x : ℕ) → no_entry sh.entries ≡ true → none_owns (set_register sh a Null).registers ≡ true → is_unowning (register sh2 x) ≡ true → is_object_or_null
      (register sh a) ≡ true → Fitted p t (moved (top below a) (top ls x) s.cells) (set_word fr2 x None) (set_register sh2 x (register sh a)) ls
  carried a x e n u obj =
      let g = has_task.good in
      let free = fits_unowning p h _ (register sh2 x) u (grind (arith, nat_tests, d, top, ne_eqb, claim_register)) in
      record {
        fits = λ r. subst (λ d. Fits p (seen cs') (held cs' r) (claim p d (Method (set_word fr2 x None) (set_register sh2 x k) ∷ ls) r)) (sym (declared_moved
            p cs q to)) (subst (λ k. Fits p (seen cs') (held cs' r) k) (sym (claim_frame p d fr2 (set_word fr2 x None) (set_register sh2 x k) ls r refl refl))
            (keep_fits p h (seen cs') (changed (claim p d (Method fr2 sh2 ∷ ls)) q k) (claim p d (Method fr2 (set_register sh2 x k) ∷ ls)) q to
            (λ r. held_moved cs q to r free) (requested_moved cs q to) same (λ r x e k f. refl) fits_aside r));
        conforms_to = all_moved p cs q to (Method fr2 sh2 ∷ ls) conforms_to;
        no_duplicates = tidy_moved cs q to free g.no_duplicates;
        frames = frames_reworded caller.1 (words_set fr2.words sh2 x None k caller.1.words (no_word_fits k obj));
        receiver_held = receiver_held_relocated p cs q to ls fr2.receiver free (omega arith) (omega arith) (λ o from e. (tt, tt)) caller.2;
        apart = caller.3;
        stack = stack_moved p t cs q to ls (Returns fr2.method fr2.receiver) free (omega arith) (omega arith) caller.4;
      }
    where
      cs : List Cell
      cs = s.cells

      h : CellView
      h = seen s.cells

      d : Place → Kind
      d = declared p s.cells

      k : Kind
      k = register sh a

      q : Place
      q = top below a

      to : Place
      to = top ls x

      cs' : List Cell
      cs' = moved q to s.cells

      fits_aside : (r : Place) → Fits p (seen s.cells) (held s.cells r) (changed (claim p (declared p s.cells) (Method fr2 sh2 ∷ ls)) q k r)
      fits_aside r = go (same_place q r) refl
        where
          go : (b : Bool) → same_place q r ≡ b → Fits p (seen s.cells) (held s.cells r) (cond b k (claim p (declared p s.cells) (Method fr2 sh2 ∷ ls) r))
          go true e = subst (λ y. Fits p (seen s.cells) (held s.cells y) k) (same_place-true q r e) (register_fits p s.cells fr sh below has_task.good.fits a)
          go false f = rw (same_claims (declared p s.cells) r) at (ended p s.cells fr
              (set_register sh a Null) below has_task.good.stack.1.holder has_task.good.stack.1.view has_task.good.stack.2 has_task.good.stack.3 at_top e n
              (λ serving. absurd (unserving serving)) r (seen s.cells) (held s.cells r)
              (rw (claim-set_register p (declared p s.cells) fr sh below a Null r ∙ ap (λ b. cond b Null (claim p (declared p s.cells) (Method fr sh ∷ below) r)) f) (has_task.good.fits r)))

      same : (r : Place) → claim p d (Method fr2 (set_register sh2 x k) ∷ ls) r ≡ changed
          (changed (changed (claim p d (Method fr2 sh2 ∷ ls)) q k) q Null) to (changed (claim p d (Method fr2 sh2 ∷ ls)) q k q) r
      same r = claim-set_register p d fr2 sh2 ls x k r ∙ go (same_place to r) (same_place q r) refl
        where
          go : (b c : Bool) → same_place q r ≡ c → cond b k (claim p d (Method fr2 sh2 ∷ ls) r) ≡ cond b
              (cond (same_place q q) k (claim p d (Method fr2 sh2 ∷ ls) q)) (cond c Null (cond c k (claim p d (Method fr2 sh2 ∷ ls) r)))
          go true c f = ap (λ b. cond b k (claim p d (Method fr2 sh2 ∷ ls) q)) (sym (same_place_refl q))
          go false true f = ap (λ y. claim p d (Method fr2 sh2 ∷ ls) y) (sym (same_place-true q r f))
              ∙ claim_register_above p s.cells (Method fr2 sh2 ∷ ls) (length (tasks_of below)) a (omega arith)
          go false false f = refl

-- what the rule says of the result, by its kind
module _ (p : Image) (s : State) where
  pub word_is : (w : Option ℤ) (k : Kind) → is_word k ≡ true → WordFits w k → (is_some w ≡ true) × WordFits w Word
  word_is x y e f = grind arith

  pub held_thing : (x : Thing) (o : Option Object) → Fits p (seen s.cells) o (Own x Ready) → (is_some o ≡ true) × (is_thing p x o ≡ true)
  held_thing x o f = grind arith

  pub held_maybe : (x : Thing) (o : Option Object) → Fits p (seen s.cells) o (Maybe x Ready) → is_thing p x o ≡ true
  held_maybe x y f = grind arith

  pub object_of : (x : Thing) (k : Kind) → may_be p x k ≡ true → is_object_or_null k ≡ true
  object_of x k e = may_be_object p x k e

module _ (p : Image) (t : Typing) (wired : IsWired p) (c : Choice) (s : State) (fr fr2 : Frame) (sh sh2 : AbstractState) (ls : List Layer)
    (has_task : At p t s fr sh (Method fr2 sh2 ∷ ls)) where
  abbrev pub below : List Layer
  below = Method fr2 sh2 ∷ ls

  pub law_return : (a : ℕ) → ReturnLaw p t s fr sh (Method fr2 sh2 ∷ ls) a
  law_return a ended_so = by_role (is_cancel (method_role p fr.method)) refl
    where
      conforms_to : is_cancel (method_role p fr.method) ≡ false → AllConformTo p s.cells (Method fr2 sh2 ∷ ls)
      conforms_to still = all_returned p s.cells s.cells fr sh below has_task.good.conforms_to has_task.good.stack.2 (λ n. refl) (λ n off. refl) (λ o from e h.
          let apart : IsApart p fr.view fr.method (Inside o from) below = subst (λ h. IsApart p fr.view fr.method h below) e has_task.good.stack.3 in
          let well : EndsWell p fr.method (Inside o from) fr2 sh2 = subst (λ h. EndsWell p fr.method h fr2 sh2) e has_task.good.stack.4.0.3 in
          rejoins_caller p o fr2 sh2 sh.states ls (after_of p fr.method) (requested s.cells o.name) apart.3
          (λ w. subst (λ n. IsTrue (has sh2.states n)) (ap (λ b. cond b idle (after_of p fr.method)) still) (well w)) ended_so.ends ended_so.settled
          (subst (λ k. ConformsTo (thing_kind p o.thing) k (requested s.cells o.name)) (known_plain p fr sh.states (states_claim p o below) still) h))

      x : ℕ
      x = result_register (instr_at p fr2.method fr2.place)

      items : no_entry sh.entries ≡ true → forms s.items ≡ objects sh2.entries (items_of ls)
      items e = same_items p t c s fr sh below has_task e

      finish : (cs : List Cell) (fr' : Frame) (sh' : AbstractState) →
          fr'.method ≡ fr2.method → fr'.place ≡ fr2.place → forms s.items ≡ objects sh'.entries (items_of ls) →
          Fitted p t cs fr' sh' ls → Leads t fr2.method (suc fr2.place) sh' → WellTyped p t (record s { cells = cs; tasks = Run (next fr') ∷ tasks_of ls })
      finish cs fr' sh' em ep items f leads =
          let g = settle p t cs (next fr') sh' ls (stepped p t cs fr' sh' ls f) (grind (arith, nat_tests)) in
          record { layers = Method (next fr') g.0 ∷ ls; tasks = refl; items = items ∙ ap (λ es. objects es (items_of ls)) (sym g.2); undo_operations = has_task.undo_operations; good = g.1 }

      Goal : Gives → Type 0
      Goal g = AllTrue (result_needs p fr (tasks_of below) s g a) × WellTyped p t (record s
          { cells = result_cells p fr (tasks_of below) s g a x (tasks_of ls); tasks = Run (next (received p fr (tasks_of below) s g a x fr2)) ∷ tasks_of ls })

      go : is_cancel (method_role p fr.method) ≡ false → (g : Gives) → AllTrue (rule_result p fr.method fr.place sh g a) → entries_done p g sh.entries ≡ true →
          none_owns (result_moved p fr.method fr.place sh g a).registers ≡ true → Awaits g x sh2 → Leads t fr2.method (suc fr2.place) (brought g x sh2) → Goal g
      go still Nothing r e n w leads =
          let f = plain p t c s fr fr2 sh sh2 ls below has_task (Returns fr.method fr.receiver) has_task.good.stack.4 (λ d r. refl) (omega arith) refl
          (conforms_to still) has_task.good.stack.1.message.0 e n in
          (tt, finish s.cells fr2 sh2 refl refl (items e) f leads)
      go still A_word r e n w leads =
          let i = word_is p s (word fr a) (register sh a) r.0 (has_task.good.stack.1.words a) in
          let f = plain p t c s fr fr2 sh sh2 ls below has_task (Returns fr.method fr.receiver) has_task.good.stack.4 (λ d r. refl) (omega arith) refl
          (conforms_to still) has_task.good.stack.1.message.0 e n in
          let g = write p t s.cells fr2 sh2 ls x (word fr a) Word f w (λ h. tt) i.1 in
          ((i.0, tt), finish s.cells (set_word fr2 x (word fr a)) (set_register sh2 x Word) refl refl (items e) g leads)
      go still (An_own y) r e n w leads =
          let k = own_widens p y (register sh a) r.0 r.1.0 in
          let f = carried p t c s fr fr2 sh sh2 ls below has_task (Returns fr.method fr.receiver) has_task.good.stack.4
          (λ d r. refl) (omega arith) refl (conforms_to still) has_task.good.stack.1.message.0 a x e n w k.object in
          let h = held_thing p s y (held s.cells (top below a)) (grind (arith, nat_tests, top, register_fits)) in
          let o = ap is_none (word_of_object (word fr a) (register sh a) k.object (has_task.good.stack.1.words a)) in
          let g = retaken p t (moved (top below a) (top ls x) s.cells) (set_word fr2 x None) sh2 ls x (register sh a) (Own y Ready) k f in
          ((o, (h.0, (h.1, tt))), finish _ (set_word fr2 x None) (set_register sh2 x (Own y Ready)) refl refl (items e) g leads)
      go still (A_maybe y) r e n w leads =
          let obj : is_object_or_null (register sh a) ≡ true = object_of p s y (register sh a) r.0 in
          let f = carried p t c s fr fr2 sh sh2 ls below has_task
          (Returns fr.method fr.receiver) has_task.good.stack.4 (λ d r. refl) (omega arith) refl (conforms_to still) has_task.good.stack.1.message.0 a x e n w obj in
          let weak = hold_widens p y (register sh a) r.0 r.1.0 in
          let h = held_maybe p s y (held s.cells (top below a)) (grind (arith, nat_tests, top, register_fits)) in
          let o = ap is_none (word_of_object (word fr a) (register sh a) obj (has_task.good.stack.1.words a)) in
          let g = retaken p t (moved (top below a) (top ls x) s.cells) (set_word fr2 x None) sh2 ls x (register sh a) (Maybe y Ready) weak f in
          ((o, (h, tt)), finish _ (set_word fr2 x None) (set_register sh2 x (Maybe y Ready)) refl refl (items e) g leads)
      go still (Left y) r e n w leads =
          let f = pushed p t c s fr fr2 sh sh2 ls below has_task (Returns fr.method fr.receiver) has_task.good.stack.4 (λ d r. refl) (omega arith) refl
          (conforms_to still) has_task.good.stack.1.message.0 y refl e n in
          let same = has_task.items ∙ ap (λ es. objects es (items_of below)) (left_alone p y sh.entries e).alone in
          (tt, finish s.cells fr2 (with_entry (Pushed_object y Ready) sh2) refl refl same f leads)

      -- one that cancels gives nothing
      cancel_keeps : is_cancel (method_role p fr.method) ≡ true → IsReturned p t s fr below a
      cancel_keeps cancels =
          let nothing = (wired.cancels fr.method (role_cancels (method_role p fr.method) cancels)).1 in
          let entries = none_left p fr sh a nothing ended_so in
          let free : none_owns sh.registers ≡ true = ap (λ g. none_owns (result_moved p fr.method fr.place sh g a).registers) (sym nothing) ∙ ended_so.free in
          let leads : Leads t fr2.method (suc fr2.place) sh2 = subst (λ g. Leads t fr2.method (suc fr2.place) (brought g x sh2)) nothing has_task.good.stack.4.0.2 in
          let then = cells_then p t c s fr fr2 sh sh2 ls has_task a ended_so cancels in
          let fitted = cancel_fitted p t c s fr fr2 sh sh2 ls has_task a ended_so cancels entries free in (
            return_needs p t c s fr sh below has_task a ended_so (subst (λ g. AllTrue (result_needs p fr (tasks_of below) s g a)) (sym nothing) tt) tt,
            subst (λ g. WellTyped p t (returned p fr (tasks_of below) (record s { cells = ended_cells p fr s.cells }) g a (tasks_of below))) (sym nothing)
                (subst (λ b. WellTyped p t (record s { cells = cond b then s.cells; tasks = Run (next fr2) ∷ tasks_of ls }))
                (sym cancels) (finish then fr2 sh2 refl refl (items entries) fitted leads)),
          )

      by_role : (b : Bool) → is_cancel (method_role p fr.method) ≡ b → IsReturned p t s fr below a
      by_role true cancels = cancel_keeps cancels
      by_role false still =
          let w = go still (gives_of p fr.method) ended_so.result ended_so.entries ended_so.free has_task.good.stack.4.0.1 has_task.good.stack.4.0.2 in
          (return_needs p t c s fr sh below has_task a ended_so w.0 tt, ended_plainly p t c s fr sh below has_task a ended_so still w.1)

-- the same through a trap: an object is maybe there, and the code is 0
module _ (p : Image) (t : Typing) (wired : IsWired p) (c : Choice) (s : State) (fr fr2 : Frame) (sh sh2 : AbstractState) (gv : Gives) (ls : List Layer)
    (has_task : At p t s fr sh (Mark gv ∷ Method fr2 sh2 ∷ ls)) where
  abbrev pub marked : List Layer
  marked = Mark gv ∷ Method fr2 sh2 ∷ ls

  pub law_return_caught : (a : ℕ) → ReturnLaw p t s fr sh (Mark gv ∷ Method fr2 sh2 ∷ ls) a
  law_return_caught a r =
      let catches = has_task.good.stack.4.0 in
      let e = catches.0 in
      let w = go (gives_of p fr.method) (rw e catches.1) r.result r.entries r.free caller.0.1 (rw e caller.0.2) (rw e caller.0.3) in
      let mark = mark_on_top s.items _ (same_items p t c s fr sh marked has_task (grind arith)) in
      (return_needs p t c s fr sh marked has_task a r w.0 (mark, tt), ended_plainly p t c s fr sh marked has_task a r catches.2 w.1)
    where
      -- what leaves no object has dealt with all its entries
      x : ℕ
      x = result_register (instr_at p fr2.method fr2.place)

      caller : Stack p t s.cells (Caught gv) (Method fr2 sh2 ∷ ls)
      caller = has_task.good.stack.4.1

      conforms_to : AllConformTo p s.cells (Method fr2 sh2 ∷ ls)
      conforms_to = all_returned p s.cells s.cells fr sh marked has_task.good.conforms_to has_task.good.stack.2 (λ n. refl) (λ n off. refl) (λ o from e h.
          let apart : IsApart p fr.view fr.method (Inside o from) marked = subst (λ h. IsApart p fr.view fr.method h marked) e has_task.good.stack.3 in
          let none = known_nonquiet p t wired s.cells o fr2 sh2 ls caller.0.4 (none_cancels p t wired s.cells o ls fr2.method fr2.receiver caller.0.4 caller.4) in
          let known = known_plain p fr sh.states (states_claim p o marked) has_task.good.stack.4.0.2
          ∙ ap (λ (b : Bool). record { states = sh.states; cancelled = b }) none in
          rejoins_trap p o gv fr2 sh2 ls sh.states (requested s.cells o.name) apart.3 r.settled none (grind (arith, nat_tests)))

      items : no_entry sh.entries ≡ true → forms (below_top s.items) ≡ objects sh2.entries (items_of ls)
      items e = forms_below s.items Mark_form _ (same_items p t c s fr sh marked has_task e)

      -- the code, and on
      finish : (cs : List Cell) (fr' : Frame) (sh' : AbstractState) →
          fr'.method ≡ fr2.method → fr'.place ≡ fr2.place → forms (below_top s.items) ≡ objects sh'.entries (items_of ls) →
          is_unowning (register sh' (suc x)) ≡ true → Fitted p t cs fr' sh' ls → Leads t fr2.method (suc fr2.place) (set_register sh' (suc x) Word) →
          WellTyped p t (record s { cells = cs; tasks = Run (next (set_word fr' (suc x) (Some (pos 0)))) ∷ tasks_of ls; items = below_top s.items })
      finish cs fr' sh' em ep items u f leads =
          let fr'' = set_word fr' (suc x) (Some (pos 0)) in
          let sh'' = set_register sh' (suc x) Word in
          let w = write p t cs fr' sh' ls (suc x) (Some (pos 0)) Word f u (λ h. tt) tt in
          let g = settle p t cs (next fr'') sh'' ls (stepped p t cs fr'' sh'' ls w) (grind (arith, nat_tests)) in
          record {
            layers = Method (next fr'') g.0 ∷ ls;
            tasks = refl;
            items = items ∙ ap (λ es. objects es (items_of ls)) (sym g.2);
            undo_operations = undo_operations_below p s.items has_task.undo_operations;
            good = g.1;
          }

      Goal : Gives → Type 0
      Goal g = AllTrue (result_needs p fr (tasks_of marked) s g a) × WellTyped p t (record s {
        cells = result_cells p fr (tasks_of marked) s g a x (tasks_of ls);
        tasks = Run (next (set_word (received p fr (tasks_of marked) s g a x fr2) (suc x) (Some (pos 0)))) ∷ tasks_of ls;
        items = below_top s.items;
      })

      go : (g : Gives) → LeavesNone g → AllTrue (rule_result p fr.method fr.place sh g a) → entries_done p g sh.entries ≡ true →
          none_owns (result_moved p fr.method fr.place sh g a).registers ≡ true → is_unowning (register sh2 (suc x)) ≡ true → Awaits g x sh2 →
          Leads t fr2.method (suc fr2.place) (caught g x sh2) → Goal g
      go Nothing none r e n u w leads =
          let f = plain p t c s fr fr2 sh sh2 ls marked has_task (Caught gv) caller (λ d r. mark_claims p d gv (Method fr2 sh2 ∷ ls) r) (omega arith) refl
          conforms_to has_task.good.stack.1.message.0 e n in
          (tt, finish s.cells fr2 sh2 refl refl (items e) u f leads)
      go A_word none r e n u w leads =
          let i = word_is p s (word fr a) (register sh a) r.0 (has_task.good.stack.1.words a) in
          let f = plain p t c s fr fr2 sh sh2 ls marked has_task (Caught gv) caller (λ d r. mark_claims p d gv (Method fr2 sh2 ∷ ls) r) (omega arith) refl
          conforms_to has_task.good.stack.1.message.0 e n in
          let g = write p t s.cells fr2 sh2 ls x (word fr a) Word f w (λ h. tt) i.1 in
          ((i.0, tt), finish s.cells (set_word fr2 x (word fr a)) (set_register sh2 x Word) refl refl (items e) (next_unowning sh2.registers x Word u) g leads)
      go (An_own y) none r e n u w leads =
          let k = own_widens p y (register sh a) r.0 r.1.0 in
          let f = carried p t c s fr fr2 sh sh2 ls marked has_task (Caught gv) caller
          (λ d r. mark_claims p d gv (Method fr2 sh2 ∷ ls) r) (omega arith) refl conforms_to has_task.good.stack.1.message.0 a x e n w k.object in
          let h = held_thing p s y (held s.cells (top marked a)) (grind (arith, nat_tests, top, register_fits)) in
          let weak = own_widens_more p y (register sh a) r.0 r.1.0 in
          let o = ap is_none (word_of_object (word fr a) (register sh a) k.object (has_task.good.stack.1.words a)) in
          let g = retaken p t (moved (top marked a) (top ls x) s.cells) (set_word fr2 x None) sh2 ls x (register sh a) (Maybe y Ready) weak f in
          ((o, (h.0, (h.1, tt))), finish _ (set_word fr2 x None) (set_register sh2 x (Maybe y Ready)) refl refl (items e) (next_unowning sh2.registers x (Maybe y Ready) u) g leads)
      go (A_maybe y) none r e n u w leads =
          let obj : is_object_or_null (register sh a) ≡ true = object_of p s y (register sh a) r.0 in
          let f = carried p t c s fr fr2 sh sh2 ls marked has_task
          (Caught gv) caller (λ d r. mark_claims p d gv (Method fr2 sh2 ∷ ls) r) (omega arith) refl conforms_to has_task.good.stack.1.message.0 a x e n w obj in
          let weak = hold_widens p y (register sh a) r.0 r.1.0 in
          let h = held_maybe p s y (held s.cells (top marked a)) (grind (arith, nat_tests, top, register_fits)) in
          let o = ap is_none (word_of_object (word fr a) (register sh a) obj (has_task.good.stack.1.words a)) in
          let g = retaken p t (moved (top marked a) (top ls x) s.cells) (set_word fr2 x None) sh2 ls x (register sh a) (Maybe y Ready) weak f in
          ((o, (h, tt)), finish _ (set_word fr2 x None) (set_register sh2 x (Maybe y Ready)) refl refl (items e) (next_unowning sh2.registers x (Maybe y Ready) u) g leads)
      go (Left y) none r e n u w leads = absurd none

-- a method returns to its dispatch
module _ (p : Image) (t : Typing) (c : Choice) (s : State) (fr : Frame) (sh : AbstractState) (gv : Gives) (w : Dispatch) (owned_chain : List OwnedObject) (ls : List Layer)
    (has_task : At p t s fr sh (Mark gv ∷ Dispatching w owned_chain ∷ ls)) where
  abbrev pub dispatched : List Layer
  dispatched = Mark gv ∷ Dispatching w owned_chain ∷ ls

  -- with this dispatch below, and the cells as they were
  abbrev after_it : Dispatch → State
  after_it d = record s { tasks = Dispatched d ∷ tasks_of ls; items = below_top s.items }

  -- what is claimed with it is what was claimed below the method, but for a message that was served
  pub dispatch_after : (d : Dispatch) (a : ℕ) →
      Returnable p fr sh a → no_entry sh.entries ≡ true → EndsDispatch p d Now → OwnedFirst s.cells (owned_object_of d) owned_chain → IsAttended p s.cells d →
      ((q : Place) → Fits p (seen s.cells) (held s.cells q) (claim p (declared p s.cells) (Dispatching d owned_chain ∷ ls) q)) → WellTyped p t (after_it d)
  dispatch_after d a r entries ends first attended fits = record {
    layers = Dispatching d owned_chain ∷ ls;
    tasks = refl;
    items = forms_below s.items Mark_form _ (same_items p t c s fr sh dispatched has_task entries);
    undo_operations = undo_operations_below p s.items has_task.undo_operations;
    good = record {
      stack = (ends, has_task.good.stack.4.1.1, has_task.good.stack.4.1.2, first, attended);
      fits = fits;
      conforms_to = grind (arith, nat_tests, all_returned, rests_there, conforms_to_rests, known_resting);
      no_duplicates = has_task.good.no_duplicates;
    };
  }

  -- below the method, where it gives nothing and serves nothing
  plain_below : no_entry sh.entries ≡ true → none_owns sh.registers ≡ true → (serves p fr.method ≡ true → ⊥) → (q : Place) →
      Fits p (seen s.cells) (held s.cells q) (claim p (declared p s.cells) (Dispatching w owned_chain ∷ ls) q)
  plain_below entries free plain q = rw (mark_claims p
      (declared p s.cells) gv (Dispatching w owned_chain ∷ ls) q) at (ended p s.cells fr sh dispatched has_task.good.stack.1.holder has_task.good.stack.1.view
      has_task.good.stack.2 has_task.good.stack.3 refl entries free (λ serving. absurd (plain serving)) q (seen s.cells) (held s.cells q) (has_task.good.fits q))

  -- with nothing given, the needs of a return are those of its end
  pub return_nothing : (d : Dispatch) (a : ℕ) → Returnable p fr sh a → gv ≡ Nothing → AllTrue (needs_ended w s.cells) →
      ((r : Returnable p fr sh a) → WellTyped p t (after_it d) → WellTyped p t (after_return p t c s fr sh dispatched has_task a r s.cells)) →
      EndsDispatch p d Now → OwnedFirst s.cells (owned_object_of d) owned_chain → IsAttended p s.cells d → (Returnable p fr sh a → no_entry sh.entries ≡ true →
      none_owns sh.registers ≡ true → (q : Place) → Fits p (seen s.cells) (held s.cells q) (claim p (declared p s.cells) (Dispatching d owned_chain ∷ ls) q)) →
      IsReturned p t s fr dispatched a
  return_nothing d a r none met so ends first attended fits =
      let nothing : gives_of p fr.method ≡ Nothing = has_task.good.stack.4.0.0 ∙ none in
      let entries : no_entry sh.entries ≡ true = none_left p fr sh a nothing r in
      let free : none_owns sh.registers ≡ true = ap (λ g. none_owns (result_moved p fr.method fr.place sh g a).registers) (sym nothing) ∙ r.free in (
        return_needs p t c s fr sh dispatched has_task a r (grind (arith, nat_tests))
            (mark_on_top s.items _ (same_items p t c s fr sh dispatched has_task entries), met),
        ended_plainly p t c s fr sh dispatched has_task a r has_task.good.stack.4.0.2 (so r (dispatch_after d a r entries ends first attended (fits r entries free))),
      )

-- to that of main, or of an object
pub law_return_main : (p : Image) (t : Typing) (c : Choice) (s : State)
    (fr : Frame) (sh : AbstractState) (gv : Gives) (owned_chain : List OwnedObject) (ls : List Layer) (has_task : At p t s fr sh (Mark gv ∷ Dispatching Of_main owned_chain ∷ ls)) (a : ℕ) →
    ReturnLaw p t s fr sh (Mark gv ∷ Dispatching Of_main owned_chain ∷ ls) a
law_return_main p t c s fr sh gv owned_chain ls has_task a r =
    let below = has_task.good.stack.4.1 in
    return_nothing p t c s fr sh gv Of_main owned_chain ls has_task Of_main a r below.0 tt
    (λ r v. v) tt below.3 tt (λ r entries free. plain_below p t c s fr sh gv Of_main owned_chain ls has_task entries free has_task.good.stack.1.message.0)

pub law_return_object : (p : Image) (t : Typing) (c : Choice) (s : State) (fr : Frame) (sh : AbstractState)
    (gv : Gives) (x : OwnedObject) (owned_chain : List OwnedObject) (ls : List Layer) (has_task : At p t s fr sh (Mark gv ∷ Dispatching (Of_object x) owned_chain ∷ ls)) (a : ℕ) →
    ReturnLaw p t s fr sh (Mark gv ∷ Dispatching (Of_object x) owned_chain ∷ ls) a
law_return_object p t c s fr sh gv x owned_chain ls has_task a r =
    let below = has_task.good.stack.4.1 in
    return_nothing p t c s fr sh gv (Of_object x) owned_chain ls has_task (Of_object x) a r below.0 tt
    (λ r v. v) tt below.3 tt (λ r entries free. plain_below p t c s fr sh gv (Of_object x) owned_chain ls has_task entries free has_task.good.stack.1.message.0)

-- to that of a server which serves a message: it is taken, and the dispatch ends as an object's
module _ (p : Image) (t : Typing) (c : Choice) (s : State) (fr : Frame) (sh : AbstractState) (gv : Gives) (x : OwnedObject) (client : ℕ)
    (o : Object) (owned_chain : List OwnedObject) (ls : List Layer) (has_task : At p t s fr sh (Mark gv ∷ Dispatching (Of_server x client (Serves o)) owned_chain ∷ ls)) where
  -- no message is served any more
  taken : (a : ℕ) → Returnable p fr sh a → Fits p (seen s.cells) (held s.cells (Elsewhere In_service)) Null
  taken a r = grind (arith, nat_tests, message_gone)

  others_fit : (a : ℕ) → Returnable p fr sh a → no_entry sh.entries ≡ true → none_owns sh.registers ≡ true → (q : Place) →
      Fits p (seen s.cells) (held s.cells q) (claim p (declared p s.cells) (Dispatching (Of_object x) owned_chain ∷ ls) q)
  others_fit a r entries free q = go q
    where
      bare : AbstractState
      bare = record sh { message_state = Here }

      -- with the message as it was, the method ends
      whole : (q : Place) → Fits p
          (seen s.cells) (held s.cells q) (claim p (declared p s.cells) (Method fr bare ∷ Mark gv ∷ Dispatching (Of_server x client (Serves o)) owned_chain ∷ ls) q) →
          Fits p (seen s.cells) (held s.cells q) (claim p (declared p s.cells) (Mark gv ∷ Dispatching (Of_server x client (Serves o)) owned_chain ∷ ls) q)
      whole q f = ended p s.cells fr bare (Mark gv ∷ Dispatching (Of_server x client (Serves o)) owned_chain ∷ ls) has_task.good.stack.1.holder
          has_task.good.stack.1.view has_task.good.stack.2 has_task.good.stack.3 refl entries free (λ serving. refl) q (seen s.cells) (held s.cells q) f

      below : List Layer
      below = Mark gv ∷ Dispatching (Of_server x client (Serves o)) owned_chain ∷ ls

      go : (q : Place) → Fits p (seen s.cells) (held s.cells q) (claim p (declared p s.cells) (Dispatching (Of_object x) owned_chain ∷ ls) q)
      go (Register f i) = whole (Register f i) (has_task.good.fits (Register f i))
      go (Entry k) = whole (Entry k) (has_task.good.fits (Entry k))
      go (Field n f) = whole (Field n f) (grind (arith, nat_tests, below))
      go (Going k) = whole (Going k) (has_task.good.fits (Going k))
      go (Elsewhere Root) = whole (Elsewhere Root) (subst (λ k. Fits p (seen s.cells) (held s.cells (Elsewhere Root)) k)
          (grind arith) (has_task.good.fits (Elsewhere Root)))
      go (Elsewhere (Session m k)) = has_task.good.fits (Elsewhere (Session m k))
      go (Elsewhere In_service) = subst (λ l. Fits p (seen s.cells) (held s.cells (Elsewhere In_service))
          (claim p (declared p s.cells) (Dispatching (Of_object x) owned_chain ∷ l) (Elsewhere In_service))) (sym has_task.good.stack.4.1.1) (taken a r)
      go (Elsewhere (Queued m k)) = has_task.good.fits (Elsewhere (Queued m k))

  pub law_return_served : (a : ℕ) → ReturnLaw p t s fr sh (Mark gv ∷ Dispatching (Of_server x client (Serves o)) owned_chain ∷ ls) a
  law_return_served a r = grind (
    arith,
    nat_tests,
    return_nothing p t c s fr sh gv (Of_server x client (Serves o)) owned_chain ls has_task (Of_object x) a r,
    fits_unowning p,
    taken a r,
    others_fit a,
  )

-- over an unwinding an operation is over
module _ (p : Image) (t : Typing) (c : Choice) (s : State) (fr : Frame) (sh : AbstractState) (code : ℤ) (es : List CleanupEntry) (ls : List Layer)
    (has_task : At p t s fr sh (Unwinding code es ∷ ls)) where
  pub law_return_unwound : (a : ℕ) → ReturnLaw p t s fr sh (Unwinding code es ∷ ls) a
  law_return_unwound a r =
      let below = Unwinding code es ∷ ls in
      let nothing : gives_of p fr.method ≡ Nothing = has_task.good.stack.4.0.1 in
      let entries : no_entry sh.entries ≡ true = none_left p fr sh a nothing r in
      let free : none_owns sh.registers ≡ true = ap (λ g. none_owns (result_moved p fr.method fr.place sh g a).registers) (sym nothing) ∙ r.free in (
        return_needs p t c s fr sh below has_task a r (rw nothing tt) tt,
        ended_plainly p t c s fr sh below has_task a r has_task.good.stack.4.0.2 (record {
          layers = Unwinding code es ∷ ls;
          tasks = refl;
          items = same_items p t c s fr sh below has_task entries;
          undo_operations = has_task.undo_operations;
          good = record {
            stack = (tt, has_task.good.stack.4.1);
            fits = λ q. ended p s.cells fr sh below has_task.good.stack.1.holder has_task.good.stack.1.view has_task.good.stack.2 has_task.good.stack.3
                refl entries free (λ serving. absurd (has_task.good.stack.1.message.0 serving)) q (seen s.cells) (held s.cells q) (has_task.good.fits q);
            conforms_to = all_returned p s.cells s.cells fr sh below has_task.good.conforms_to has_task.good.stack.2 (λ n. refl) (λ n off. refl) (λ o from e h.
                let apart : IsApart p fr.view fr.method (Inside o from) below = rw e at has_task.good.stack.3 in
                rests_there p o below (requested s.cells o.name) apart.3 (conforms_to_rests (thing_kind p o.thing) sh.states
                (requested s.cells o.name) r.settled (rw (known_resting p o fr sh.states below has_task.good.stack.4.0.2 apart.3) at h)));
            no_duplicates = has_task.good.no_duplicates;
          };
        }),
      )

-- an `error` method answers the dispatch that asked it
module _ (p : Image) (t : Typing) (c : Choice) (s : State) (fr : Frame) (sh : AbstractState) (x : OwnedObject) (owned_chain : List OwnedObject) (ls : List Layer)
    (has_task : At p t s fr sh (Dispatching (Asks x) owned_chain ∷ ls)) where
  abbrev pub asker : List Layer
  asker = Dispatching (Asks x) owned_chain ∷ ls

  same_claims : (answer : ℤ) (d : Place → Kind) (r : Place) →
      claim p d (Dispatching (Answered x answer) owned_chain ∷ ls) r ≡ claim p d (Dispatching (Asks x) owned_chain ∷ ls) r
  same_claims answer d y = grind arith

  pub law_answer : (a : ℕ) → ReturnLaw p t s fr sh (Dispatching (Asks x) owned_chain ∷ ls) a
  law_answer a r =
      let below = has_task.good.stack.4 in
      let gives : gives_of p fr.method ≡ A_word = below.0.1 in
      let answer : ℤ = reported_answer (gives_of p fr.method) fr a in
      let rule = rw gives at r.result in
      let reported = word_is p s (word fr a) (register sh a) rule.0 (has_task.good.stack.1.words a) in
      let entries : no_entry sh.entries ≡ true = ap (λ g. entries_done p g sh.entries) (sym gives) ∙ r.entries in
      let free : none_owns sh.registers ≡ true = ap (λ g. none_owns (result_moved p fr.method fr.place sh g a).registers) (sym gives) ∙ r.free in (
        return_needs p t c s fr sh asker has_task a r (rw gives (reported.0, tt)) (refl, tt),
        ended_plainly p t c s fr sh asker has_task a r below.0.2 (record {
          layers = Dispatching (Answered x answer) owned_chain ∷ ls;
          tasks = refl;
          items = same_items p t c s fr sh asker has_task entries;
          undo_operations = has_task.undo_operations;
          good = record {
            stack = (tt, below.1, below.2, below.3, tt);
            fits = λ q. rw (same_claims answer (declared p s.cells) q)
                (ended p s.cells fr sh asker has_task.good.stack.1.holder has_task.good.stack.1.view has_task.good.stack.2 has_task.good.stack.3 refl entries free
                (λ serving. absurd (has_task.good.stack.1.message.0 serving)) q (seen s.cells) (held s.cells q) (has_task.good.fits q));
            conforms_to = grind (arith, nat_tests, all_returned p s.cells s.cells fr sh, rests_there p, conforms_to_rests, known_resting p);
            no_duplicates = has_task.good.no_duplicates;
          };
        }),
      )
