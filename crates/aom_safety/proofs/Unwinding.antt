-- Each move of an unwinding keeps the typing: an object is destroyed, an operation runs, or the code arrives.
use Rattle.std.proofs.lemmas.Bool.Decides.{nat_tests}
use Rattle.std.proofs.Common.{List, [], ap, refl, true, ℤ, ◌∷◌, ◌≡◌, arith}
use Rattle.aom_image.specs.Image.{Image}
use Rattle.aom_roles.specs.Roles.{is_cancel}
use Rattle.aom_typing_rules.specs.Typing.{IsTyped, Typing}
use Rattle.aom_abstract_state.specs.declared.kind.CleanupEntry.{CleanupEntry}
use Rattle.aom_safety.proofs.Arrival.{arrives}
use Rattle.aom_safety.proofs.Dealing.{Dealing, deals}
use Rattle.aom_safety.specs.Claims.{Dispatching, Layer, Mark, Unwinding, entry_form, forms, items_of, objects, tasks_of}
use Rattle.aom_semantics.specs.Cleanup.{dealt_with, top_is_whole, unwound}
use Rattle.aom_safety.specs.Laws.{IsWired}
use Rattle.aom_semantics.specs.State.{A_mark, An_object, An_operation, Item, State, Unwind}
use Rattle.aom_safety.specs.WellTyped.{AllUndo, Good, PreservesTyping, Leaves, Stack, WellTyped}
use Rattle.aom_safety.proofs.Items.{no_mark}

-- one more entry to unwind
module _ (p : Image) (t : Typing) (wired : IsWired p) (typed : IsTyped p t) (s : State) (code : ℤ) where
  -- an entry is left: it is dealt with over the unwinding
  of_entry : (e : CleanupEntry) (es : List CleanupEntry) (ls : List Layer) → forms s.items ≡ entry_form e ∷ objects es (items_of ls) →
      AllUndo p s.items → Good p t s.cells (Unwinding code (e ∷ es) ∷ ls) → PreservesTyping p t (unwound p code (tasks_of ls) s s.items)
  of_entry e es ls same undo_operations good =
      let d : Dealing p t s e (Unwinding code (e ∷ es) ∷ ls) (Unwinding code es ∷ ls) = record {
        fits = good.fits;
        claims = λ r. grind arith;
        deep = refl;
        conforms_to = good.conforms_to;
        no_duplicates = good.no_duplicates;
        items = same;
        undo_operations = undo_operations;
        under_object = (tt, good.stack.1);
        unserved = λ x. x;
        under_operation = λ m undo. ((undo.leaves, undo.gives, ap is_cancel undo.role, undo.quiet), good.stack.1);
      } in
      let w = deals p t wired typed s e (Unwinding code (e ∷ es) ∷ ls) (Unwinding code es ∷ ls) d in
      go e s.items same w.0 w.1
    where
      go : (e : CleanupEntry) (items : List Item) → forms items ≡ entry_form e ∷ objects es (items_of ls) → top_is_whole s.cells items ≡ true →
          WellTyped p t (dealt_with p items (Unwind code ∷ tasks_of ls) s) → PreservesTyping p t (unwound p code (tasks_of ls) s items)
      go e [] same whole w = cc
      go e (An_object ∷ items) same whole w = grind (arith, nat_tests)
      go e (An_operation m x ∷ items) same whole w = w
      go e (A_mark ∷ items) same whole w = absurd (no_mark e cc)

  -- none is left: under an unwinding stands its trap
  of_none : (ls : List Layer) → forms s.items ≡ items_of ls → AllUndo p s.items → Good p t s.cells (Unwinding code [] ∷ ls) →
      PreservesTyping p t (unwound p code (tasks_of ls) s s.items)
  of_none [] same undo_operations good = let clash : Stack p t s.cells Leaves [] = good.stack.1 in cc
  of_none (Mark gv ∷ ls) same undo_operations good = grind (arith, nat_tests, arrives)
  of_none (Dispatching d owned_chain ∷ ls) same undo_operations good = grind (arith, nat_tests)
  of_none _ same undo_operations good = absurd (assumption tt)

  pub unwinds : (es : List CleanupEntry) (ls : List Layer) → forms s.items ≡ objects es (items_of ls) → AllUndo p s.items →
      Good p t s.cells (Unwinding code es ∷ ls) → PreservesTyping p t (unwound p code (tasks_of ls) s s.items)
  unwinds [] ls same undo_operations good = of_none ls same undo_operations good
  unwinds (e ∷ es) ls same undo_operations good = of_entry e es ls same undo_operations good
