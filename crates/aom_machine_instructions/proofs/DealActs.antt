-- The last item of the cleanup stack is dealt with: an object is destroyed, and an operation is run.
use Rattle.std.proofs.lemmas.Bool.Decides.{nat_tests}
use Rattle.std.proofs.Common.{◌<◌, ◌≡◌, ℕ, ℤ, true, length, List, [], ◌∷◌, Option, Some, None, slice_set, refl, sym, ap, ◌∙◌, subst, arith}
use Rattle.std.specs.Int.{w32, cast_signed}
use Rattle.std.specs.Prelude.{is_some}
use Rattle.std.proofs.lemmas.List.{length-set, length-replicate}
use Rattle.aom_image.specs.Image.{Image}
use Rattle.aom_instructions.specs.declared.instr.Instr.TheVariants.{PopDelete}
use Rattle.aom_cells.specs.Heap.{null}
use Rattle.aom_frames.specs.declared.item.Item.{Item as Machine_item}
use Rattle.aom_frames.specs.declared.item.Item.TheVariants.{Object as Holds_object, Operation as Holds_operation}
use Rattle.aom_typing_rules.specs.Typing.{Typing}
use Rattle.aom_semantics.specs.Cleanup.{dealt_with as deals_with, destroyed, operation_frame, top_matches_entry, top_is_whole, top_place}
use Rattle.aom_semantics.specs.Places.{moved, Place, Register, Entry, Going, Object, changed, held}
use Rattle.aom_machine_instructions.proofs.SafetyLemmas.{dealing as dealing_effect, entry_object}
use Rattle.aom_semantics.specs.State.{Static, frame_of, Run, Item, An_object, State}
use Rattle.aom_safety.specs.WellTyped.{WellTyped}
use Rattle.aom_frames.specs.Tasks.{fresh, with_register}
use Rattle.aom_frames.specs.declared.task.Task.TheVariants.{Run as Runs_frame}
use Rattle.aom_frames.specs.Items.{IsAboveMark}
use Rattle.aom_machine_instructions.proofs.ReceiverHolding.{has_task, needs_met}
use Rattle.aom_machine_instructions.specs.Next.{IsNext, counting}
use Rattle.aom_machine_instructions.proofs.Topping.{entry_top_matches, top_lives}
use Rattle.aom_machine_state.specs.declared.parts.Parts.{Parts}
use Rattle.aom_machine_instructions.specs.Acts.{DoesIn}
use Rattle.aom_machine_state.specs.Agrees.{Represents, SameFrame, SameItems, word_at, number, Agrees}
use Rattle.aom_machine_instructions.specs.Cleanup.{TopLives, dealing, dealt_with}
use Rattle.aom_machine_instructions.specs.Going.{destructor_at, is_server_class}
use Rattle.aom_image.specs.WellFormed.{WellFormed}
use Rattle.aom_cells.specs.Heap.{class_at}
use Rattle.aom_machine_instructions.proofs.SemanticsLemmas.{held_lives}
use Rattle.aom_machine_state.specs.Places.{others, value_in, with_items}
use Rattle.aom_machine_instructions.proofs.MachineStateLemmas.{Entries_alike, entries_alike, entries_own, entries_run, going_past, kept, owns_none}
use Rattle.aom_machine_instructions.proofs.MachineStateLemmas.{same_items_length, same_length, top_value, value_alike, value_popped, value_written}
use Rattle.aom_machine_instructions.proofs.MachineStateLemmas.{word_written, writes}
use Rattle.aom_machine_instructions.proofs.GoingActs.{begins, destructor_same, server_same, dying_shows, fresh_value, fresh_word}
use Rattle.aom_machine_instructions.proofs.ReturnActs.{none_above}
use Rattle.aom_machine_instructions.proofs.Running.{agrees_with, aside_moved, aside_of, aside_with, begun_frame, nothing_held, object_small, reframed}
use Rattle.aom_machine_instructions.proofs.WordActs.{plain_in}

module _ (p : Image) (formed : WellFormed p) (m : Parts) (t : Typing) (s : State) (typed : WellTyped p t s) (agrees : Agrees p m s) where
  deep : length m.stack.tasks ≡ length s.tasks
  deep = same_length m.stack.tasks s.tasks agrees.tasks

  -- an object is destroyed
  object_goes : (n : ℕ) (is : List Machine_item) (js : List Item) → m.entries.items ≡ Holds_object n ∷ is → SameItems is js → (o : Option Object) → held s.cells
      (Entry (length js)) ≡ o → top_is_whole s.cells (An_object ∷ js) ≡ true → Agrees p (dealing p (Holds_object n ∷ is) m) (destroyed p o js s.tasks s)
  object_goes n is js was same None e whole = let none = sym whole ∙ ap (λ (o : Option Object). is_some o) e in cc
  object_goes n is js was same (Some o) e whole =
      let us = m.stack.tasks in
      let ts = s.tasks in
      let from = Entry (length js) in
      let mid = with_items is m in
      let even = same_items_length is js same in
      let long = deep in
      let v' = value_in us m.cells (Holds_object n ∷ is) (others m) in
      let old : (q : Place) → Represents (v' q) (word_at ts q) (held s.cells q) =
      λ q. subst (λ es. Represents (value_in us m.cells es (others m) q) (word_at ts q) (held s.cells q)) was (agrees.values q) in
      let there = top_value us m.cells is (others m) n (length js) even in
      let name : n ≡ o.name = sym there ∙ old from ∙ ap number e in
      let empty : held s.cells (Going (length ts)) ≡ None = grind (arith, nat_tests, nothing_held p m t s typed agrees, going_past us) in
      let lives = held_lives s.cells from o typed.good.no_duplicates e in
      let cell = entry_object p t s typed o (length js) e in
      let aside = aside_moved p m s from (Going (length ts)) agrees refl refl in
      let v : State = record s { cells = moved from (Going (length ts)) s.cells; items = js } in
      begins p mid v us ts n (class_at m.cells n) o (length js) name (subst (λ i. i < 4096) (sym name) (object_small p m s formed agrees o lives cell))
      (ap (λ i. is_server_class p (class_at m.cells i)) name ∙ server_same p m s agrees o lives cell)
      (ap (λ i. destructor_at p m.cells i) name ∙ destructor_same p m s agrees o lives cell)
      agrees.tasks (aside_with p m (record s { cells = v.cells }) mid.entries js aside same agrees.entry_room) (dying_shows p mid v us ts n s.cells from v'
      (word_at ts) refl old long refl there empty (value_popped us m.cells is (others m) n (length js) even) (λ q. refl))

  -- an operation is run
  operation_runs : (k n k' : ℕ) (w : ℤ) (is : List Machine_item) (js : List Item) → m.entries.items ≡ Holds_operation k n ∷ is → k ≡ k' → cast_signed w32 n ≡ w → SameItems is js
      → Agrees p (dealing p (Holds_operation k n ∷ is) m) (record s { tasks = Run (operation_frame k' w (length js)) ∷ s.tasks; items = js })
  operation_runs k n k' w is js was which word same =
      let us = m.stack.tasks in
      let ts = s.tasks in
      let d = length ts in
      let q0 = Register d 0 in
      let f = fresh k null in
      let fr = frame_of k' Static (length js) in
      let long = deep in
      let begun = subst (λ x. SameFrame f (frame_of x Static (length js))) which (begun_frame k null Static (length js) refl (λ there. absurd (there refl))) in
      let base : (q : Place) → Represents (value_in (Runs_frame f ∷ us) m.cells is (others m) q) (word_at (Run fr ∷ ts) q) (held s.cells q) = grind (
        arith,
        nat_tests,
        fresh_value k,
        value_alike us m.cells (Holds_operation k n ∷ is) is,
        owns_none (Holds_operation k n) is,
        fresh_word k' Static,
      ) in
      agrees_with p (with_items is m) (record s { items = js }) (Runs_frame (with_register 0 n f) ∷ us) (Run (operation_frame k' w (length js)) ∷ ts)
      (aside_with p m s (with_items is m).entries js (aside_of p m s agrees) same agrees.entry_room)
      (reframed f fr (slice_set f.registers 0 n) (Some w ∷ []) 0 0 begun (length-set f.registers 0 n ∙ length-replicate 16 null) refl, agrees.tasks)
      (writes _ _ _ _ (held s.cells) _ q0 n (Some w) None base word
      (value_written f us m.cells is (others m) d 0 n 0 long (let wide = length-replicate 16 null in omega arith)) (word_written fr ts 0 0 (Some w))
      (λ q. kept (held s.cells) q0 q ∙ ap (λ o. changed (held s.cells) q0 o q) (none_above p t s d 0 typed (omega arith))))

  pub deals : top_matches_entry s.items ≡ true → top_is_whole s.cells s.items ≡ true → Agrees p (dealt_with p m) (deals_with p s.items s.tasks s)
  deals some whole = go refl (entries_alike m.entries.items s.items agrees.entries (entry_top_matches m.entries.items s.items agrees.entries some)) whole
    where
      go : {is : List Machine_item} {js : List Item} → m.entries.items ≡ is → Entries_alike is js → top_is_whole s.cells js ≡ true →
          Agrees p (dealing p is m) (deals_with p js s.tasks s)
      go was (entries_own n is js same) whole = object_goes n is js was same (held s.cells (Entry (length js))) refl whole
      go was (entries_run k n k' w is js which word same) whole = operation_runs k n k' w is js was which word same

module _ (p : Image) (m : Parts) where
  pub deletes_entry : IsNext p PopDelete m → IsAboveMark m.entries.items
  unfolding has_task
  deletes_entry next = let n = needs_met p m PopDelete next in entry_top_matches m.entries.items next.stands.0.items next.stands.1.agrees.entries n.1.0

  pub deletes_whole : IsNext p PopDelete m → TopLives m
  unfolding has_task
  deletes_whole next = let n = needs_met p m PopDelete next in
      top_lives p (counting next.counts m) next.stands.1.typing next.stands.0 next.stands.1.typed next.stands.1.agrees n.1.1.0

pub pop_delete_does : (p : Image) (m : Parts) (refused : List ℕ) → DoesIn p refused PopDelete m (dealt_with p m)
pop_delete_does p m refused = plain_in p m _ refused PopDelete refl (λ h c needs typed.
    let s = h.state in
    subst (Agrees p (dealt_with p m)) (dealing_effect p h.frame h.below s s.items (held s.cells (top_place s.items)) refl refl needs.0 needs.1.0)
    (subst (λ us. Agrees p (dealt_with p m) (deals_with p s.items us s)) h.top (deals p h.formed m h.typing s h.typed h.agrees needs.0 needs.1.0)))
