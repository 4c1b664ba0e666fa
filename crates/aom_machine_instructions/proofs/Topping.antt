-- What the code needs to know of the cleanup stack, and of the methods that a trap calls.
use Rattle.std.proofs.lemmas.Bool.Decides.{nat_tests}
use Rattle.std.proofs.Common.{suc, ◌≡◌, ◌<◌, ◌+◌, ◌^◌, ℕ, Bool, true, length, List, [], ◌∷◌, Option, Some, None}
use Rattle.std.proofs.Common.{IfNone, IfSome, IsSome, refl, sym, ap, ◌∙◌, subst, arith}
use Rattle.std.specs.Prelude.{is_some}
use Rattle.std.proofs.lemmas.Bool.{eqb-true}
use Rattle.aom_image.specs.Image.{Image}
use Rattle.aom_image.specs.Views.{gives_of, instr_at}
use Rattle.aom_instructions.specs.Table.{transfer_of}
use Rattle.aom_instructions.specs.declared.instr.Instr.{Instr}
use Rattle.aom_instructions.specs.declared.transfer.Transfer.TheVariants as transfer
use Rattle.aom_image.specs.declared.method.Gives.{Gives}
use Rattle.aom_frames.specs.Items.{IsAboveMark, IsEntry, IsMarked, IsNotAboveMark, Stack as Machine_items}
use Rattle.aom_frames.specs.declared.item.Item.{Item as Machine_item}
use Rattle.aom_frames.specs.declared.item.Item.TheVariants.{Mark as Is_mark}
use Rattle.aom_roles.specs.Tests.{AllTrue}
use Rattle.aom_typing_rules.specs.Typing.{Typing}
use Rattle.aom_abstract_state.specs.declared.kind.CleanupEntry.{CleanupEntry}
use Rattle.aom_semantics.specs.Calls.{is_level, result_needs, result_register}
use Rattle.aom_safety.specs.Claims.{Method, Form, Mark_form, forms, items_of, objects}
use Rattle.aom_semantics.specs.Cleanup.{top_matches_entry, top_matches_object, top_is_whole}
use Rattle.aom_semantics.specs.Places.{Entry, held}
use Rattle.aom_semantics.specs.Moves.{needs}
use Rattle.aom_semantics.specs.State.{Choice, Frame, Task, Run, Trapped, Item, State}
use Rattle.aom_safety.specs.WellTyped.{Good, LeavesNone, WellTyped}
use Rattle.aom_machine_instructions.proofs.SafetyLemmas.{all_parts, entry_object, length_forms, length_objects, mark_layer, method_layer}
use Rattle.aom_frames.specs.Tasks.{TopFrameIs, method_here, place_here, below_first}
use Rattle.aom_frames.specs.declared.task.Task.{Task as Machine_task}
use Rattle.aom_frames.specs.declared.task.Task.TheVariants.{Run as Runs_frame, Trapped as Is_trap}
use Rattle.aom_machine_state.specs.declared.parts.Parts.{Parts}
use Rattle.aom_machine_instructions.specs.Acts.{requested}
use Rattle.aom_machine_state.specs.Agrees.{SameItems, SameTasks, number, Agrees}
use Rattle.aom_machine_instructions.specs.Cleanup.{ItemLives, TopLives, TopMatchesObject}
use Rattle.aom_machine_instructions.specs.Next.{IsNext, counting}
use Rattle.aom_machine_state.specs.Places.{others, value_in, IsEnding, IsTrapped}
use Rattle.aom_machine_state.specs.Room.{ReturnsTo}
use Rattle.std.specs.Bool.{OnFalse}
use Rattle.std.proofs.lemmas.Bool.{false≢true}
use Rattle.aom_machine_instructions.proofs.ImageLemmas.{some_given}
use Rattle.aom_machine_instructions.proofs.MachineStateLemmas.{A_catcher, A_method, A_trap, Alike, Alike_items, TopMatches, alike, both_objects, both_trapped}
use Rattle.aom_machine_instructions.proofs.MachineStateLemmas.{by_item, by_items, catcher_on_top, items_alike, method_on_top, same_below, same_items_length}
use Rattle.aom_machine_instructions.proofs.MachineStateLemmas.{top_value, top_matches, trap_on_top}
use Rattle.aom_machine_instructions.proofs.Finding.{class_fits, object_lives}
use Rattle.aom_machine_instructions.proofs.ReceiverHolding.{has_task, needs_met, return_needs}
use Rattle.aom_machine_instructions.proofs.Stepping.{at_step}

-- ---- what is last

-- what a test of the state's items tells of the machine's
true_top_matches : (test : List Item → Bool) (Q : List Machine_item → Type 0) (is : List Machine_item) (js : List Item) →
    (OnFalse (test js) ⊥ → Q is) → test js ≡ true → Q is
true_top_matches test Q is js says e = says (subst (λ b. OnFalse b ⊥) (sym e) tt)

pub entry_top_matches : (is : List Machine_item) (js : List Item) → SameItems is js → top_matches_entry js ≡ true → IsAboveMark is
entry_top_matches is js same e = grind (arith, nat_tests, true_top_matches, by_items, by_item)

pub object_top_matches : (is : List Machine_item) (js : List Item) → SameItems is js → top_matches_object js ≡ true → TopMatchesObject is
object_top_matches is js same e = grind (arith, nat_tests, true_top_matches, by_items, by_item)

-- an object that is last lives
pub top_lives : (p : Image) (m : Parts) (t : Typing) (s : State) → WellTyped p t s → Agrees p m s → top_is_whole s.cells s.items ≡ true → TopLives m
top_lives p m t s typed agrees whole = go refl (items_alike m.entries.items s.items agrees.entries) whole
  where
    go : {is : List Machine_item} {js : List Item} → m.entries.items ≡ is → Alike_items is js → top_is_whole s.cells js ≡ true → ItemLives m.cells is
    go was (both_objects n is js same) whole = some_given (λ o. is_some o ≡ true) (held s.cells (Entry (length js))) whole (λ none. false≢true none) (λ o e _.
        let value_here = ap (λ es. value_in m.stack.tasks m.cells es (others m) (Entry (length js))) was in
        let name : n ≡ o.name = sym (top_value m.stack.tasks m.cells is (others m) n (length js) (same_items_length is js same)) ∙ sym value_here
        ∙ agrees.values (Entry (length js)) ∙ ap number e in
        (object_lives p m t s typed agrees (Entry (length js)) o n e (entry_object p t s typed o (length js) e) name, class_fits p m s agrees n))
    go was _ whole = tt

-- an instruction that needs one there finds it
module _ (p : Image) (m : Parts) (i : Instr) (next : IsNext p i m) where
  pub finds_object_last : ((c : Choice) (fr : Frame) (ts : List Task) (s : State) → AllTrue (needs p c fr ts s i) → top_matches_object s.items ≡ true) →
      TopMatchesObject m.entries.items
  unfolding has_task
  finds_object_last says =
      let h = has_task p (counting next.counts m) next.stands next.runs in
      let n = needs_met p m i next in
      object_top_matches m.entries.items next.stands.0.items next.stands.1.agrees.entries (says n.0 h.frame h.below (requested i (at_step h.state)) n.1)

  pub finds_entry_last : ((c : Choice) (fr : Frame) (ts : List Task) (s : State) → AllTrue (needs p c fr ts s i) → top_matches_entry s.items ≡ true) →
      IsAboveMark m.entries.items
  unfolding has_task
  finds_entry_last says =
      let h = has_task p (counting next.counts m) next.stands next.runs in
      let n = needs_met p m i next in
      entry_top_matches m.entries.items next.stands.0.items next.stands.1.agrees.entries (says n.0 h.frame h.below (requested i (at_step h.state)) n.1)

-- ---- a return through a trap finds its mark

-- as many items as below the entries are those below
implied : (es : List CleanupEntry) (fs : List Form) → length (objects es fs) ≡ length fs → objects es fs ≡ fs
implied [] fs e = refl
implied (x ∷ es) fs e = let more = length_objects es fs in absurd (omega arith)

mark_top_matches : (is : List Machine_item) (js : List Item) (fs : List Form) → SameItems is js → forms js ≡ Mark_form ∷ fs → IsMarked is
mark_top_matches x y fs same e = grind arith

level : (p : Image) (fr : Frame) (ts : List Task) (s : State) (g : Gives) → LeavesNone g → is_level p fr ts s g ≡ true → length s.items ≡ fr.height
level p fr ts s x none e = grind (arith, nat_tests, eqb-true)

marked_under : (p : Image) (t : Typing) (s : State) (fr : Frame) (ts : List Task) (is : List Machine_item) →
    WellTyped p t s → s.tasks ≡ Run fr ∷ Trapped ∷ ts → SameItems is s.items → is_level p fr (Trapped ∷ ts) s (gives_of p fr.method) ≡ true → IsMarked is
marked_under p t s fr ts is typed top same flat =
    method_layer (λ ls. (forms s.items ≡ items_of ls) × Good p t s.cells ls) fr (Trapped ∷ ts) typed.layers (sym typed.tasks ∙ top) (typed.items, typed.good)
    (λ sh ls under h. mark_layer (λ ls. (forms s.items ≡ items_of (Method fr sh ∷ ls)) × Good p t s.cells (Method fr sh ∷ ls)) ts ls under h (λ gv ls _ h.
    let mark = h.1.stack.4.0 in
    let none : LeavesNone (gives_of p fr.method) = subst LeavesNone (sym mark.0) mark.1 in
    let even = sym (ap length h.0) ∙ length_forms s.items ∙ level p fr (Trapped ∷ ts) s (gives_of p fr.method) none flat ∙ h.1.stack.1.height in
    mark_top_matches is s.items (items_of ls) same (h.0 ∙ implied sh.entries (Mark_form ∷ items_of ls) even)))

pub finds_mark : (p : Image) (m : Parts) (i : Instr) (a : ℕ) → IsNext p i m → transfer_of i ≡ transfer.Return a →
    IsTrapped (below_first m.stack.tasks) → IsMarked m.entries.items
unfolding has_task
finds_mark p m i a next is trapped =
    let h = has_task p (counting next.counts m) next.stands next.runs in
    let s = requested i (at_step h.state) in
    let flat = (all_parts (result_needs p h.frame h.below s (gives_of p h.frame.method) a) _ (return_needs p m i a next is)).1.0 in
    let same = subst (SameTasks m.stack.tasks) h.top next.stands.1.agrees.tasks in
    go h.frame h.below h.top flat (top_matches A_trap (below_first m.stack.tasks) trapped)
    (alike (below_first m.stack.tasks) h.below (same_below m.stack.tasks (Run h.frame) h.below same))
  where
    go : (fr : Frame) (ts : List Task) → next.stands.0.tasks ≡ Run fr ∷ ts → is_level p fr ts (requested i (at_step next.stands.0))
        (gives_of p fr.method) ≡ true → {ms : List Machine_task} → TopMatches A_trap ms → Alike ms ts → IsMarked m.entries.items
    go fr _ top flat (trap_on_top _) (both_trapped _ ts _ _) =
        marked_under p next.stands.1.typing next.stands.0 fr ts m.entries.items next.stands.1.typed top next.stands.1.agrees.entries flat

-- an entry is last or not
not_both : (is : List Machine_item) → IsAboveMark is → IsNotAboveMark is → ⊥
not_both [] above not = above
not_both (Is_mark ∷ is) above not = above
not_both (_ ∷ is) above not = not

-- so an entry that is last comes off
pub comes_off : (was now : Machine_items) (o : Option Machine_item) → IsAboveMark was.items → IfNone o (IsNotAboveMark was.items × (now ≡ was)) →
    IfSome o (λ i. IsEntry i × (was ≡ record now { items = i ∷ now.items })) → (i : Machine_item) × (was ≡ record now { items = i ∷ now.items })
comes_off was now None above none some = absurd (not_both was.items above none.0)
comes_off was now (Some i) above none some = (i, some.1)

-- what a method returns to through a trap
caught_within : (p : Image) {ms : List Machine_task} → ReturnsTo p ms → TopMatches A_catcher ms
    → ((place_here (below_first ms) + 1) < 2 ^ 64) × (suc (result_register (instr_at p (method_here (below_first ms)) (place_here (below_first ms)))) < 16)
caught_within p to (catcher_on_top f ms) = (to.1, to.2)

pub coded_through : (p : Image) (ms : List Machine_task) →
    ReturnsTo p ms → IsTrapped ms → TopFrameIs (below_first ms) → suc (result_register (instr_at p (method_here (below_first ms)) (place_here (below_first ms)))) < 16
coded_through p ms to trapped runs = (caught_within p to (top_matches A_catcher ms (trapped, runs))).1

pub ends_under : (p : Image) (ms : List Machine_task) → ReturnsTo p ms → IsTrapped ms → (TopFrameIs (below_first ms) → ⊥) → IsEnding (below_first ms)
ends_under p ms to trapped stops = go to (top_matches A_trap ms trapped) stops
  where
    under : (ms : List Machine_task) → ReturnsTo p (Is_trap ∷ ms) → (TopFrameIs ms → ⊥) → IsEnding ms
    under (Runs_frame f ∷ ms) to stops = stops tt
    under _ to stops = to

    go : {ms : List Machine_task} → ReturnsTo p ms → TopMatches A_trap ms → (TopFrameIs (below_first ms) → ⊥) → IsEnding (below_first ms)
    go to (trap_on_top ms) stops = under ms to stops

-- it goes on there
pub returns_within : (p : Image) (ms : List Machine_task) → ReturnsTo p ms → TopFrameIs ms →
    IsSome (instr_at p (method_here ms) (place_here ms)) × ((place_here ms + 1) < 2 ^ 64)
returns_within p ms to runs = go to (top_matches A_method ms runs)
  where
    go : {ms : List Machine_task} → ReturnsTo p ms → TopMatches A_method ms → IsSome (instr_at p (method_here ms) (place_here ms)) × ((place_here ms + 1) < 2 ^ 64)
    go to (method_on_top f ms) = to

pub returns_within_through : (p : Image) (ms : List Machine_task) → ReturnsTo p ms → IsTrapped ms → TopFrameIs (below_first ms) →
    (place_here (below_first ms) + 1) < 2 ^ 64
returns_within_through p ms to trapped runs = (caught_within p to (top_matches A_catcher ms (trapped, runs))).0
