-- The machine's rank is that of the states that it stands for, and each move lowers that.
use Rattle.std.proofs.lemmas.Bool.Decides.{nat_tests}
use Rattle.std.proofs.Common.{zero, suc, ◌≡◌, ℕ, ◌<◌, ◌+◌, ◌*◌, length, List, [], ◌∷◌, Option, Bool, cond, ◌==◌, inl, inr, slice_index_or, refl, ap, ◌∙◌, arith}
use Rattle.std.specs.Prelude.{map, ◌⊎◌}
use Rattle.aom_image.specs.Image.{Image}
use Rattle.aom_image.specs.Views.{method_at}
use Rattle.aom_image.specs.declared.method.Method.{Method}
use Rattle.aom_cells.specs.Heap.{null}
use Rattle.aom_roles.specs.Tables.{at}
use Rattle.aom_typing_rules.specs.Typing.{Typing}
use Rattle.aom_semantics.specs.State.{Closing, Dispatch, Frame, Task, Trapped, Destroy, Unwind, Dispatched, Item, State}
use Rattle.aom_safety.specs.WellTyped.{WellTyped}
use Rattle.aom_frames.specs.declared.frame.Frame.{Frame as Machine_frame}
use Rattle.aom_frames.specs.declared.task.Task.{Task as Machine_task}
use Rattle.aom_frames.specs.declared.task.Task.TheVariants.{Trapped as Is_trap, Closing as Closes, Destroy as Destroys, Unwind as Unwinds, Dispatched as Ends}
use Rattle.aom_frames.specs.declared.item.Item.{Item as Machine_item}
use Rattle.aom_termination.specs.RankTerms.{over_rank_term}
use Rattle.aom_termination.specs.Ranks.{closing_rank, price, rank_worths, left_in, end_rank, waiting_rank, tasks_rank, destructions, operations, rank}
use Rattle.aom_machine.proofs.TerminationLemmas.{cells_stand_or_go, moves_lower_ranks, rank_term_alike}
use Rattle.aom_machine.proofs.SemanticsLemmas.{held_lives}
use Rattle.aom_semantics.specs.Places.{Elsewhere, Going, Place, Root}
use Rattle.aom_machine_state.specs.Agrees.{SameDispatch, dispatch_of, SameFrame, SameTasks, SameItems, Agrees, observed_by}
use Rattle.aom_machine_state.specs.Places.{going_in, going_of}
use Rattle.aom_machine.proofs.MachineInstructionsLemmas.{null_unnamed, object_there}
use Rattle.aom_termination.specs.RankLaws.{GoesNoMessage}
use Rattle.aom_machine_state.specs.declared.parts.Parts.{Parts}
use Rattle.aom_frames.specs.declared.dispatch.Dispatch.{Dispatch as Machine_dispatch}
use Rattle.aom_machine.specs.Ranks.{ranked, operations_in, rank_in}
use Rattle.aom_machine_state.specs.Stands.{Sound}
use Rattle.aom_machine_instructions.specs.Moves.{Moved}
use Rattle.aom_machine.proofs.MachineStateLemmas.{by_item, by_items, by_task, by_tasks, same_length}
use Rattle.aom_machine.proofs.ImageLemmas.{cons_given}

-- ---- what is left of a method hangs on the number of rounds in each counter

at_index : (none : ℕ) (xs : List ℕ) (i : ℕ) → at none xs i ≡ slice_index_or xs i none
at_index none [] i = refl
at_index none (x ∷ xs) zero = refl
at_index none (x ∷ xs) (suc i) = at_index none xs i

left_alike : (cs ds : List ℕ) → ((i : ℕ) → at 0 cs i ≡ at 0 ds i) → (o : Option Method) (place : ℕ) → left_in o cs place ≡ left_in o ds place
left_alike cs ds alike x place = grind (arith, nat_tests, rank_term_alike)

-- ---- tasks that stand for each other have the same rank

frame_alike : (p : Image) (f : Machine_frame) (fr : Frame) (to to' : ℕ) → SameFrame f fr →
    to ≡ to' → left_in (method_at p f.method) f.counters to * price p f.method ≡ left_in (method_at p fr.method) fr.counters to' * price p fr.method
frame_alike p f fr to to' same there = grind (arith, nat_tests, left_alike f.counters fr.counters, at_index 0 f.counters)

-- where an object sits its rank does not tell
placed_alike : (p : Image) (q r : Place) (x : Machine_dispatch) → end_rank p (dispatch_of q x) ≡ end_rank p (dispatch_of r x)
placed_alike p q r x = grind arith

end_alike : (p : Image) (x : Machine_dispatch) (d : Dispatch) → SameDispatch x d → end_rank p (dispatch_of (Elsewhere Root) x) ≡ end_rank p d
end_alike p x d same = placed_alike p (Elsewhere Root) same.0 x ∙ ap (end_rank p) same.1

-- what a method begins as it ends hangs on what it stands over
over_alike : (p : Image) (k : ℕ) (ms : List Machine_task) (us : List Task) → SameTasks ms us →
    over_rank_term (rank_worths p) k (map ranked ms) ≡ over_rank_term (rank_worths p) k us
over_alike p k = by_tasks (λ ms us. over_rank_term (rank_worths p) k (map ranked ms) ≡ over_rank_term (rank_worths p) k us) refl (λ m u ms us same _ e.
    by_task (λ m u. over_rank_term (rank_worths p) k (map ranked (m ∷ ms)) ≡ over_rank_term (rank_worths p) k (u ∷ us)) (record {
      runs = λ f fr same. refl;
      trapped = refl;
      destroys = λ x small. refl;
      closes = refl;
      unwinds = λ code c same. refl;
      ends = λ x d same. refl;
    }) m u same)

-- a method, what it begins as it ends, and what waits
runs_alike : (p : Image) (f : Machine_frame) (fr : Frame) (place place' : ℕ) (ms : List Machine_task) (us : List Task) → SameFrame f fr → place ≡ place' →
    SameTasks ms us → waiting_rank p (map ranked ms) ≡ waiting_rank p us →
    left_in (method_at p f.method) f.counters place * price p f.method + (over_rank_term (rank_worths p) f.method (map ranked ms) + waiting_rank p (map ranked ms))
    ≡ left_in (method_at p fr.method) fr.counters place' * price p fr.method + (over_rank_term (rank_worths p) fr.method us + waiting_rank p us)
runs_alike p f fr place place' ms us same there below waits =
    grind (arith, nat_tests, frame_alike p f fr place place' same there, over_alike p fr.method ms us below)

waits_alike : (p : Image) (ms : List Machine_task) (us : List Task) → SameTasks ms us → waiting_rank p (map ranked ms) ≡ waiting_rank p us
waits_alike p = by_tasks (λ ms us. waiting_rank p (map ranked ms) ≡ waiting_rank p us) refl (λ m u ms us same rest e.
    by_task (λ m u. waiting_rank p (map ranked (m ∷ ms)) ≡ waiting_rank p (u ∷ us)) (record {
      runs = λ f fr same. runs_alike p f fr (suc f.place) (suc fr.place) ms us same (ap suc same.place) rest e;
      trapped = ap (λ k. 1 + k) e;
      destroys = λ x small. ap (λ k. 1 + k) e;
      closes = ap (λ k. closing_rank p + k) e;
      unwinds = λ code c same. ap (λ k. 1 + k) e;
      ends = λ x d same. ap (λ k. k + waiting_rank p (map ranked ms)) (end_alike p x d same) ∙ ap (λ k. end_rank p d + k) e;
    }) m u same)

tasks_alike : (p : Image) (ms : List Machine_task) (us : List Task) → SameTasks ms us → tasks_rank p (map ranked ms) ≡ tasks_rank p us
tasks_alike p = by_tasks (λ ms us. tasks_rank p (map ranked ms) ≡ tasks_rank p us) refl (λ m u ms us same rest _.
    by_task (λ m u. tasks_rank p (map ranked (m ∷ ms)) ≡ tasks_rank p (u ∷ us)) (record {
      runs = λ f fr same. runs_alike p f fr f.place fr.place ms us same same.place rest (waits_alike p ms us rest);
      trapped = waits_alike p (Is_trap ∷ ms) (Trapped ∷ us) (tt, rest);
      destroys = λ x small. waits_alike p (Destroys x ∷ ms) (Destroy ∷ us) (small, rest);
      closes = waits_alike p (Closes ∷ ms) (Closing ∷ us) (tt, rest);
      unwinds = λ code c same. waits_alike p (Unwinds code ∷ ms) (Unwind c ∷ us) (same, rest);
      ends = λ x d same. waits_alike p (Ends x ∷ ms) (Dispatched d ∷ us) (same, rest);
    }) m u same)

destructions_alike : (ms : List Machine_task) (us : List Task) → SameTasks ms us → destructions (map ranked ms) ≡ destructions us
destructions_alike = by_tasks (λ ms us. destructions (map ranked ms) ≡ destructions us) refl (λ m u ms us same _ e.
    by_task (λ m u. destructions (map ranked (m ∷ ms)) ≡ destructions (u ∷ us)) (record {
      runs = λ f fr same. e;
      trapped = e;
      destroys = λ x small. ap suc e;
      closes = e;
      unwinds = λ code c same. e;
      ends = λ x d same. e;
    }) m u same)

-- as many operations are on the cleanup stack
operations_alike : (is : List Machine_item) (js : List Item) → SameItems is js → operations_in is ≡ operations js
operations_alike = by_items (λ is js. operations_in is ≡ operations js) refl (λ i j is js same _ e.
    by_item (λ i j. operations_in (i ∷ is) ≡ operations (j ∷ js)) (λ n. e) (λ m n k w _ _. ap suc e) e i j same)

-- what goes has a number below those of messages, or none
abbrev IsSmall : ℕ → Type 0
IsSmall n = (n ≡ null) ⊎ (n < 4096)

either_small : (b : Bool) (x y : ℕ) → IsSmall x → IsSmall y → IsSmall (cond b x y)
either_small x y z small other = grind arith

goes_small : (ms : List Machine_task) (us : List Task) → SameTasks ms us → (k : ℕ) → IsSmall (going_in ms k)
goes_small = by_tasks (λ ms us. (k : ℕ) → IsSmall (going_in ms k)) (λ k. inl refl) (λ m u ms us same _ e k.
    let below : (x : ℕ) → IsSmall x → IsSmall (cond (length ms == k) x (going_in ms k)) = λ x small. either_small (length ms == k) x (going_in ms k) small (e k) in
    by_task (λ m u. IsSmall (cond (length ms == k) (going_of m) (going_in ms k))) (record {
      runs = λ f fr same. below null (inl refl);
      trapped = below null (inl refl);
      destroys = λ x small. below x (inr small);
      closes = below null (inl refl);
      unwinds = λ code c same. below null (inl refl);
      ends = λ x d same. below null (inl refl);
    }) m u same)

-- so it is no message
goes_no_message : (p : Image) (t : Typing) (m : Parts) (s : State) → WellTyped p t s → Agrees p m s → GoesNoMessage s.cells
goes_no_message p t m s typed agrees k o there = grind (
  arith,
  nat_tests,
  held_lives s.cells (Going k) o typed.good.no_duplicates there,
  null_unnamed p m s agrees,
  object_there p m s agrees o,
  goes_small m.stack.tasks s.tasks agrees.tasks k,
)

-- the machine's rank is its state's
pub same_rank : (p : Image) (t : Typing) (m : Parts) (s : State) → WellTyped p t s → Agrees p m s → rank_in p m ≡ rank p s
same_rank p t m s typed agrees = grind (
  arith,
  nat_tests,
  destructions_alike m.stack.tasks s.tasks agrees.tasks,
  cells_stand_or_go p t s typed (goes_no_message p t m s typed agrees),
  goes_no_message p t m s typed agrees,
  operations_alike m.entries.items s.items agrees.entries,
  tasks_alike p m.stack.tasks s.tasks agrees.tasks,
)

-- ---- a move

busy_state : (ms : List Machine_task) (us : List Task) → SameTasks ms us → 0 < length ms → (u : Task) × (vs : List Task) × (us ≡ u ∷ vs)
busy_state ms us same busy = cons_given (λ vs. 0 < length vs) us (let even = same_length ms us same in omega arith) (λ none. omega arith) (λ u vs e _. (u, vs, e))

pub moved_falls : (p : Image) (t : Typing) (refused : List ℕ) (m new : Parts) (s : State) → Sound p t → WellTyped p t s → Agrees p m s →
    Moved p refused (observed_by m) t s new → 0 < length m.stack.tasks → rank_in p new < rank_in p m
moved_falls p t refused m new s sound typed agrees moved busy = grind (
  arith,
  nat_tests,
  same_rank p t m s typed agrees,
  same_rank p t new moved.state moved.typed moved.agrees,
  moves_lower_ranks p t sound.linked sound.typed moved.choice s moved.state typed (busy_state m.stack.tasks s.tasks agrees.tasks busy) moved.goes,
  busy_state m.stack.tasks s.tasks agrees.tasks busy,
)
