-- What holds of lists that stand for each other, shown member by member.
use Rattle.std.proofs.lemmas.Bool.Decides.{nat_tests}
use Rattle.std.proofs.Common.{List, [], ◌∷◌, ◌≡◌, ◌<◌, ℕ, ℤ, length, ap, arith}
use Rattle.std.specs.Int.{w32, cast_signed}
use Rattle.aom_machine_state.proofs.ImageLemmas.{cons_given}
use Rattle.aom_frames.specs.Items.{IsAboveMark}
use Rattle.aom_frames.specs.Tasks.{TopFrameIs, below_first}
use Rattle.aom_machine_state.specs.Places.{IsClosing, IsDestroying, IsEnding, IsTrapped, IsUnwinding}
use Rattle.aom_semantics.specs.State.{Frame, Task, Run, Trapped, Destroy, Closing, Unwind, Dispatch, Dispatched, Item, An_object, An_operation, A_mark}
use Rattle.aom_frames.specs.declared.frame.Frame.{Frame as Machine_frame}
use Rattle.aom_frames.specs.declared.dispatch.Dispatch.{Dispatch as Machine_dispatch}
use Rattle.aom_frames.specs.declared.task.Task.{Task as Machine_task}
use Rattle.aom_frames.specs.declared.task.Task.TheVariants.{Run as Runs_frame, Trapped as Is_trap, Destroy as Destroys}
use Rattle.aom_frames.specs.declared.task.Task.TheVariants.{Closing as Closes, Unwind as Unwinds, Dispatched as Ends}
use Rattle.aom_frames.specs.declared.item.Item.{Item as Machine_item}
use Rattle.aom_frames.specs.declared.item.Item.TheVariants.{Object as Holds_object, Operation as Holds_operation, Mark as Is_mark}
use Rattle.aom_machine_state.specs.Agrees.{SameFrame, SameTask, SameTasks, SameDispatch, SameItem, SameItems}

-- a task of the machine and the one that it stands for
pub record EachTask (P : Machine_task → Task → Type 0) : Type 0 where
  pub runs : (f : Machine_frame) (fr : Frame) → SameFrame f fr → P (Runs_frame f) (Run fr)
  pub trapped : P Is_trap Trapped
  pub destroys : (x : ℕ) → x < 4096 → P (Destroys x) Destroy
  pub closes : P Closes Closing
  pub unwinds : (code c : ℤ) → code ≡ c → P (Unwinds code) (Unwind c)
  pub ends : (x : Machine_dispatch) (d : Dispatch) → SameDispatch x d → P (Ends x) (Dispatched d)

pub by_task : (P : Machine_task → Task → Type 0) → EachTask P → (m : Machine_task) (u : Task) → SameTask m u → P m u
by_task x each y z same = grind arith

pub by_tasks : (P : List Machine_task → List Task → Type 0) → P [] [] → ((m : Machine_task) (u : Task) (ms : List Machine_task) (us : List Task) →
    SameTask m u → SameTasks ms us → P ms us → P (m ∷ ms) (u ∷ us)) → (ms : List Machine_task) (us : List Task) → SameTasks ms us → P ms us
by_tasks P none more [] [] same = none
by_tasks P none more (m ∷ ms) (u ∷ us) same = more m u ms us same.0 same.1 (by_tasks P none more ms us same.1)
by_tasks P none more _ _ same = absurd same

-- an item of the cleanup stack and the one that it stands for
pub by_item : (P : Machine_item → Item → Type 0) → ((n : ℕ) → P (Holds_object n) An_object) → ((m n k : ℕ) (w : ℤ) →
    m ≡ k → cast_signed w32 n ≡ w → P (Holds_operation m n) (An_operation k w)) → P Is_mark A_mark → (i : Machine_item) (j : Item) → SameItem i j → P i j
by_item x object operation mark y z same = grind arith

pub by_items : (P : List Machine_item → List Item → Type 0) → P [] [] → ((i : Machine_item) (j : Item) (is : List Machine_item) (js : List Item) →
    SameItem i j → SameItems is js → P is js → P (i ∷ is) (j ∷ js)) → (is : List Machine_item) (js : List Item) → SameItems is js → P is js
by_items P none more [] [] same = none
by_items P none more (i ∷ is) (j ∷ js) same = more i j is js same.0 same.1 (by_items P none more is js same.1)
by_items P none more _ _ same = absurd same

-- ---- what is on top of both sides

pub data Alike : List Machine_task → List Task → Type 0 where
  no_tasks : Alike [] []
  both_run : (f : Machine_frame) (fr : Frame) (ms : List Machine_task) (ts : List Task) → SameFrame f fr → SameTasks ms ts → Alike ms ts →
      Alike (Runs_frame f ∷ ms) (Run fr ∷ ts)
  both_trapped : (ms : List Machine_task) (ts : List Task) → SameTasks ms ts → Alike ms ts → Alike (Is_trap ∷ ms) (Trapped ∷ ts)
  both_go : (x : ℕ) (ms : List Machine_task) (ts : List Task) → x < 4096 → SameTasks ms ts → Alike ms ts → Alike (Destroys x ∷ ms) (Destroy ∷ ts)
  both_close : (ms : List Machine_task) (ts : List Task) → SameTasks ms ts → Alike ms ts → Alike (Closes ∷ ms) (Closing ∷ ts)
  both_unwind : (code c : ℤ) (ms : List Machine_task) (ts : List Task) → code ≡ c → SameTasks ms ts → Alike ms ts → Alike (Unwinds code ∷ ms) (Unwind c ∷ ts)
  both_end : (x : Machine_dispatch) (d : Dispatch) (ms : List Machine_task) (ts : List Task) → SameDispatch x d → SameTasks ms ts → Alike ms ts →
      Alike (Ends x ∷ ms) (Dispatched d ∷ ts)

pub alike : (ms : List Machine_task) (us : List Task) → SameTasks ms us → Alike ms us
alike = by_tasks Alike no_tasks (λ m u ms us same below more. by_task (λ m u. Alike (m ∷ ms) (u ∷ us)) (record {
  runs = λ f fr e. both_run f fr ms us e below more;
  trapped = both_trapped ms us below more;
  destroys = λ x small. both_go x ms us small below more;
  closes = both_close ms us below more;
  unwinds = λ code c e. both_unwind code c ms us e below more;
  ends = λ x d e. both_end x d ms us e below more;
}) m u same)

-- the tasks below it
pub same_below : (ms : List Machine_task) (u : Task) (ts : List Task) → SameTasks ms (u ∷ ts) → SameTasks (below_first ms) ts
same_below ms u ts same = grind (arith, nat_tests, cons_given)

pub data Alike_items : List Machine_item → List Item → Type 0 where
  no_items : Alike_items [] []
  both_objects : (n : ℕ) (is : List Machine_item) (js : List Item) → SameItems is js → Alike_items (Holds_object n ∷ is) (An_object ∷ js)
  both_operations : (m n k : ℕ) (w : ℤ) (is : List Machine_item) (js : List Item) → m ≡ k → cast_signed w32 n ≡ w → SameItems is js →
      Alike_items (Holds_operation m n ∷ is) (An_operation k w ∷ js)
  both_marks : (is : List Machine_item) (js : List Item) → SameItems is js → Alike_items (Is_mark ∷ is) (A_mark ∷ js)

pub items_alike : (is : List Machine_item) (js : List Item) → SameItems is js → Alike_items is js
items_alike = grind (arith, nat_tests, by_items Alike_items no_items, no_items, by_item, both_objects, both_operations, both_marks)

-- where the last item is an entry
pub data Entries_alike : List Machine_item → List Item → Type 0 where
  entries_own : (n : ℕ) (is : List Machine_item) (js : List Item) → SameItems is js → Entries_alike (Holds_object n ∷ is) (An_object ∷ js)
  entries_run : (m n k : ℕ) (w : ℤ) (is : List Machine_item) (js : List Item) → m ≡ k → cast_signed w32 n ≡ w → SameItems is js →
      Entries_alike (Holds_operation m n ∷ is) (An_operation k w ∷ js)

pub entries_alike : (is : List Machine_item) (js : List Item) → SameItems is js → IsAboveMark is → Entries_alike is js
entries_alike x y same above = grind (arith, nat_tests, entries_own, entries_run)

-- ---- what is known to be on top of the machine's tasks

pub data Kind : Type 0 where
  A_method : Kind
  A_trap : Kind
  A_going : Kind
  A_closing : Kind
  A_leave : Kind
  An_end : Kind
  -- a trap over the method that set it, or over the end of a dispatch
  A_catcher : Kind
  A_last_trap : Kind
  -- and a leave over that
  A_caught_leave : Kind
  A_last_leave : Kind

abbrev pub IsOn : Kind → List Machine_task → Type 0
IsOn A_method ms = TopFrameIs ms
IsOn A_trap ms = IsTrapped ms
IsOn A_going ms = IsDestroying ms
IsOn A_closing ms = IsClosing ms
IsOn A_leave ms = IsUnwinding ms
IsOn An_end ms = IsEnding ms
IsOn A_catcher ms = IsTrapped ms × TopFrameIs (below_first ms)
IsOn A_last_trap ms = IsTrapped ms × IsEnding (below_first ms)
IsOn A_caught_leave ms = IsUnwinding ms × IsTrapped (below_first ms) × TopFrameIs (below_first (below_first ms))
IsOn A_last_leave ms = IsUnwinding ms × IsTrapped (below_first ms) × IsEnding (below_first (below_first ms))

pub data TopMatches : Kind → List Machine_task → Type 0 where
  method_on_top : (f : Machine_frame) (ms : List Machine_task) → TopMatches A_method (Runs_frame f ∷ ms)
  trap_on_top : (ms : List Machine_task) → TopMatches A_trap (Is_trap ∷ ms)
  going_on_top : (x : ℕ) (ms : List Machine_task) → TopMatches A_going (Destroys x ∷ ms)
  closing_on_top : (ms : List Machine_task) → TopMatches A_closing (Closes ∷ ms)
  leave_on_top : (code : ℤ) (ms : List Machine_task) → TopMatches A_leave (Unwinds code ∷ ms)
  end_on_top : (x : Machine_dispatch) (ms : List Machine_task) → TopMatches An_end (Ends x ∷ ms)
  catcher_on_top : (f : Machine_frame) (ms : List Machine_task) → TopMatches A_catcher (Is_trap ∷ Runs_frame f ∷ ms)
  last_trap_on_top : (x : Machine_dispatch) (ms : List Machine_task) → TopMatches A_last_trap (Is_trap ∷ Ends x ∷ ms)
  caught_leave_on_top : (code : ℤ) (f : Machine_frame) (ms : List Machine_task) → TopMatches A_caught_leave (Unwinds code ∷ Is_trap ∷ Runs_frame f ∷ ms)
  last_leave_on_top : (code : ℤ) (x : Machine_dispatch) (ms : List Machine_task) → TopMatches A_last_leave (Unwinds code ∷ Is_trap ∷ Ends x ∷ ms)

pub top_matches : (k : Kind) (ms : List Machine_task) → IsOn k ms → TopMatches k ms
top_matches A_method (Runs_frame f ∷ ms) on = method_on_top f ms
top_matches A_trap (Is_trap ∷ ms) on = trap_on_top ms
top_matches A_going (Destroys x ∷ ms) on = going_on_top x ms
top_matches A_closing (Closes ∷ ms) on = closing_on_top ms
top_matches A_leave (Unwinds code ∷ ms) on = leave_on_top code ms
top_matches An_end (Ends x ∷ ms) on = end_on_top x ms
top_matches A_catcher (Is_trap ∷ Runs_frame f ∷ ms) on = catcher_on_top f ms
top_matches A_last_trap (Is_trap ∷ Ends x ∷ ms) on = last_trap_on_top x ms
top_matches A_caught_leave (Unwinds code ∷ Is_trap ∷ Runs_frame f ∷ ms) on = caught_leave_on_top code f ms
top_matches A_last_leave (Unwinds code ∷ Is_trap ∷ Ends x ∷ ms) on = last_leave_on_top code x ms
top_matches _ _ on = absurd (assumption tt)

-- what is not so of the empty list is so of a list with members
pub some_members : {A : Type 0} (P : List A → Type 0) (xs : List A) → P xs → (P [] → ⊥) → 0 < length xs
some_members P xs h none = cons_given P xs h none (λ x rest e _. let more = ap length e in omega arith)
