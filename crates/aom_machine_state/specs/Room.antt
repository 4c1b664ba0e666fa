-- The room that a run needs: methods at hand are less and less deep, and so is what the cleanup stack would run.
use Rattle.std.specs.Prelude.{ℕ, suc, Bool, true, not, ◌||◌, ◌+◌, ◌<◌, ◌≤◌, ◌≡◌, ◌^◌, cond, nat_lt, List, [], ◌∷◌, length, Option, Some, None, IfSome, IsSome}
use Rattle.aom_image.specs.Image.{Image}
use Rattle.aom_image.specs.Views.{instr_at, is_quiet, leaves, method_at}
use Rattle.aom_instructions.specs.declared.instr.Instr.{Instr}
use Rattle.aom_frames.specs.declared.task.Task.{Task as Machine_task}
use Rattle.aom_frames.specs.declared.task.Task.TheVariants.{Run as Runs_frame, Trapped as Is_trap, Destroy as Destroys, Unwind as Unwinds, Dispatched as Ends}
use Rattle.aom_semantics.specs.Calls.{callee_in, result_register}
use Rattle.aom_static_bounds.specs.Calls.{Among, destructors, thing_class}
use Rattle.aom_semantics.specs.Places.{Entry, Going, Object, Cell, held}
use Rattle.aom_semantics.specs.State.{Task, Run, Trapped, Closing, Destroy, Unwind, Dispatched, Item, An_object, An_operation, A_mark, State}

-- ---- methods, by a table of depths

-- the nearest method below, if there is one, is deeper
abbrev pub IsUnder : (ℕ → ℕ) → ℕ → List Task → Type 0
IsUnder depth n [] = Unit {0}
IsUnder depth n (Run fr ∷ ts) = n < depth fr.method
IsUnder depth n (Trapped ∷ ts) = IsUnder depth n ts
IsUnder depth n (Destroy ∷ ts) = IsUnder depth n ts
IsUnder depth n (Closing ∷ ts) = IsUnder depth n ts
IsUnder depth n (Unwind code ∷ ts) = IsUnder depth n ts
IsUnder depth n (Dispatched d ∷ ts) = IsUnder depth n ts

-- so is it for each method at hand
abbrev pub AllUnder : (ℕ → ℕ) → List Task → Type 0
AllUnder depth [] = Unit {0}
AllUnder depth (Run fr ∷ ts) = IsUnder depth (depth fr.method) ts × AllUnder depth ts
AllUnder depth (Trapped ∷ ts) = AllUnder depth ts
AllUnder depth (Destroy ∷ ts) = AllUnder depth ts
AllUnder depth (Closing ∷ ts) = AllUnder depth ts
AllUnder depth (Unwind code ∷ ts) = AllUnder depth ts
AllUnder depth (Dispatched d ∷ ts) = AllUnder depth ts

-- ---- what the cleanup stack runs

abbrev pub class_in : Option Object → Option ℕ
class_in None = None
class_in (Some o) = thing_class o.thing

-- as that goes, the method runs: its destructor, or, where it is a server, that of its sessions
abbrev pub Destructs : Image → Option Object → ℕ → Type 0
Destructs p o m = Among m (destructors p (class_in o))

-- as the item over so many others is dealt with, the method runs
abbrev pub RunsBy : Image → List Cell → Item → ℕ → ℕ → Type 0
RunsBy p cs An_object k m = Destructs p (held cs (Entry k)) m
RunsBy p cs (An_operation n w) k m = m ≡ n
RunsBy p cs A_mark k m = ⊥

-- what the items from that height on run is less deep than n
abbrev pub RunsUnder : Image → (ℕ → ℕ) → List Cell → (height n : ℕ) → List Item → Type 0
RunsUnder p depth cs height n [] = Unit {0}
RunsUnder p depth cs height n (i ∷ items) = (height ≤ length items → (m : ℕ) → RunsBy p cs i (length items) m → depth m < n) × RunsUnder p depth cs height n items

-- no server's sessions are going right there
abbrev pub NoClosing : List Task → Type 0
NoClosing (Closing ∷ ts) = ⊥
NoClosing _ = Unit {0}

-- what runs as the cell goes that is at hand over those tasks, its whole line and that of its sessions, is less deep than the nearest method below
abbrev pub GoesUnder : Image → (ℕ → ℕ) → List Cell → List Task → Type 0
GoesUnder p depth cs below = (m : ℕ) → Destructs p (held cs (Going (length below))) m → IsUnder depth (depth m) below

-- a server whose sessions go first is no session that goes with another
abbrev pub ClosesAlone : List Task → Type 0
ClosesAlone (Destroy ∷ ts) = NoClosing ts
ClosesAlone _ = Unit {0}

-- so is it for the items that were pushed since each method at hand began, and for each cell that is at hand to go
abbrev pub AllRunUnder : Image → (ℕ → ℕ) → List Cell → List Item → List Task → Type 0
AllRunUnder p depth cs items [] = Unit {0}
AllRunUnder p depth cs items (Run fr ∷ ts) = RunsUnder p depth cs fr.height (depth fr.method) items × AllRunUnder p depth cs items ts
AllRunUnder p depth cs items (Trapped ∷ ts) = AllRunUnder p depth cs items ts
AllRunUnder p depth cs items (Destroy ∷ ts) = GoesUnder p depth cs ts × AllRunUnder p depth cs items ts
AllRunUnder p depth cs items (Closing ∷ ts) = ClosesAlone ts × AllRunUnder p depth cs items ts
AllRunUnder p depth cs items (Unwind code ∷ ts) = AllRunUnder p depth cs items ts
AllRunUnder p depth cs items (Dispatched d ∷ ts) = AllRunUnder p depth cs items ts

-- ---- cleanup entries, by a table of heights

-- items but for marks
abbrev pub entries_in : List Item → ℕ
entries_in [] = 0
entries_in (An_object ∷ items) = 1 + entries_in items
entries_in (An_operation m w ∷ items) = 1 + entries_in items
entries_in (A_mark ∷ items) = entries_in items

-- the items below that height
abbrev pub below_height : ℕ → List Item → List Item
below_height height [] = []
below_height height (i ∷ items) = cond (nat_lt (length items) height) (i ∷ items) (below_height height items)

-- a method that is quiet and does not leave pushes nothing
abbrev pub may_push : Image → ℕ → Bool
may_push p m = not (is_quiet p m) || leaves p m

-- each method at hand that may push finds room for all the entries that it may come to
abbrev pub AllFit : Image → (ℕ → ℕ) → List Item → List Task → Type 0
AllFit p heights items [] = Unit {0}
AllFit p heights items (Run fr ∷ ts) = (may_push p fr.method ≡ true → entries_in (below_height fr.height items) + heights fr.method ≤ 1024) × AllFit p heights items ts
AllFit p heights items (Trapped ∷ ts) = AllFit p heights items ts
AllFit p heights items (Destroy ∷ ts) = AllFit p heights items ts
AllFit p heights items (Closing ∷ ts) = AllFit p heights items ts
AllFit p heights items (Unwind code ∷ ts) = AllFit p heights items ts
AllFit p heights items (Dispatched d ∷ ts) = AllFit p heights items ts

pub record HasRoom (p : Image) (depth heights : ℕ → ℕ) (s : State) : Type 0 where
  pub under : AllUnder depth s.tasks
  pub runs : AllRunUnder p depth s.cells s.items s.tasks
  pub fit : AllFit p heights s.items s.tasks
  pub entries : entries_in s.items ≤ 1024

-- what a method returns to: a method that may go on, its trap or that of the dispatch, the going of a cell, an unwinding, or the dispatch that has asked it
abbrev pub ReturnsTo : Image → List Machine_task → Type 0
ReturnsTo p (Runs_frame f ∷ ts) = IsSome (instr_at p f.method f.place) × ((f.place + 1) < 2 ^ 64)
ReturnsTo p (Is_trap ∷ Runs_frame f ∷ ts) = IsSome (instr_at p f.method f.place) × ((f.place + 1) < 2 ^ 64) × (suc (result_register (instr_at p f.method f.place)) < 16)
ReturnsTo p (Is_trap ∷ Ends d ∷ ts) = Unit {0}
ReturnsTo p (Destroys x ∷ ts) = Unit {0}
ReturnsTo p (Unwinds code ∷ ts) = Unit {0}
ReturnsTo p (Ends d ∷ ts) = Unit {0}
ReturnsTo p _ = ⊥

-- the method that an instruction calls is there
abbrev pub CalleeThere : Image → Option Instr → Type 0
CalleeThere p o = IfSome (callee_in o) (λ m. IsSome (method_at p m))

-- so it is for the method at hand under a trap
abbrev pub CallsThere : Image → List Machine_task → Type 0
CallsThere p (Runs_frame f ∷ ts) = CalleeThere p (instr_at p f.method f.place)
CallsThere p _ = Unit {0}
