-- The cleanup stack, traps and leaves.
use Rattle.std.specs.Prelude.{ℕ, suc, ℤ, negsuc, pos, Bool, true, false, not, ◌&&◌, cond, int_lt, List, [], ◌∷◌, Option, Some, None, is_some, is_none, length}
use Rattle.aom_image.specs.Image.{Image}
use Rattle.aom_image.specs.Views.{instr_at}
use Rattle.aom_image.specs.declared.method.Gives.{Gives}
use Rattle.aom_image.specs.declared.method.Gives.TheVariants.{Nothing, Word as A_word, Own as An_own, Maybe as A_maybe, Left}
use Rattle.aom_semantics.specs.Places.{Place, Entry, Going, Object, Cell, held, moved}
use Rattle.aom_semantics.specs.State.{Static, Frame, Dispatch, Of_main, Main_left, Of_object, Object_left, Task, Run, Trapped, Destroy, Unwind, Dispatched, Item, An_object, An_operation, A_mark, State, Choice, Need, PopUnder, PushNoTrap, LeaveNoTrap, Unbalanced, Orphan, NullOrDead, WrongKind, Outcome, Goes, IsStuck, word, set_word, next, frame_of, Closing, Of_server, Accepts, Accept_left, Serves, Service_left}
use Rattle.aom_semantics.specs.Destruction.{begun}
use Rattle.aom_semantics.specs.Words.{here, needs_word, read}
use Rattle.aom_semantics.specs.Objects.{is_no_message}
use Rattle.aom_semantics.specs.Calls.{result_register, called, none_owns_but, below_top}
use Rattle.aom_transcript.specs.declared.line.Line.{Line}
use Rattle.aom_transcript.specs.declared.line.Line.TheVariants.{Leave}

-- ---- leaves

-- some trap is at hand, with methods alone over it
abbrev pub has_trap : List Task → Bool
has_trap [] = false
has_trap (Run fr ∷ ts) = has_trap ts
has_trap (Trapped ∷ ts) = true
has_trap (Destroy ∷ ts) = false
has_trap (Closing ∷ ts) = false
has_trap (Unwind code ∷ ts) = false
has_trap (Dispatched d ∷ ts) = false

-- no register of the methods over the trap owns
abbrev pub above_trap_is_free : List Cell → List Task → Bool
above_trap_is_free cs [] = true
above_trap_is_free cs (Run fr ∷ ts) = none_owns_but cs (length ts) None && above_trap_is_free cs ts
above_trap_is_free cs (Trapped ∷ ts) = true
above_trap_is_free cs (Destroy ∷ ts) = true
above_trap_is_free cs (Closing ∷ ts) = true
above_trap_is_free cs (Unwind code ∷ ts) = true
above_trap_is_free cs (Dispatched d ∷ ts) = true

-- the methods over the trap end
abbrev pub to_trap : List Task → List Task
to_trap [] = []
to_trap (Run fr ∷ ts) = to_trap ts
to_trap (Trapped ∷ ts) = Trapped ∷ ts
to_trap (Destroy ∷ ts) = Destroy ∷ ts
to_trap (Closing ∷ ts) = Closing ∷ ts
to_trap (Unwind code ∷ ts) = Unwind code ∷ ts
to_trap (Dispatched d ∷ ts) = Dispatched d ∷ ts

abbrev pub leave_needs : List Cell → List Task → List Need
leave_needs cs ts = (has_trap ts, LeaveNoTrap) ∷ (above_trap_is_free cs ts, Orphan) ∷ []

-- the code of a refused request
abbrev pub no_memory : ℤ
no_memory = negsuc 3

-- ---- items

abbrev pub is_object_item : Item → Bool
is_object_item An_object = true
is_object_item (An_operation m w) = false
is_object_item A_mark = false

abbrev pub is_operation_item : Item → Bool
is_operation_item An_object = false
is_operation_item (An_operation m w) = true
is_operation_item A_mark = false

abbrev pub is_mark : Item → Bool
is_mark An_object = false
is_mark (An_operation m w) = false
is_mark A_mark = true

-- an item is there, and it is no mark
abbrev pub top_matches_entry : List Item → Bool
top_matches_entry [] = false
top_matches_entry (i ∷ items) = not (is_mark i)

abbrev pub top_matches_object : List Item → Bool
top_matches_object [] = false
top_matches_object (i ∷ items) = is_object_item i

abbrev pub top_matches_operation : List Item → Bool
top_matches_operation [] = false
top_matches_operation (i ∷ items) = is_operation_item i

-- the place of the last item
abbrev pub top_place : List Item → Place
top_place items = Entry (length (below_top items))

-- an object's item owns an object
abbrev pub top_is_whole : List Cell → List Item → Bool
top_is_whole cs [] = true
top_is_whole cs (An_object ∷ items) = is_some (held cs (Entry (length items)))
top_is_whole cs (An_operation m w ∷ items) = true
top_is_whole cs (A_mark ∷ items) = true

-- ---- what leaves the cleanup stack is dealt with

-- the method of an operation, on its word
abbrev pub operation_frame : ℕ → ℤ → ℕ → Frame
operation_frame m w height = record (frame_of m Static height) { words = Some w ∷ [] }

-- the object of the last item is destroyed over these tasks, with these items below
abbrev pub destroyed : Image → Option Object → List Item → List Task → State → State
destroyed p None items ts s = record s { items = items; tasks = ts }
destroyed p (Some o) items ts s =
    record s {
      cells = moved (Entry (length items)) (Going (length ts)) s.cells;
      tasks = begun p o (length items) ts;
      items = items;
    }

-- the last item is dealt with over these tasks: an object is destroyed, and an operation is run
abbrev pub dealt_with : Image → List Item → List Task → State → State
dealt_with p [] ts s = record s { tasks = ts }
dealt_with p (An_object ∷ items) ts s = destroyed p (held s.cells (Entry (length items))) items ts s
dealt_with p (An_operation m w ∷ items) ts s = record s { tasks = Run (operation_frame m w (length items)) ∷ ts; items = items }
dealt_with p (A_mark ∷ items) ts s = record s { tasks = ts }

-- ---- the code arrives

-- the dispatch of main, of an object or of a server is left with the code
abbrev pub ended_by : ℤ → Dispatch → Dispatch
ended_by code Of_main = Main_left code
ended_by code (Of_object x) = Object_left x code
ended_by code (Of_server x c Accepts) = Of_server x c (Accept_left code)
ended_by code (Of_server x c (Serves o)) = Of_server x c (Service_left code)
ended_by code d = d

-- the code is in the register after the result's, where there is no object, or the word 0
abbrev pub code_reported : Gives → ℕ → ℤ → Frame → Frame
code_reported Nothing c code fr = set_word fr (suc c) (Some code)
code_reported A_word c code fr = set_word (set_word fr c (Some (pos 0))) (suc c) (Some code)
code_reported (An_own t) c code fr = set_word (set_word fr c None) (suc c) (Some code)
code_reported (A_maybe t) c code fr = set_word (set_word fr c None) (suc c) (Some code)
code_reported (Left x) c code fr = set_word fr (suc c) (Some code)

-- to the method that set the trap, or to the dispatch
abbrev pub arrived : Image → ℤ → List Task → List Item → State → Outcome
arrived p code (Trapped ∷ Run fr ∷ ts) items s =
    let i = instr_at p fr.method fr.place in
    Goes (record s { tasks = Run (next (code_reported (called p i) (result_register i) code fr)) ∷ ts; items = items })
arrived p code (Trapped ∷ Dispatched d ∷ ts) items s = Goes (record s { tasks = Dispatched (ended_by code d) ∷ ts; items = items })
arrived p code _ items s = IsStuck Unbalanced

-- one move of an unwinding, over the tasks below it
abbrev pub unwound : Image → ℤ → List Task → State → List Item → Outcome
unwound p code ts s [] = IsStuck Unbalanced
unwound p code ts s (An_object ∷ items) = cond (top_is_whole s.cells (An_object ∷ items)) (Goes (dealt_with p (An_object ∷ items) (Unwind code ∷ ts) s)) (IsStuck NullOrDead)
unwound p code ts s (An_operation m w ∷ items) = Goes (dealt_with p (An_operation m w ∷ items) (Unwind code ∷ ts) s)
unwound p code ts s (A_mark ∷ items) = arrived p code ts items s

-- a leave that has nothing more to unwind: its code arrives
abbrev pub arrival : ℤ → List Item → List Line
arrival code [] = []
arrival code (An_object ∷ items) = []
arrival code (An_operation m w ∷ items) = []
arrival code (A_mark ∷ items) = Leave code ∷ []

-- ---- instructions

-- once the object of a register is on the cleanup stack
abbrev pub pushed_cells : Frame → List Task → State → ℕ → List Cell
pushed_cells fr ts s a = moved (here fr ts s a) (Entry (length s.items)) s.cells

module _ (p : Image) (c : Choice) (fr : Frame) (ts : List Task) (s : State) where
  -- what a refused request asks: that it may leave
  abbrev pub if_refused : List Cell → List Need
  if_refused cells = cond c.refused (leave_needs cells (Run fr ∷ ts)) []

  abbrev pub needs_new_or_leave : ℕ → List Need
  needs_new_or_leave a = (is_none (held s.cells (here fr ts s a)), Orphan) ∷ if_refused s.cells

  abbrev pub needs_push : ℕ → List Need
  needs_push a =
      (is_none (word fr a), WrongKind)
      ∷ (is_some (held s.cells (here fr ts s a)), NullOrDead)
      ∷ (is_no_message (held s.cells (here fr ts s a)), WrongKind)
      ∷ (has_trap ts, PushNoTrap)
      ∷ if_refused (pushed_cells fr ts s a)

  abbrev pub needs_push_operation : ℕ → List Need
  needs_push_operation a = needs_word fr ts s a ∷ (has_trap ts, PushNoTrap) ∷ if_refused s.cells

  abbrev pub needs_pop : ℕ → List Need
  needs_pop a =
      (is_none (held s.cells (here fr ts s a)), Orphan)
      ∷ (top_matches_entry s.items, PopUnder)
      ∷ (top_matches_object s.items, WrongKind)
      ∷ []

  abbrev pub needs_pop_operation : List Need
  needs_pop_operation = (top_matches_entry s.items, PopUnder) ∷ (top_matches_operation s.items, WrongKind) ∷ []

  abbrev pub needs_pop_delete : List Need
  needs_pop_delete = (top_matches_entry s.items, PopUnder) ∷ (top_is_whole s.cells s.items, NullOrDead) ∷ []

  abbrev pub needs_leave : ℕ → List Need
  needs_leave a = needs_word fr ts s a ∷ leave_needs s.cells (Run fr ∷ ts)

  abbrev pub is_negative : ℤ → Bool
  is_negative w = int_lt w (pos 0)

  abbrev pub needs_leave_if : ℕ → List Need
  needs_leave_if a = needs_word fr ts s a ∷ cond (is_negative (read fr ts s a)) (leave_needs s.cells (Run fr ∷ ts)) []
