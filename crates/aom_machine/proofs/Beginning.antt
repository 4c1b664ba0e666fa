-- A method begins under the trap of a dispatch, where nothing is at hand: of what its frame shows, which is nothing but for the words of a message.
use Rattle.std.proofs.lemmas.Bool.Decides.{nat_tests}
use Rattle.std.proofs.Common.{List, None, Option, [], ap, arith, cond, length, refl, slice_index_or, subst, suc, sym, zero, ℕ, ℤ, ◌<◌, ◌≤◌, ◌∙◌, ◌∷◌, ◌≡◌}
use Rattle.std.specs.Prelude.{nat_lt}
use Rattle.std.specs.Int.{w32, cast_signed, cast_unsigned}
use Rattle.std.proofs.lemmas.Bool.{cases_lt, eqb-true, le-ltb, lt-ltb}
use Rattle.std.proofs.lemmas.List.{length-set}
use Rattle.aom_cells.specs.Heap.{null}
use Rattle.aom_frames.specs.declared.item.Item.TheVariants.{Mark as Is_mark}
use Rattle.aom_frames.specs.declared.dispatch.Dispatch.{Dispatch as Machine_dispatch}
use Rattle.aom_frames.specs.declared.frame.Frame.{Frame as Machine_frame}
use Rattle.aom_frames.specs.declared.task.Task.{Task as Machine_task}
use Rattle.aom_frames.specs.declared.task.Task.TheVariants.{Dispatched as Ends, Run as Runs_frame, Trapped as Is_trap}
use Rattle.aom_image.specs.Image.{Image}
use Rattle.aom_cells.specs.Store.{Store, word_at as message_word}
use Rattle.aom_roles.specs.Tables.{at}
use Rattle.aom_semantics.specs.Places.{Cell, Elsewhere, Entry, Field, Place, Register, held, word_field}
use Rattle.aom_semantics.specs.State.{A_mark, Dispatch, Dispatched, Frame, Run, State, Task, Trapped, word}
use Rattle.aom_semantics.specs.World.{message_words}
use Rattle.aom_machine_state.specs.declared.parts.Parts.{Parts}
use Rattle.aom_machine_state.specs.Agrees.{Agrees, SameDispatch, SameFrame, Represents, word_at}
use Rattle.aom_machine_state.specs.Places.{others, value_in}
use Rattle.aom_machine.proofs.MachineStateLemmas.{at_set, mark_shows_none}
use Rattle.aom_machine.proofs.MachineInstructionsLemmas.{Aside}
use Rattle.aom_machine.specs.Servers.{loaded_first, loaded_message_words}
use Rattle.aom_machine.specs.Turns.{begins_under}

-- what a place shows where nothing is at hand
abbrev pub ShowsIdle : Parts → List Cell → Type 0
ShowsIdle m cs = (q : Place) → Represents (value_in [] m.cells m.entries.items (others m) q) (word_at [] q) (held cs q)

-- a method begins over nothing; no register owns anything, and its own show its words
module _ (p : Image) (m : Parts) (v : State) (d : Machine_dispatch) (d' : Dispatch) (f : Machine_frame)
    (fr : Frame) (none : m.stack.tasks ≡ []) (aside : Aside p m v) (frame : SameFrame f fr) (dispatch : SameDispatch d d') (shows : ShowsIdle m v.cells)
    (unowned : (k i : ℕ) → held v.cells (Register k i) ≡ None) (words : (i : ℕ) → Represents (slice_index_or f.registers i null) (word fr i) None) where
  abbrev us : List Machine_task
  us = Runs_frame f ∷ Is_trap ∷ Ends d ∷ []

  abbrev ts : List Task
  ts = Run fr ∷ Trapped ∷ Dispatched d' ∷ []

  values : (q : Place) → Represents (value_in us m.cells (Is_mark ∷ m.entries.items) (others m) q) (word_at ts q) (held v.cells q)
  values (Entry k) = subst (λ n. Represents n None (held v.cells (Entry k))) (sym (mark_shows_none m.entries.items k)) (shows (Entry k))
  values (Field n g) = shows (Field n g)
  values (Elsewhere o) = shows (Elsewhere o)
  values _ = grind (arith, nat_tests)

  pub begins_agrees : Agrees p (begins_under d f m) (record v { tasks = ts; items = A_mark ∷ v.items })
  begins_agrees = subst (λ us. Agrees p
      (record m { stack = record m.stack { tasks = Runs_frame f ∷ Is_trap ∷ Ends d ∷ us }; entries = record m.entries { items = Is_mark ∷ m.entries.items } })
      (record v { tasks = ts; items = A_mark ∷ v.items })) (sym none)
      (record {
        tasks = (frame, (tt, (dispatch, tt)));
        values = values;
        cells = aside.cells;
        entries = (tt, aside.entries);
        requests = aside.requests;
        natives = aside.natives;
        services = aside.services;
        rest = aside.rest;
        room = aside.room;
        entry_room = aside.entry_room;
      })

-- ---- the words of a message

module _ (s : Store) (place : ℕ) where
  abbrev number_of : ℕ → ℕ
  number_of w = cast_unsigned w32 (message_word s place w)

  reported_wide : (many : ℕ) (f : Machine_frame) → length (loaded_first s place many f).registers ≡ length f.registers
  reported_wide zero f = refl
  reported_wide (suc n) f = length-set (loaded_first s place n f).registers n (number_of n) ∙ reported_wide n f

  -- so many registers have them, and the others are as they were
  reported_register : (many : ℕ) (f : Machine_frame) → many ≤ length f.registers →
      (i : ℕ) → slice_index_or (loaded_first s place many f).registers i null ≡ cond (nat_lt i many) (number_of i) (slice_index_or f.registers i null)
  reported_register zero f room i = sym (ap (λ b. cond b (number_of i) (slice_index_or f.registers i null)) (le-ltb i 0 (omega arith)))
  reported_register (suc n) f room i =
      grind (arith, nat_tests, at_set, reported_wide n f, reported_register n f, cases_lt i n, eqb-true n i, lt-ltb i (suc n), lt-ltb i n, le-ltb i n, le-ltb i (suc n))

  pub reported_frame : (many : ℕ) (f : Machine_frame) (fr : Frame) (ws : List (Option ℤ)) → SameFrame f fr →
      SameFrame (loaded_first s place many f) (record fr { words = ws })
  reported_frame zero f fr ws same =
      record { method = same.method; place = same.place; this = same.this; view = same.view; receiver_held = same.receiver_held; wide = same.wide; counters = same.counters; loops = same.loops }
  reported_frame (suc n) f fr ws same =
      let g = reported_frame n f fr ws same in
      record {
        method = g.method;
        place = g.place;
        this = g.this;
        view = g.view;
        receiver_held = g.receiver_held;
        wide = length-set (loaded_first s place n f).registers n (number_of n) ∙ g.wide;
        counters = g.counters;
        loops = g.loops;
      }

  -- each word is read again as it was
  module _ (cs : List Cell) (name : ℕ) (f : Machine_frame) (wide : length f.registers ≡ 16)
      (bare : (i : ℕ) → slice_index_or f.registers i null ≡ null) (reads : (w : ℕ) → w < 5 → cast_signed w32 (number_of w) ≡ word_field cs name w) where
    here : (i : ℕ) → i < 5 → slice_index_or (loaded_message_words s place f).registers i null ≡ number_of i
    here i small = grind (arith, nat_tests, reported_register 5 f, lt-ltb i 5 small)

    shown : (i : ℕ) → i < 5 → cast_signed w32 (slice_index_or (loaded_message_words s place f).registers i null) ≡ word_field cs name i
    shown i small = ap (cast_signed w32) (here i small) ∙ reads i small

    pub words_shown : (i : ℕ) → Represents (slice_index_or (loaded_message_words s place f).registers i null) (at None (message_words cs name) i) None
    words_shown zero = shown 0 (omega arith)
    words_shown (suc zero) = shown 1 (omega arith)
    words_shown (suc (suc zero)) = shown 2 (omega arith)
    words_shown (suc (suc (suc zero))) = shown 3 (omega arith)
    words_shown (suc (suc (suc (suc zero)))) = shown 4 (omega arith)
    words_shown (suc (suc (suc (suc (suc i))))) = grind (arith, nat_tests, reported_register 5 f, le-ltb (suc (suc (suc (suc (suc i))))) 5)
