-- A leave: the methods over the trap end, and nothing of theirs is owned.
use Rattle.std.proofs.lemmas.Bool.Decides.{nat_tests}
use Rattle.std.proofs.Common.{pos, ◌≡◌, ◌<◌, ◌≤◌, ℕ, ℤ, true, false, cond, length, List, [], ◌∷◌, None, refl, sym, ap, ◌∙◌, subst, arith}
use Rattle.std.proofs.lemmas.Bool.{eq-eqb, and_parts}
use Rattle.std.specs.Int.{w32, cast_signed}
use Rattle.std.specs.Prelude.{int_lt, is_some}
use Rattle.aom_image.specs.Image.{Image}
use Rattle.aom_instructions.specs.declared.instr.Instr.TheVariants.{Leave, LeaveIf}
use Rattle.aom_roles.specs.Tests.{AllTrue}
use Rattle.aom_cells.specs.Heap.{Heap}
use Rattle.aom_frames.specs.declared.item.Item.{Item}
use Rattle.aom_semantics.specs.Calls.{none_owns_but}
use Rattle.aom_semantics.specs.Cleanup.{above_trap_is_free, leave_needs, to_trap}
use Rattle.aom_semantics.specs.Places.{Place, Register, Cell, held}
use Rattle.aom_semantics.specs.Effects.{Leaves, Same, applied, updates}
use Rattle.aom_semantics.specs.State.{Closing, Task, Run, Trapped, Destroy, Unwind, Dispatched, State, word, Frame}
use Rattle.aom_semantics.specs.Words.{read}
use Rattle.aom_frames.specs.Tasks.{TopFrameIs, register_here, to_trap as held_to_trap}
use Rattle.aom_frames.specs.declared.task.Task.{Task as Machine_task}
use Rattle.aom_frames.specs.declared.task.Task.TheVariants.{Run as Runs_frame, Trapped as Is_trap, Destroy as Destroys, Closing as Closes, Unwind as Unwinds, Dispatched as Ends}
use Rattle.aom_machine_state.specs.declared.parts.Parts.{Parts}
use Rattle.aom_machine_instructions.specs.Acts.{CurrentFrame, leaving, Does}
use Rattle.aom_machine_state.specs.Places as places
use Rattle.aom_machine_state.specs.Places.{others, Others, value_in, register_in, going_in}
use Rattle.aom_machine_state.specs.Agrees.{word_at, Represents, SameTasks, Agrees}
use Rattle.aom_machine_instructions.proofs.MachineStateLemmas.{A_method, TopMatches, at_depth, going_past, method_on_top, register_past, same_length, top_matches, unowned}
use Rattle.aom_machine_instructions.proofs.MachineStateLemmas.{word_past}
use Rattle.aom_machine_instructions.proofs.ReturnActs.{beneath, cleared_none}
use Rattle.aom_machine_instructions.proofs.Running.{retasked}
use Rattle.aom_machine_instructions.proofs.WordActs.{plain_does, word_read, passes}

-- a leave is no place
pub unwinds_value : (us : List Machine_task) (h : Heap) (es : List Item) (rest : Others) (code : ℤ) (r : Place) →
    value_in (Unwinds code ∷ us) h es rest r ≡ value_in us h es rest r
unwinds_value us h es rest code x = grind (arith, nat_tests, at_depth, register_past us, going_past us)

pub unwinds_word : (us : List Task) (code : ℤ) (r : Place) → word_at (Unwind code ∷ us) r ≡ word_at us r
unwinds_word us code x = grind (arith, nat_tests, at_depth, word_past us)

-- a frame whose registers own nothing
pub none_owned : (cs : List Cell) (d i : ℕ) → none_owns_but cs d None ≡ true → held cs (Register d i) ≡ None
none_owned [] d i e = refl
none_owned (c ∷ cs) d i e = grind (arith, nat_tests, unowned c cs (Register d i), eq-eqb d d, none_owned cs d i)

-- a leave is one task in the place of some
pub to_trap_shorter : (us : List Machine_task) → TopFrameIs us → length (held_to_trap us) < length us
to_trap_shorter us runs = go (top_matches A_method us runs)
  where
    no_longer : (us : List Machine_task) → length (held_to_trap us) ≤ length us
    no_longer (Runs_frame f ∷ us) = let few = no_longer us in omega arith
    no_longer _ = omega arith

    go : {us : List Machine_task} → TopMatches A_method us → length (held_to_trap us) < length us
    go (method_on_top f us) = let few = no_longer us in omega arith

-- the tasks that stay, and what they hold
pub record Stays (cs : List Cell) (heap : Heap) (es : List Item) (rest : Others) (ms : List Machine_task) (ts : List Task) : Type 0 where
  pub tasks : SameTasks ms ts
  pub values : (r : Place) → Represents (value_in ms heap es rest r) (word_at ts r) (held cs r)

pub stays_to_trap : (cs : List Cell) (heap : Heap) (es : List Item) (rest : Others) (ms : List Machine_task) (ts : List Task) →
    above_trap_is_free cs ts ≡ true → Stays cs heap es rest ms ts → Stays cs heap es rest (held_to_trap ms) (to_trap ts)
stays_to_trap cs heap es rest [] [] free stays = stays
stays_to_trap cs heap es rest (Runs_frame f ∷ ms) (Run fr ∷ ts) free stays =
    let both = and_parts (none_owns_but cs (length ts) None) (above_trap_is_free cs ts) free in
    stays_to_trap cs heap es rest ms ts both.1 (record {
      tasks = stays.tasks.1;
      values = λ r. subst (Represents (value_in ms heap es rest r) (word_at ts r)) (cleared_none (length ts)
          (held cs) (λ i. none_owned cs (length ts) i both.0) r) (beneath f ms fr ts heap es rest (held cs) (same_length ms ts stays.tasks.1) stays.values r);
    })
stays_to_trap cs heap es rest (Is_trap ∷ ms) (Trapped ∷ ts) free stays = stays
stays_to_trap cs heap es rest (Destroys x ∷ ms) (Destroy ∷ ts) free stays = stays
stays_to_trap cs heap es rest (Closes ∷ ms) (Closing ∷ ts) free stays = stays
stays_to_trap cs heap es rest (Unwinds code ∷ ms) (Unwind c ∷ ts) free stays = stays
stays_to_trap cs heap es rest (Ends d ∷ ms) (Dispatched x ∷ ts) free stays = stays
stays_to_trap cs heap es rest _ _ free stays = absurd (assumption tt)

-- the machine leaves
pub leaves : (p : Image) (m : Parts) (s : State) (code : ℤ) → Agrees p m s → above_trap_is_free s.cells s.tasks ≡ true →
    Agrees p (leaving code m) (record s { tasks = Unwind code ∷ to_trap s.tasks })
leaves p m s code agrees free =
    let stays = stays_to_trap s.cells m.cells m.entries.items (others m) m.stack.tasks s.tasks free (record { tasks = agrees.tasks; values = agrees.values }) in
    retasked p m s (Unwinds code ∷ held_to_trap m.stack.tasks) (Unwind code ∷ to_trap s.tasks) agrees (refl, stays.tasks) (λ r. subst (λ n. Represents n
    (word_at (Unwind code ∷ to_trap s.tasks) r) (held s.cells r)) (sym (unwinds_value (held_to_trap m.stack.tasks) m.cells m.entries.items (others m) code r))
    (subst (λ w. Represents (value_in (held_to_trap m.stack.tasks) m.cells m.entries.items (others m) r) w (held s.cells r)) (sym (unwinds_word (to_trap s.tasks) code r)) (stays.values r)))

pub leaves_at : (p : Image) (m : Parts) (s : State) (fr : Frame) (ts : List Task) (code : ℤ) → s.tasks ≡ Run fr ∷ ts →
    Agrees p m s → above_trap_is_free s.cells (Run fr ∷ ts) ≡ true → Agrees p (leaving code m) (record s { tasks = Unwind code ∷ to_trap ts })
leaves_at p m s fr ts code top agrees free = subst (λ us. Agrees p (leaving code m) (record s { tasks = Unwind code ∷ to_trap us })) top
    (leaves p m s code agrees (subst (λ us. above_trap_is_free s.cells us ≡ true) (sym top) free))

module _ (m : Parts) (refused : List ℕ) where
  -- with a register's word
  left_with : (p : Image) (h : CurrentFrame p m) (a : ℕ) → is_some (word h.frame a) ≡ true → above_trap_is_free h.state.cells (Run h.frame ∷ h.below) ≡ true →
      Agrees p (leaving (cast_signed w32 (register_here m.stack.tasks a)) m) (applied p h.frame h.below h.state (Leaves (read h.frame h.below h.state a) Same))
  left_with p h a some free = subst (λ w. Agrees p (leaving (cast_signed w32 (register_here m.stack.tasks a)) m) (applied p h.frame h.below h.state
      (Leaves w Same))) (word_read p m h a some) (leaves_at p m h.state h.frame h.below (cast_signed w32 (register_here m.stack.tasks a)) h.top h.agrees free)

  pub leave_does : (a : ℕ) (code : ℤ) → code ≡ cast_signed w32 (register_here m.stack.tasks a) → Does refused (Leave a) m (leaving code m)
  leave_does a code is = subst (λ w. Does refused (Leave a) m (leaving w m)) (sym is)
      (plain_does m (leaving (cast_signed w32 (register_here m.stack.tasks a)) m) refused (Leave a) refl (λ p h c met. left_with p h a met.0 met.1.1.0))

  left_negative : (a : ℕ) → int_lt (cast_signed w32 (register_here m.stack.tasks a)) (pos 0) ≡ true →
      Does refused (LeaveIf a) m (leaving (cast_signed w32 (register_here m.stack.tasks a)) m)
  left_negative a less = plain_does m (leaving (cast_signed w32 (register_here m.stack.tasks a)) m) refused (LeaveIf a) refl (λ p h c met.
      let below : int_lt (read h.frame h.below h.state a) (pos 0) ≡ true = ap (λ w. int_lt w (pos 0)) (sym (word_read p m h a met.0)) ∙ less in
      let free = subst (λ b. AllTrue (cond b (leave_needs h.state.cells (Run h.frame ∷ h.below)) [])) below met.1 in
      subst (λ b. Agrees p (leaving (cast_signed w32 (register_here m.stack.tasks a)) m) (applied p h.frame h.below h.state
      (cond b (Leaves (read h.frame h.below h.state a) Same) (updates h.frame Same)))) (sym below) (left_with p h a met.0 free.1.0))

  pub leave_if_leaves : (a : ℕ) (code : ℤ) → code ≡ cast_signed w32 (register_here m.stack.tasks a) → int_lt code (pos 0) ≡ true →
      Does refused (LeaveIf a) m (leaving code m)
  leave_if_leaves a code e less = grind (arith, nat_tests, left_negative a)

  pub leave_if_stays : (a : ℕ) → int_lt (cast_signed w32 (register_here m.stack.tasks a)) (pos 0) ≡ false → Does refused (LeaveIf a) m (places.next m)
  leave_if_stays a more = plain_does m (places.next m) refused (LeaveIf a) refl (λ p h c met.
      let above : int_lt (read h.frame h.below h.state a) (pos 0) ≡ false = ap (λ w. int_lt w (pos 0)) (sym (word_read p m h a met.0)) ∙ more in
      subst (λ b. Agrees p (places.next m) (applied p h.frame h.below h.state (cond b (Leaves (read h.frame h.below h.state a) Same) (updates h.frame Same))))
      (sym above) (passes m refused p h))
