-- The moves of a leave that unwinds: what was pushed is dealt with, and then the code arrives.
use Rattle.std.proofs.lemmas.Bool.Decides.{nat_tests}
use Rattle.std.proofs.Common.{suc, ◌≡◌, ◌<◌, ℕ, ℤ, Bool, true, cond, length, List, [], ◌∷◌, ◌++◌, Option}
use Rattle.std.proofs.Common.{Some, None, slice_set, pos, refl, sym, ap, ◌∙◌, subst, append-nil, arith}
use Rattle.std.specs.Int.{w32, cast_unsigned}
use Rattle.std.proofs.lemmas.Bool.{eq-eqb}
use Rattle.std.proofs.Common.{FitsSigned, of_z, to_z}
use Rattle.std.proofs.lemmas.Int.{to_z-of_z}
use Rattle.std.proofs.lemmas.List.{length-set}
use Rattle.aom_image.specs.Image.{Image}
use Rattle.aom_image.specs.Views.{instr_at}
use Rattle.aom_image.specs.declared.method.Gives.{Gives}
use Rattle.aom_image.specs.declared.method.Gives.TheVariants.{Maybe as A_maybe, Own as An_own, Word as A_word}
use Rattle.aom_cells.specs.Heap.{null}
use Rattle.aom_frames.specs.Items.{Stack as Machine_items, IsAboveMark, IsMarked}
use Rattle.aom_frames.specs.declared.item.Item.{Item as Machine_item}
use Rattle.aom_frames.specs.declared.item.Item.TheVariants.{Mark as Is_mark}
use Rattle.aom_roles.specs.Tables.{at, set_extending}
use Rattle.aom_typing_rules.specs.Typing.{Typing}
use Rattle.aom_machine_instructions.proofs.SafetyLemmas.{claim_register, goes_same, guarded_goes, guarded_met, leave_layer, under_dispatch}
use Rattle.aom_semantics.specs.Calls.{below_top, called, result_register}
use Rattle.aom_safety.specs.Claims.{Unwinding, tasks_of, declared}
use Rattle.aom_semantics.specs.Cleanup.{arrival, code_reported, dealt_with as deals_with, ended_by, top_is_whole, top_matches_entry, unwound}
use Rattle.aom_safety.specs.Laws.{IsWired}
use Rattle.aom_semantics.specs.Places.{Place, Register, changed, held}
use Rattle.aom_semantics.specs.State.{Frame, Task, Run, Trapped, Unwind, Dispatched, Item, An_object, An_operation}
use Rattle.aom_semantics.specs.State.{A_mark, State, Goes, IsStuck, NullOrDead, next, set_word, word}
use Rattle.aom_safety.specs.WellTyped.{Good, PreservesTyping, WellTyped}
use Rattle.aom_transcript.specs.declared.line.Line.TheVariants.{Leave}
use Rattle.aom_safety.specs.Traps.{AllAtTraps}
use Rattle.aom_machine_instructions.proofs.SemanticsLemmas.{at-set_extending}
use Rattle.aom_machine_state.specs.LineBuffer.{LineBuffer}
use Rattle.aom_frames.specs.Tasks.{TopFrameIs, method_here, place_here, below_first}
use Rattle.aom_frames.specs.declared.frame.Frame.{Frame as Machine_frame}
use Rattle.aom_frames.specs.declared.task.Task.{Task as Machine_task}
use Rattle.aom_frames.specs.declared.task.Task.TheVariants.{Run as Runs_frame, Trapped as Is_trap, Unwind as Unwinds, Dispatched as Ends}
use Rattle.aom_frames.specs.declared.dispatch.Dispatch.{Dispatch as Machine_dispatch}
use Rattle.aom_machine_state.specs.declared.parts.Parts.{Parts}
use Rattle.aom_machine_state.specs.Places as places
use Rattle.aom_machine_state.specs.Agrees.{Represents, SameFrame, SameItems, SameTasks, dispatch_of, word_at, Agrees}
use Rattle.aom_machine_instructions.specs.Cleanup.{TopLives, Unwinds as Unwinds_by, dealt_with, lost, reported}
use Rattle.aom_machine_instructions.specs.Ends.{left, left_by}
use Rattle.aom_machine_state.specs.Places.{others, code_here, value_in, with_tasks, IsEnding, IsTrapped, IsUnwinding}
use Rattle.aom_machine_state.specs.Room.{CalleeThere, CallsThere, ReturnsTo}
use Rattle.aom_machine_state.specs.Stands.{Stands}
use Rattle.aom_machine_instructions.proofs.CallActs.{closing, ended}
use Rattle.aom_machine_instructions.proofs.DealActs.{deals}
use Rattle.aom_machine_instructions.proofs.MachineStateLemmas.{A_caught_leave, A_last_leave, Alike, Alike_items, Entries_alike, TopMatches, alike, both_end}
use Rattle.aom_machine_instructions.proofs.MachineStateLemmas.{both_marks, both_run, both_trapped, both_unwind, caught_leave_on_top, entries_alike, entries_own}
use Rattle.aom_machine_instructions.proofs.MachineStateLemmas.{entries_run, items_alike, kept, last_leave_on_top, mark_shows_none, none_alike, over_value}
use Rattle.aom_machine_instructions.proofs.MachineStateLemmas.{over_words, same_below, same_length, top_matches, value_alike, value_written, word_written, writes}
use Rattle.aom_machine_instructions.proofs.Finding.{held_beneath, unwinds_over, IsTrapOnTop}
use Rattle.aom_machine_instructions.proofs.LeavingActs.{unwinds_value, unwinds_word}
use Rattle.aom_machine_instructions.proofs.ReturnActs.{awaiting, awaits_none, bears, caught_layer, word_alone}
use Rattle.aom_machine_instructions.proofs.Running.{agrees_with, an_open, aside_of, aside_unmarked, moved_on}
use Rattle.aom_machine_instructions.proofs.TerminationLemmas.{leads_on}
use Rattle.aom_machine_instructions.proofs.Stepping.{at_rest, step_of_unwinding, unwinding_of}
use Rattle.aom_machine_instructions.proofs.Topping.{top_lives}

-- ---- what is pushed is dealt with

pub whole_goes : (b : Bool) (v u : State) → cond b (Goes v) (IsStuck NullOrDead) ≡ Goes u → (b ≡ true) × (v ≡ u)
whole_goes b v u e = ((guarded_met ((b, NullOrDead) ∷ []) v u e).0, guarded_goes ((b, NullOrDead) ∷ []) v u e)

pub deals_move : (p : Image) (m : Parts) (reported : LineBuffer) → IsAboveMark m.entries.items → Unwinds_by p m (dealt_with p m) reported reported
deals_move p m reported above h u e typed = go (entries_alike m.entries.items h.state.items h.agrees.entries above) refl e
  where
    s : State
    s = h.state

    done : (js : List Item) → s.items ≡ js → top_matches_entry js ≡ true → top_is_whole s.cells js ≡ true → deals_with p js (Unwind h.code ∷ h.below) s ≡ u →
        arrival h.code s.items ≡ [] → Agrees p (dealt_with p m) u × (reported ≡ record reported { lines = reported.lines ++ arrival h.code s.items })
    done js is some whole same none = (
      subst (Agrees p (dealt_with p m)) (ap (λ us. deals_with p s.items us s) h.top ∙ ap (λ is. deals_with p is (Unwind h.code ∷ h.below) s) is ∙ same)
          (deals p h.formed m h.typing s h.typed h.agrees (ap top_matches_entry is ∙ some) (ap (λ is. top_is_whole s.cells is) is ∙ whole)),
      ap (λ ls. record reported { lines = ls }) (sym (ap (λ ls. reported.lines ++ ls) none ∙ append-nil reported.lines)),
    )

    go : {is : List Machine_item} {js : List Item} → Entries_alike is js → s.items ≡ js →
        unwound p h.code h.below s js ≡ Goes u → Agrees p (dealt_with p m) u × (reported ≡ record reported { lines = reported.lines ++ arrival h.code s.items })
    go (entries_own n is js same) is' e = let w = whole_goes (top_is_whole s.cells (An_object ∷ js))
        (deals_with p (An_object ∷ js) (Unwind h.code ∷ h.below) s) u e in done (An_object ∷ js) is' refl w.0 w.1 (ap (arrival h.code) is')
    go (entries_run m n k w is js _ _ same) is' e =
        done (An_operation k w ∷ js) is' refl refl (goes_same (deals_with p (An_operation k w ∷ js) (Unwind h.code ∷ h.below) s) u e) (ap (arrival h.code) is')

-- ---- what the code needs to know there

module _ (p : Image) (m : Parts) (st : Stands (record { image = p; parts = m })) (unwinding : IsUnwinding m.stack.tasks) where
  -- the move is not stuck
  goes_on : (code : ℤ) × (ts : List Task) × (u : State) × (st.0.tasks ≡ Unwind code ∷ ts) × (unwound p code ts (at_rest st.0) st.0.items ≡ Goes u)
  goes_on =
      let t = st.1.typing in
      let s = st.0 in
      let f = unwinding_of m.stack.tasks s.tasks unwinding st.1.agrees.tasks in
      let c = an_open p [] m s st.1.agrees in
      let k = leads_on p t (unwound p f.0 f.1 (at_rest s) s.items)
      (subst (PreservesTyping p t) (step_of_unwinding p c.0 s f.0 f.1 f.2) (st.1.sound.keeps c.0 s st.1.typed c.1.name)) in
      (f.0, f.1, k.0, f.2, k.1)

  pub unwinds_whole : TopLives m
  unwinds_whole = grind (arith, nat_tests, goes_on, top_lives p m st.1.typing st.0 st.1.typed st.1.agrees, at_rest st.0, whole_goes)

  pub unwinds_marked : (IsAboveMark m.entries.items → ⊥) → IsMarked m.entries.items
  unwinds_marked none = grind (arith, nat_tests, goes_on, at_rest st.0)

  beneath_it : (ts : List Task) × (code : ℤ) × ReturnsTo p (below_first m.stack.tasks) × IsTrapped (below_first m.stack.tasks)
  beneath_it =
      let g = goes_on in
      let over = unwinds_over p st.1.typing st.0 st.1.sound g.0 g.1 st.1.typed g.3 in
      let same = subst (SameTasks m.stack.tasks) g.3 st.1.agrees.tasks in
      let under = alike (below_first m.stack.tasks) g.1 (same_below m.stack.tasks (Unwind g.0) g.1 same) in
      (g.1, g.0, held_beneath p st.1.sound.formed over.0 under (subst (λ us. AllAtTraps p us) g.3 st.1.traps).1, on_top under over.1)
    where
      on_top : {ms : List Machine_task} {ts : List Task} → Alike ms ts → IsTrapOnTop ts → IsTrapped ms
      on_top (both_trapped _ _ _ _) top = top
      on_top _ top = top

  pub unwinds_to : ReturnsTo p (below_first m.stack.tasks)
  unwinds_to = beneath_it.2

  pub unwinds_trapped : IsTrapped (below_first m.stack.tasks)
  unwinds_trapped = beneath_it.3

callee_there : (p : Image) → IsWired p → (k place : ℕ) → CalleeThere p (instr_at p k place)
callee_there p wired k place = grind (arith, nat_tests)

pub calls_there : (p : Image) → IsWired p → (ms : List Machine_task) → CallsThere p ms
calls_there p wired x = grind (arith, nat_tests, callee_there p wired)

-- ---- the code arrives

-- what the result comes to owns nothing
awaited_caught : (p : Image) (t : Typing) (s : State) (code : ℤ) (caller : Frame) (ts : List Task) →
    WellTyped p t s → s.tasks ≡ Unwind code ∷ Trapped ∷ Run caller ∷ ts → bears (called p (instr_at p caller.method caller.place)) ≡ true
    → held s.cells (Register (length ts) (result_register (instr_at p caller.method caller.place))) ≡ None
awaited_caught p t s code caller ts typed top some = leave_layer (Good p t s.cells) code (Trapped ∷ Run caller ∷ ts) typed.layers (sym typed.tasks ∙ top)
    typed.good (λ es ls under good. caught_layer (λ ls. Good p t s.cells (Unwinding code es ∷ ls)) _ caller ts ls under good (λ gv sh' ls rest good.
    let caught = good.stack.1.1.0 in
    awaits_none p s ls ts sh' _ _ (awaiting gv _ sh' (ap bears (sym caught.0) ∙ some) caught.2) (claim_register p (declared p s.cells) caller sh' ls _)
    (good.fits (Register (length (tasks_of ls)) (result_register (instr_at p caller.method caller.place)))) rest))

-- a dispatch is left with the code on both sides
left_alike : (code : ℤ) (q : Place) (x : Machine_dispatch) → dispatch_of q (left code x) ≡ ended_by code (dispatch_of q x)
left_alike code q x = grind arith

module _ (p : Image)
    (m : Parts) (s : State) (agrees : Agrees p m s) (es : Machine_items) (marked : m.entries ≡ record es { items = Is_mark ∷ es.items }) (g : Machine_frame)
    (ms : List Machine_task) (caller : Frame) (ts : List Task) (same_frame : SameFrame g caller) (same_below : SameTasks ms ts) (x : ℕ) (coded : suc x < 16)
    (base : (r : Place) → Represents (value_in (Runs_frame g ∷ ms) m.cells es.items (others m) r) (word_at (Run caller ∷ ts) r) (held s.cells r)) where
  deep : length ms ≡ length ts
  deep = same_length ms ts same_below

  -- the result's register is cleared
  record Cleared (rs : List ℕ) (ws : List (Option ℤ)) : Type 0 where
    values : (r : Place) → Represents (value_in (Runs_frame (record g { registers = rs }) ∷ ms) m.cells es.items (others m) r)
        (word_at (Run (record caller { words = ws }) ∷ ts) r) (held s.cells r)
    wide : length rs ≡ 16

  clears : (n : ℕ) (w : Option ℤ) → Represents n w None → held s.cells (Register (length ts) x) ≡ None →
      Cleared (slice_set g.registers x n) (set_word caller x w).words
  clears n w shows none =
      let q = Register (length ts) x in
      let wide = same_frame.wide in
      record {
        values = grind (arith, nat_tests, writes, value_written g ms m.cells es.items, deep, word_written caller ts x caller.place w, kept);
        wide = length-set g.registers x n ∙ wide;
      }

  -- and the next one has the code
  codes : (code : ℤ) (rs : List ℕ) (ws : List (Option ℤ)) → FitsSigned w32 code → held s.cells (Register (length ts) (suc x)) ≡ None → Cleared rs ws
      → Agrees p (places.next (places.set_register (suc x) (cast_unsigned w32 code) (record (with_tasks (Runs_frame (record g { registers = rs }) ∷ ms) m)
      { entries = es }))) (record s { tasks = Run (next (set_word (record caller { words = ws }) (suc x) (Some code))) ∷ ts; items = below_top s.items })
  codes code rs ws fits none cleared =
      let g' = record g { registers = rs } in
      let caller' = record caller { words = ws } in
      let q = Register (length ts) (suc x) in
      let n = cast_unsigned w32 code in
      let wide = cleared.wide in
      agrees_with p (record m { entries = es }) (record s { items = below_top s.items })
      (Runs_frame (record g { registers = slice_set rs (suc x) n; place = suc g.place }) ∷ ms) (Run (next (set_word caller' (suc x) (Some code))) ∷ ts)
      (aside_unmarked p m s es marked (aside_of p m s agrees))
      (moved_on g caller (slice_set rs (suc x) n) (set_word caller' (suc x) (Some code)).words same_frame (length-set rs (suc x) n ∙ wide), same_below)
      (writes _ _ _ _ (held s.cells) _ q n (Some code) None cleared.values (to_z-of_z w32 code fits)
      (value_written g' ms m.cells es.items (others m) (length ts) (suc x) n (suc g.place) deep (omega arith))
      (word_written caller' ts (suc x) (suc caller.place) (Some code)) (λ r. kept (held s.cells) q r ∙ ap (λ o. changed (held s.cells) q o r) none))

  -- by what the method gives
  reports : (code : ℤ) (gv : Gives) →
      FitsSigned w32 code → (bears gv ≡ true → held s.cells (Register (length ts) x) ≡ None) → held s.cells (Register (length ts) (suc x)) ≡ None →
      Agrees p (places.next (places.set_register (suc x) (cast_unsigned w32 code) (lost gv x (record (with_tasks (Runs_frame g ∷ ms) m) { entries = es }))))
      (record s { tasks = Run (next (code_reported gv x code caller)) ∷ ts; items = below_top s.items })
  reports code A_word fits free none = codes code _ _ fits none (clears 0 (Some (pos 0)) refl (free refl))
  reports code (An_own t) fits free none = codes code _ _ fits none (clears null None refl (free refl))
  reports code (A_maybe t) fits free none = codes code _ _ fits none (clears null None refl (free refl))
  reports code _ fits free none = codes code g.registers caller.words fits none (record { values = base; wide = same_frame.wide })

-- the code's register has a word then
code_alone : (p : Image) (t : Typing) (gv : Gives) (x : ℕ) (code : ℤ) (caller : Frame) (ts : List Task) (s : State) →
    WellTyped p t s → s.tasks ≡ Run (next (code_reported gv x code caller)) ∷ ts → held s.cells (Register (length ts) (suc x)) ≡ None
code_alone p t gv x code caller ts s typed top = word_alone p t s (next (code_reported gv x code caller)) ts (suc x) code typed top (has gv)
  where
    written : (ws : List (Option ℤ)) → at None (set_extending None ws (suc x) (Some code)) (suc x) ≡ Some code
    written ws = at-set_extending None ws (suc x) (suc x) (Some code) ∙ ap (λ b. cond b (Some code) (at None ws (suc x))) (eq-eqb (suc x) (suc x) refl)

    has : (gv : Gives) → word (next (code_reported gv x code caller)) (suc x) ≡ Some code
    has A_word = written (set_word caller x (Some (pos 0))).words
    has (An_own t) = written (set_word caller x None).words
    has (A_maybe t) = written (set_word caller x None).words
    has _ = written caller.words

-- a code as it is told is the one at hand
pub reported_code : (k code : ℤ) → FitsSigned w32 k → k ≡ code → (to_z w32 (of_z w32 k) ≡ code) × FitsSigned w32 code
reported_code k code fits is = (to_z-of_z w32 k fits ∙ is, subst (FitsSigned w32) is fits)

module _ (p : Image) (m : Parts) (es : Machine_items) (marked : m.entries ≡ record es { items = Is_mark ∷ es.items }) (t : LineBuffer)
    (fits : FitsSigned w32 (code_here m.stack.tasks)) where
  abbrev under : List Machine_task
  under = below_first (below_first m.stack.tasks)

  abbrev said : LineBuffer
  said = record t { lines = t.lines ++ Leave (code_here m.stack.tasks) ∷ [] }

  top_mark : (js : List Item) → SameItems m.entries.items js → (ks : List Item) × (js ≡ A_mark ∷ ks)
  top_mark js same = grind (arith, nat_tests, items_alike (Is_mark ∷ es.items) js, Alike_items (Is_mark ∷ es.items) js, both_marks)

  pub arrives_method : IsUnwinding m.stack.tasks →
      IsTrapped (below_first m.stack.tasks) → TopFrameIs under → suc (result_register (instr_at p (method_here under) (place_here under))) < 16 → Unwinds_by p m
      (reported p (instr_at p (method_here under) (place_here under)) (code_here m.stack.tasks) (record (with_tasks under m) { entries = es })) t said
  arrives_method unwinding trapped runs coded h u e typed =
      let k = top_mark h.state.items h.agrees.entries in
      go m.stack.tasks h.code h.below refl h.top (top_matches A_caught_leave m.stack.tasks (unwinding, trapped, runs)) coded fits
      (alike m.stack.tasks (Unwind h.code ∷ h.below) (subst (SameTasks m.stack.tasks) h.top h.agrees.tasks))
      (λ r. subst (λ us. Represents (value_in m.stack.tasks m.cells m.entries.items (others m) r) (word_at us r) (held h.state.cells r)) h.top
      (h.agrees.values r)) k.0 k.1 (subst (λ is. unwound p h.code h.below h.state is ≡ Goes u) k.1 e)
    where
      s : State
      s = h.state

      Done : List Machine_task → ℤ → Type 0
      Done us code =
          let v = below_first (below_first us) in
          Agrees p (reported p (instr_at p (method_here v) (place_here v)) (code_here us) (record (with_tasks v m) { entries = es })) u ×
          (record t { lines = t.lines ++ Leave (code_here us) ∷ [] } ≡ record t { lines = t.lines ++ arrival code s.items })

      go : (us : List Machine_task) (code : ℤ) (below : List Task) → m.stack.tasks ≡ us → s.tasks ≡ Unwind code ∷ below → TopMatches A_caught_leave us →
          suc (result_register (instr_at p (method_here (below_first (below_first us))) (place_here (below_first (below_first us))))) < 16 →
          FitsSigned w32 (code_here us) → Alike us (Unwind code ∷ below) → ((r : Place) → Represents (value_in us m.cells m.entries.items (others m) r) (word_at
          (Unwind code ∷ below) r) (held s.cells r)) → (ks : List Item) → s.items ≡ A_mark ∷ ks → unwound p code below s (A_mark ∷ ks) ≡ Goes u → Done us code
      go _ code _ held_tasks top (caught_leave_on_top c g ms) coded fits
          (both_unwind _ _ _ _ same _ (both_trapped _ _ _ (both_run _ caller _ ts frame rest _))) values ks items e =
          let i = instr_at p caller.method caller.place in
          let x = result_register i in
          let gv = called p i in
          let alike : instr_at p g.method g.place ≡ i = ap (λ n. instr_at p n g.place) frame.method ∙ ap (λ n. instr_at p caller.method n) frame.place in
          let v : State = record s { tasks = Run (next (code_reported gv x code caller)) ∷ ts; items = ks } in
          let is : v ≡ u = goes_same v u e in
          let fresh = subst (WellTyped p h.typing) (sym is) typed in
          let small : suc x < 16 = subst (λ o. suc (result_register o) < 16) alike coded in
          let was : m.entries.items ≡ Is_mark ∷ es.items = ap (λ (e : Machine_items). e.items) marked in
          let base : (r : Place) → Represents (value_in (Runs_frame g ∷ ms) m.cells es.items (others m) r) (word_at (Run caller ∷ ts) r) (held s.cells r) = λ r.
          subst (λ n. Represents n (word_at (Run caller ∷ ts) r) (held s.cells r))
          (unwinds_value (Is_trap ∷ Runs_frame g ∷ ms) m.cells m.entries.items (others m) c r
          ∙ over_value true (Runs_frame g ∷ ms) m.cells m.entries.items (others m) r ∙ ap (λ is. value_in (Runs_frame g ∷ ms) m.cells is (others m) r) was
          ∙ value_alike (Runs_frame g ∷ ms) m.cells (Is_mark ∷ es.items) es.items (others m) (λ d. mark_shows_none es.items d) r)
          (subst (λ w. Represents (value_in (Unwinds c ∷ Is_trap ∷ Runs_frame g ∷ ms) m.cells m.entries.items (others m) r) w (held s.cells r))
          (unwinds_word (Trapped ∷ Run caller ∷ ts) code r ∙ over_words true (Run caller ∷ ts) r) (values r)) in
          let reported_all = reports p m s h.agrees es marked g ms caller ts frame rest x small base code gv (subst (FitsSigned w32) same fits)
          (awaited_caught p h.typing s code caller ts h.typed top) (code_alone p h.typing gv x code caller ts v fresh refl) in (
            subst (λ o. Agrees p (reported p o c (record (with_tasks (Runs_frame g ∷ ms) m) { entries = es })) u) (sym alike)
                (subst (λ w. Agrees p (reported p i w (record (with_tasks (Runs_frame g ∷ ms) m) { entries = es })) u) (sym same)
                (subst (Agrees p (reported p i code (record (with_tasks (Runs_frame g ∷ ms) m) { entries = es })))
                (ap (λ js. record s { tasks = Run (next (code_reported gv x code caller)) ∷ ts; items = below_top js }) items ∙ is) reported_all)),
            ap (λ w. record t { lines = t.lines ++ Leave w ∷ [] }) same ∙ ap (λ js. record t { lines = t.lines ++ arrival code js }) (sym items),
          )

  pub arrives_end : IsUnwinding m.stack.tasks → IsTrapped (below_first m.stack.tasks) →
      IsEnding under → Unwinds_by p m (record (with_tasks (left_by (code_here m.stack.tasks) under) m) { entries = es }) t said
  arrives_end unwinding trapped ending h u e typed =
      let k = top_mark h.state.items h.agrees.entries in
      go m.stack.tasks h.code h.below h.top (top_matches A_last_leave m.stack.tasks (unwinding, trapped, ending)) (alike m.stack.tasks (Unwind h.code ∷ h.below)
      (subst (SameTasks m.stack.tasks) h.top h.agrees.tasks)) k.0 k.1 (subst (λ is. unwound p h.code h.below h.state is ≡ Goes u) k.1 e)
    where
      s : State
      s = h.state

      Done : List Machine_task → ℤ → Type 0
      Done us code = Agrees p (record (with_tasks (left_by (code_here us) (below_first (below_first us))) m) { entries = es }) u ×
          (record t { lines = t.lines ++ Leave (code_here us) ∷ [] } ≡ record t { lines = t.lines ++ arrival code s.items })

      go : (us : List Machine_task) (code : ℤ) (below : List Task) → s.tasks ≡ Unwind code ∷ below → TopMatches A_last_leave us → Alike us (Unwind code ∷ below)
          → (ks : List Item) → s.items ≡ A_mark ∷ ks → unwound p code below s (A_mark ∷ ks) ≡ Goes u → Done us code
      go _ code _ top (last_leave_on_top c y ms) (both_unwind _ _ _ _ same _ (both_trapped _ _ _ (both_end _ d _ ts ends rest _))) ks items e =
          let d' = ended_by code d in
          let v : State = record s { tasks = Dispatched d' ∷ ts; items = ks } in
          let is : v ≡ u = goes_same v u e in
          let fresh = subst (WellTyped p h.typing) (sym is) typed in
          let none = under_dispatch p h.typing v d' ts fresh refl in
          let bare = none_alike ms ts rest none in
          let items_too : v ≡ record s { tasks = Dispatched d' ∷ []; items = below_top s.items } = ap (λ us. record s
          { tasks = Dispatched d' ∷ us; items = ks }) none ∙ ap (λ js. record s { tasks = Dispatched d' ∷ []; items = below_top js }) (sym items) in
          let shut = closing p h.typing (record s { tasks = Dispatched d' ∷ []; items = below_top s.items }) d'
          (subst (WellTyped p h.typing) items_too fresh) refl in
          let as_left : dispatch_of ends.0 (left c y) ≡ d' = left_alike c ends.0 y ∙ ap (ended_by c) ends.1 ∙ ap (λ w. ended_by w d) same in
          let end = ended p m es s (left c y) d' h.agrees marked (ends.0, as_left) shut in (
            subst (λ us. Agrees p (record (with_tasks (Ends (left c y) ∷ us) m) { entries = es }) u)
                (sym bare) (subst (Agrees p (record (with_tasks (Ends (left c y) ∷ []) m) { entries = es })) (sym items_too ∙ is) end),
            ap (λ w. record t { lines = t.lines ++ Leave w ∷ [] }) same ∙ ap (λ js. record t { lines = t.lines ++ arrival code js }) (sym items),
          )
