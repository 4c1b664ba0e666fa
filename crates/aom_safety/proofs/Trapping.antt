-- What lies below the mark of a trap stays: as many marks lie on the cleanup stack as traps are at hand, and a move changes its last item at most.
use Rattle.std.proofs.lemmas.Bool.Decides.{nat_tests}
use Rattle.std.proofs.Common.{Bool, cond, true, false, List, None, Option, Some, [], ap, arith, inl, inr, length}
use Rattle.std.proofs.Common.{refl, subst, suc, sym, ℕ, ℤ, ◌+◌, ◌∙◌, ◌∷◌, ◌≡◌, length-append}
use Rattle.aom_safety.proofs.ImageLemmas.{action_there, cons_given}
use Rattle.aom_safety.proofs.InstructionsLemmas.{trap_is}
use Rattle.std.specs.Prelude.{◌++◌, ◌⊎◌}
use Rattle.aom_image.specs.Image.{Image}
use Rattle.aom_image.specs.Views.{action_at, instr_at}
use Rattle.aom_instructions.specs.Table.{action_of}
use Rattle.aom_instructions.specs.declared.action.Action.TheVariants.{Call}
use Rattle.aom_instructions.specs.declared.action.CallMode.TheVariants.{Trapped as Under_trap}
use Rattle.aom_instructions.specs.declared.instr.Instr.{Instr}
use Rattle.aom_instructions.specs.declared.instr.Target.{Target}
use Rattle.aom_image.specs.declared.method.Gives.{Gives}
use Rattle.aom_typing_rules.specs.Typing.{IsTyped, Typing}
use Rattle.aom_abstract_state.specs.declared.kind.CleanupEntry.{CleanupEntry}
use Rattle.aom_abstract_state.specs.declared.kind.CleanupEntry.TheVariants.{Object as Pushed_object, Operation as Operation_entry}
use Rattle.aom_safety.proofs.Booting.{boot_keeps}
use Rattle.aom_safety.proofs.Caught.{own_word, reported_frame}
use Rattle.aom_safety.proofs.ClientsKeep.{clients_keep}
use Rattle.aom_safety.proofs.Course.{WellKept, well_on}
use Rattle.aom_safety.proofs.Guarded.{acts_at}
use Rattle.aom_safety.proofs.Moving.{steps_are_moves}
use Rattle.aom_safety.proofs.Standing.{stand}
use Rattle.aom_safety.proofs.Steps.{step_keeps}
use Rattle.aom_safety.proofs.View.{under_dispatch as nothing_under}
use Rattle.aom_semantics.specs.Calls.{below_top, called, result_register, returned}
use Rattle.aom_safety.specs.Claims.{Form, Layer, Mark, Mark_form, Method}
use Rattle.aom_safety.specs.Claims.{Unwinding, forms, items_of, objects, tasks_of}
use Rattle.aom_semantics.specs.Cleanup.{code_reported, ended_by, to_trap}
use Rattle.aom_link_conditions.specs.Roles.{destructor_of}
use Rattle.aom_semantics.specs.Destruction.{line_on, next_destructor, destructed, parting, first_session, begun, begun_by}
use Rattle.aom_semantics.specs.Effects.{Calls, Cancels, Destroys, Destroys_last, Effect, Goes_on, Leaves, Operates}
use Rattle.aom_semantics.specs.Effects.{Returns, Sets_trap, Update, applied, effect, items_after, with_words}
use Rattle.aom_safety.specs.Laws.{IsWired}
use Rattle.aom_semantics.specs.Moves.{IsOpen, counted, step}
use Rattle.aom_semantics.specs.Places.{service_of, Object, named}
use Rattle.aom_semantics.specs.State.{Inside, Receiver, Closing, OwnedObject, A_mark, An_object, An_operation, Choice, Destroy, Dispatch, Dispatched}
use Rattle.aom_semantics.specs.State.{Frame, Goes, Item, Run, State, Task, Trapped, Unwind, next, resumed}
use Rattle.aom_safety.specs.Steps.{Empties, Acts, Arrives, Clears, Comes_out, Ends as A_dispatch_ends, Move, Rests, Undoes, Reclaims}
use Rattle.aom_safety.specs.Traps.{ComesOff, GoesOnAfter, IsPast, IsTrapping, TrapsKeep, WasPast, marks, traps}
use Rattle.aom_safety.specs.WellTyped.{WellTyped}
use Rattle.aom_semantics.specs.World.{Observed, ObservesWell, IsBetween, IsBusy, Environment, Reaches, begins, boot_state, moves, turn, turns}
use Rattle.aom_transcript.specs.declared.line.Line.{Line}
use Rattle.aom_semantics.specs.Requests.{ended_cells}
use Rattle.aom_semantics.specs.Servers.{is_server}

-- ---- as many marks as traps

abbrev pub mark_forms : List Form → ℕ
mark_forms [] = 0
mark_forms (Mark_form ∷ fs) = suc (mark_forms fs)
mark_forms (_ ∷ fs) = mark_forms fs

pub marks_of_forms : (items : List Item) → mark_forms (forms items) ≡ marks items
marks_of_forms [] = refl
marks_of_forms (A_mark ∷ items) = ap suc (marks_of_forms items)
marks_of_forms (_ ∷ items) = marks_of_forms items

pub marks_under : (es : List CleanupEntry) (fs : List Form) → mark_forms (objects es fs) ≡ mark_forms fs
marks_under [] fs = refl
marks_under (Pushed_object c a ∷ es) fs = marks_under es fs
marks_under (Operation_entry ∷ es) fs = marks_under es fs

marks_of_layers : (ls : List Layer) → mark_forms (items_of ls) ≡ traps (tasks_of ls)
marks_of_layers [] = refl
marks_of_layers (Method fr sh ∷ ls) = marks_under sh.entries (items_of ls) ∙ marks_of_layers ls
marks_of_layers (Mark gv ∷ ls) = ap suc (marks_of_layers ls)
marks_of_layers (Unwinding code es ∷ ls) = marks_under es (items_of ls) ∙ marks_of_layers ls
marks_of_layers (_ ∷ ls) = marks_of_layers ls

pub all_matched : (p : Image) (t : Typing) (s : State) → WellTyped p t s → marks s.items ≡ traps s.tasks
all_matched p t s w = sym (marks_of_forms s.items) ∙ ap mark_forms w.items ∙ marks_of_layers w.layers ∙ ap traps (sym w.tasks)

marks_join : (a b : List Item) → marks (a ++ b) ≡ marks a + marks b
marks_join [] b = omega arith
marks_join (A_mark ∷ a) b = omega (arith, marks_join a b)
marks_join (_ ∷ a) b = marks_join a b

traps_join : (a b : List Task) → traps (a ++ b) ≡ traps a + traps b
traps_join [] b = omega arith
traps_join (Trapped ∷ a) b = omega (arith, traps_join a b)
traps_join (_ ∷ a) b = traps_join a b

-- ---- what a move does to the tasks and the items

-- these tasks have the trap over those below it
abbrev Ends : List Task → List Task → Type 0
Ends below ts = (over : List Task) × (ts ≡ over ++ (Trapped ∷ below))

-- the last item at most is another
abbrev Near : List Item → List Item → Type 0
Near old new = (new ≡ old) ⊎ ((i : Item) × (new ≡ i ∷ old)) ⊎ ((i : Item) × (old ≡ i ∷ new))

-- the trap stays, or it is over and the last item with it
abbrev Moved : Image → List Task → State → State → Type 0
Moved p below s u = (Ends below u.tasks × Near s.items u.items) ⊎ (GoesOnAfter below u.tasks × (u.items ≡ below_top s.items) × ComesOff p below s u)

near_top : (items : List Item) → Near items (below_top items)
near_top [] = inl refl
near_top (i ∷ items) = inr (inr (i, refl))

with_task : (below ts : List Task) (x : Task) → Ends below ts → Ends below (x ∷ ts)
with_task below ts x e = (x ∷ e.0, ap (λ l. x ∷ l) e.1)

none_below : (below : List Task) → Ends below [] → ⊥
none_below below e = let same = ap length e.1 in omega (arith, same, length-append e.0 (Trapped ∷ below))

-- below a task that is no trap
under_frame : (below ts : List Task) (fr : Frame) → Ends below (Run fr ∷ ts) → Ends below ts
under_frame below ts fr e = cons_given (λ over. Run fr ∷ ts ≡ over ++ (Trapped ∷ below)) e.0 e.1 (λ e. cc) (λ x over _ e. (over, cc))

under_going : (below ts : List Task) → Ends below (Destroy ∷ ts) → Ends below ts
under_going below ts e = cons_given (λ over. Destroy ∷ ts ≡ over ++ (Trapped ∷ below)) e.0 e.1 (λ e. cc) (λ x over _ e. (over, cc))

under_closing : (below ts : List Task) → Ends below (Closing ∷ ts) → Ends below ts
under_closing below ts e = cons_given (λ over. Closing ∷ ts ≡ over ++ (Trapped ∷ below)) e.0 e.1 (λ e. cc) (λ x over _ e. (over, cc))

under_leave : (below ts : List Task) (code : ℤ) → Ends below (Unwind code ∷ ts) → Ends below ts
under_leave below ts code e = cons_given (λ over. Unwind code ∷ ts ≡ over ++ (Trapped ∷ below)) e.0 e.1 (λ e. cc) (λ x over _ e. (over, cc))

under_dispatch : (below ts : List Task) (d : Dispatch) → Ends below (Dispatched d ∷ ts) → Ends below ts
under_dispatch below ts d e = cons_given (λ over. Dispatched d ∷ ts ≡ over ++ (Trapped ∷ below)) e.0 e.1 (λ e. cc) (λ x over _ e. (over, cc))

-- below a trap: it is the one, or another over it
under_trap : (below ts : List Task) → Ends below (Trapped ∷ ts) → (ts ≡ below) ⊎ Ends below ts
under_trap below ts e = go e.0 e.1
  where
    go : (over : List Task) → Trapped ∷ ts ≡ over ++ (Trapped ∷ below) → (ts ≡ below) ⊎ Ends below ts
    go [] e = inl cc
    go (x ∷ over) e = inr (over, cc)

lands : (below ts : List Task) → Ends below ts → Ends below (to_trap ts)
lands below (Run fr ∷ ts) e = lands below ts (under_frame below ts fr e)
lands below _ e = e

resumes : (below ts : List Task) → Ends below ts → Ends below (resumed ts)
resumes below (Run fr ∷ ts) e = with_task below ts (Run (next fr)) (under_frame below ts fr e)
resumes below _ e = e

destructs_there : (p : Image) (o : Object) (height : ℕ) (below ts : List Task) → Ends below ts → Ends below (destructed p o height ts)
destructs_there p o height below ts e = go (destructor_of p o.thing)
  where
    go : (d : Option ℕ) → Ends below (begun_by p d o height ts)
    go None = with_task below ts Destroy e
    go (Some m) = with_task below (Destroy ∷ ts) _ (with_task below ts Destroy e)

line_there : (p : Image) (m : ℕ) (receiver : Receiver) (height : ℕ) (below ts : List Task) → Ends below (Destroy ∷ ts) → Ends below (line_on p m receiver height ts)
line_there p m (Inside o from) height below ts e = go (next_destructor p m)
  where
    go : (d : Option ℕ) → Ends below (begun_by p d o height ts)
    go None = e
    go (Some k) = with_task below (Destroy ∷ ts) _ e
line_there p m x height below ts e = grind arith

begins_there : (p : Image) (o : Object) (height : ℕ) (below ts : List Task) → Ends below ts → Ends below (begun p o height ts)
begins_there p o height below ts e = go (is_server p o.thing)
  where
    go : (x : Bool) → Ends below (cond x (Closing ∷ Destroy ∷ ts) (destructed p o height ts))
    go true = with_task below (Destroy ∷ ts) Closing (with_task below ts Destroy e)
    go false = destructs_there p o height below ts e

-- a server that goes has a session go first, or its destructor begins
empties_there : (p : Image) (o : Object) (x : Option OwnedObject) (below ts : List Task) (s : State) → Ends below ts →
    Ends below (parting p o x ts s).tasks × Near s.items (parting p o x ts s).items
empties_there p o None below ts s e = (destructs_there p o (length s.items) below ts e, inl refl)
empties_there p o (Some x) below ts s e =
    (begins_there p x.object (length s.items) below (Closing ∷ Destroy ∷ ts) (with_task below (Destroy ∷ ts) Closing (with_task below ts Destroy e)), inl refl)

-- a method returns
module _ (p : Image) (c : Choice) (fr : Frame) (ts : List Task) (s : State) (has_task : s.tasks ≡ Run fr ∷ ts) (below : List Task) (e : Ends below ts) where
  given : Moved p below s s
  given = inl (subst (λ l. Ends below l) (sym has_task) (with_task below ts (Run fr) e), inl refl)

  -- the word 0 is told
  through_trap : (g : Gives) (a : ℕ) (under : List Task) → ts ≡ Trapped ∷ under → (under ≡ below) ⊎ Ends below under →
      Moved p below s (returned p fr ts s g a (Trapped ∷ under))
  through_trap g a (Run caller ∷ under) at (inl same) = grind (arith, nat_tests, own_word)
  through_trap g a (Run caller ∷ under) at (inr o) = inl (with_task below under _ (under_frame below under caller o), near_top s.items)
  through_trap g a (Dispatched d ∷ under) at (inl same) = grind (arith, nat_tests)
  through_trap g a (Dispatched d ∷ under) at (inr o) = inl (with_task below under _ (under_dispatch below under d o), near_top s.items)
  through_trap g a _ at o = given

  return_there : (g : Gives) (a : ℕ) (under : List Task) → ts ≡ under → Ends below under → Moved p below s (returned p fr ts s g a under)
  return_there g a (Run caller ∷ under) at o = inl (with_task below under _ (under_frame below under caller o), inl refl)
  return_there g a (Trapped ∷ under) at o = through_trap g a under at (under_trap below under o)
  return_there g a (Destroy ∷ under) at o = inl (line_there p fr.method fr.receiver fr.height below under o, inl refl)
  return_there g a (Unwind code ∷ under) at o = inl (o, inl refl)
  return_there g a (Dispatched d ∷ under) at o = inl (with_task below under _ (under_dispatch below under d o), inl refl)
  return_there g a _ at o = given

-- the last item is another at most
near : (u : Update) (items : List Item) → Near items (items_after u items)
near x items = grind (arith, nat_tests, near_top items)

module _ (p : Image) (c : Choice) (s : State) (below : List Task) where
  acts : (fr : Frame) (ts : List Task) (i : Instr) (e : Effect) → s.tasks ≡ Run fr ∷ ts → Ends below ts → Moved p below s (applied p fr ts (counted p s) e)
  acts fr ts i (Goes_on ch) at o = inl (with_task below ts _ o, near ch.update s.items)
  acts fr ts i (Calls target m first) at o = inl (with_task below (Run fr ∷ ts) _ (with_task below ts (Run fr) o), inl refl)
  acts fr ts i (Cancels m) at o = inl (with_task below (Run fr ∷ ts) _ (with_task below ts (Run fr) o), inl refl)
  acts fr ts i (Sets_trap target m first) at o =
      inl (with_task below (Trapped ∷ Run fr ∷ ts) _ (with_task below (Run fr ∷ ts) Trapped (with_task below ts (Run fr) o)), inr (inl (A_mark, refl)))
  acts fr ts i (Returns g a) at o = return_there p c fr ts (record (counted p s) { cells = ended_cells p fr s.cells }) at below o g a ts refl o
  acts fr ts i (Leaves code u) at o = inl (with_task below (to_trap ts) (Unwind code) (lands below ts o), near u s.items)
  acts fr ts i (Destroys x a words) at o = inl (begins_there p x (length s.items) below (Run (with_words fr words) ∷ ts) (with_task below ts _ o), inl refl)
  acts fr ts i (Destroys_last x) at o = inl (begins_there p x (length (below_top s.items)) below (Run fr ∷ ts) (with_task below ts _ o), near_top s.items)
  acts fr ts i (Operates m w) at o = inl (with_task below (Run fr ∷ ts) _ (with_task below ts (Run fr) o), near_top s.items)
  acts fr ts i _ at o = inl (with_task below ts _ o, inl refl)

  -- the code arrives at the trap, or at another over it
  arrives : (code : ℤ) (fr : Frame) (ts : List Task) (items : List Item) → s.tasks ≡ Unwind code ∷ Trapped ∷ Run fr ∷ ts → s.items ≡ A_mark ∷ items →
      (Run fr ∷ ts ≡ below) ⊎ Ends below (Run fr ∷ ts) →
      let i = instr_at p fr.method fr.place in
      Moved p below s (record (counted p s) { tasks = Run (next (code_reported (called p i) (result_register i) code fr)) ∷ ts; items = items })
  arrives code fr ts items at top x = grind (arith, nat_tests, reported_frame, with_task below ts, under_frame below ts fr)

  comes_out : (code : ℤ) (d : Dispatch) (ts : List Task) (items : List Item) → s.tasks ≡ Unwind code ∷ Trapped ∷ Dispatched d ∷ ts → s.items ≡ A_mark ∷ items →
      (Dispatched d ∷ ts ≡ below) ⊎ Ends below (Dispatched d ∷ ts) →
      Moved p below s (record (counted p s) { tasks = Dispatched (ended_by code d) ∷ ts; items = items })
  comes_out code d ts items at top x = grind (arith, nat_tests, with_task below ts, under_dispatch below ts d)

  moved : (t : Typing) (u : State) → WellTyped p t s → Ends below s.tasks → Move p c s u → Moved p below s u
  moved t u w o (Rests still e) = subst (λ v. Moved p below s v) (sym e) (inl (o, inl refl))
  moved t u w o (Acts fr ts i e at there met fits same) = grind (arith, nat_tests, acts fr ts i e at, under_frame below ts fr)
  moved t u w o (Reclaims ts x at there owns same) = grind (arith, nat_tests, resumes below ts, under_going below ts)
  moved t u w o (Empties ts x at there same) = rw same (inl (empties_there p x (first_session s.cells x.name (service_of s.cells x.name).sessions) below ts
      (counted p s) (under_going below ts (under_closing below (Destroy ∷ ts) (rw at at o)))))
  moved t u w o (Clears code ts items x at top there same) =
      subst (λ v. Moved p below s v) (sym same) (inl (grind (arith, nat_tests, begins_there), inr (inr (An_object, top))))
  moved t u w o (Undoes code ts items m x at top same) = rw same (inl (with_task below (Unwind code ∷ ts) _ (rw at at o), inr (inr (An_operation m x, top))))
  moved t u w o (Arrives code fr ts items at top same) = rw same (arrives code fr ts items at top (under_trap below _ (under_leave below _ code (rw at at o))))
  moved t u w o (Comes_out code d ts items at top same) =
      rw same (comes_out code d ts items at top (under_trap below _ (under_leave below _ code (rw at at o))))
  moved t u w o (A_dispatch_ends d ts at same) = grind (arith, nat_tests, none_below below, nothing_under p t s d ts w at, under_dispatch below ts d)

-- ---- so the mark of the trap and what lies below it stay

module _ (p : Image) (t : Typing) (s u : State) (before : WellTyped p t s) (after : WellTyped p t u) (below : List Task) (items : List Item)
    (h : IsTrapping below items s) where
  -- the marks below are those of the traps below
  lower : marks items ≡ traps below
  lower = grind (arith, nat_tests, all_matched p t s before, marks_join h.entries (A_mark ∷ items), traps_join h.over (Trapped ∷ below))

  -- with these entries over the mark
  kept_by : (over : List Task) → u.tasks ≡ over ++ (Trapped ∷ below) → (entries : List Item) → u.items ≡ entries ++ (A_mark ∷ items) → IsTrapping below items u
  kept_by over at entries stack =
      search (arith, nat_tests, all_matched p t u after, marks_join entries (A_mark ∷ items), traps_join over (Trapped ∷ below), lower)

  -- the mark itself does not go while the trap is there
  not_gone : (over : List Task) → u.tasks ≡ over ++ (Trapped ∷ below) → u.items ≡ items → ⊥
  not_gone over at e = grind (arith, nat_tests, all_matched p t u after, traps_join over (Trapped ∷ below), lower)

  by_near : (over : List Task) → u.tasks ≡ over ++ (Trapped ∷ below) → Near s.items u.items → IsTrapping below items u
  by_near over at (inl same) = kept_by over at h.entries (same ∙ h.stack)
  by_near over at (inr (inl more)) = kept_by over at (more.0 ∷ h.entries) (more.1 ∙ ap (λ l. more.0 ∷ l) h.stack)
  by_near over at (inr (inr less)) = go h.entries h.stack
    where
      go : (entries : List Item) → s.items ≡ entries ++ (A_mark ∷ items) → IsTrapping below items u
      go [] stack = let same : less.0 ∷ u.items ≡ A_mark ∷ items = sym less.1 ∙ stack in absurd (not_gone over at (ap below_top same))
      go (x ∷ entries) stack = let same : less.0 ∷ u.items ≡ x ∷ (entries ++ (A_mark ∷ items)) = sym less.1 ∙ stack in kept_by over at entries (ap below_top same)

  by_end : GoesOnAfter below u.tasks → u.items ≡ below_top s.items → ComesOff p below s u → IsPast p below items s u
  by_end g e off = record { tasks = g; stack = go h.entries (e ∙ ap below_top h.stack); off = off }
    where
      go : (entries : List Item) → u.items ≡ below_top (entries ++ (A_mark ∷ items)) → u.items ≡ items
      go [] stack = stack
      go (x ∷ entries) stack = grind (arith, nat_tests, all_matched p t u after, marks_join entries (A_mark ∷ items), lower)

  by_moved : Moved p below s u → IsTrapping below items u ⊎ IsPast p below items s u
  by_moved (inl stays) = inl (by_near stays.0.0 stays.0.1 stays.1)
  by_moved (inr ends) = inr (by_end ends.0 ends.1 ends.2)

-- what is called under a trap sets it
traps_by : (p : Image) (c : Choice) (fr : Frame) (ts : List Task) (s : State) (i : Instr) (target : Target) (m first x : ℕ) →
    action_of i ≡ Call Under_trap target m first x → effect p c fr ts s i ≡ Sets_trap target m first
traps_by p c fr ts s i target m first x e = subst (λ j. effect p c fr ts s j ≡ Sets_trap target m first) (sym (trap_is i target m first x e)) refl

sets : (p : Image) (t : Typing) (c : Choice) (s u : State) (fr : Frame) (ts : List Task) (target : Target) (m first x : ℕ) → s.tasks ≡ Run fr ∷ ts →
    action_at p fr.method fr.place ≡ Some (Call Under_trap target m first x) → step p c s ≡ Goes u → IsTrapping (Run fr ∷ ts) s.items u
sets p t c s u fr ts target m first x at there e =
    let w = action_there _ _ there in
    let i = w.0 in
    subst (λ v. IsTrapping (Run fr ∷ ts) s.items v) (ap (applied p fr ts (counted p s)) (sym (traps_by p c fr ts (counted p s) i target m first x w.2))
    ∙ (acts_at p c s u fr ts i at w.1 e).1) (record { over = _ ∷ []; tasks = refl; entries = []; stack = refl; matched = refl })

keeps_trap : (p : Image) (t : Typing) → IsWired p → IsTyped p t → (c : Choice) (s u : State) → WellTyped p t s → named s.cells c.name ≡ None →
    (below : List Task) (items : List Item) → IsTrapping below items s → step p c s ≡ Goes u → IsTrapping below items u ⊎ IsPast p below items s u
keeps_trap p t wired typed c s u w unused below items h e =
    by_moved p t s u w (grind (arith, nat_tests, step_keeps)) below items h (moved p c s below t u w (h.over, h.tasks) (steps_are_moves p c s u e))

module _ (p : Image) (t : Typing) (outside : Environment) (wired : IsWired p) (typed : IsTyped p t) (from : State) (well : WellKept p t from)
    (below : List Task) (items : List Item) where
  abbrev Lasts : State → Type 0
  Lasts s = IsTrapping below items s ⊎ WasPast p outside below items from s

  -- what was so on the way stays so further on
  past_on : (s u : State) (h : WasPast p outside below items from s) (lines : List Line) → Reaches p outside h.after lines u → WasPast p outside below items from u
  past_on s u h lines reaches = search (arith, nat_tests)

  moved_on : (lines : List Line) (s u : State) (c : Choice) → WellTyped p t s → Reaches p outside from lines s → IsBusy s → IsOpen p outside.refused c s →
      step p c s ≡ Goes u → Lasts s → Lasts u
  moved_on lines s u c w before busy choice e (inl h) = go (keeps_trap p t wired typed c s u w choice.name below items h e)
    where
      go : IsTrapping below items u ⊎ IsPast p below items s u → Lasts u
      go (inl on) = inl on
      go (inr off) =
          inr (record { earlier = lines; last = s; until = before; trapping = h; choice = c; after = u; move = e; past = off; lines = []; reaches = begins })
  moved_on lines s u c w before busy choice e (inr h) = inr (past_on s u h _ (moves c h.reaches busy choice e))

  turned : (observed : Observed) (s u : State) → IsBetween s → ObservesWell p outside observed s → turn p outside observed s ≡ Goes u → Lasts s → Lasts u
  turned observed s u between observes e (inl h) = absurd (none_below below (h.over, sym between.idle ∙ h.tasks))
  turned observed s u between observes e (inr h) = inr (past_on s u h _ (turns observed h.reaches between observes e))

  lasts : IsTrapping below items from → (lines : List Line) (s : State) → Reaches p outside from lines s → Lasts s
  lasts h _ _ begins = inl h
  lasts h _ _ (moves {lines = lines} {s = s} {u = u} c before busy choice e) =
      moved_on lines s u c (well_on p t outside wired typed from well lines s before).0 before busy choice e (lasts h lines s before)
  lasts h _ _ (turns {lines = lines} {s = s} {u = u} observed before between observes e) = turned observed s u between observes e (lasts h lines s before)

pub traps_keep : TrapsKeep
traps_keep = record {
  stand = stand;
  sets = sets;
  moves = keeps_trap;
  runs = λ p t outside wired typed before s reached below items h lines u r. lasts p t outside wired typed s
      (well_on p t outside wired typed (boot_state p) (boot_keeps p t wired typed, clients_keep.boot p) before s reached) below items h lines u r;
}
