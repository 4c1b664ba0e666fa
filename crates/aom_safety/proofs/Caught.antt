-- The beginning of a leave, the entry that it deals with, and its arrival, by the layers of a well-typed state.
use Rattle.std.proofs.lemmas.Bool.Decides.{nat_tests}
use Rattle.std.proofs.Common.{[], List, None, Option, Some, ap, arith, cond, false, length, pos, refl, subst, suc, sym, true, ℕ, ℤ, ◌∙◌, ◌∷◌, ◌≡◌, ◌≢◌}
use Rattle.std.proofs.lemmas.Bool.{eq-eqb, ne_eqb}
use Rattle.std.specs.Prelude.{is_some, ◌++◌}
use Rattle.aom_image.specs.Image.{Image}
use Rattle.aom_image.specs.Views.{action_at, gives_of, instr_at}
use Rattle.aom_instructions.specs.declared.action.Action.TheVariants.{Call, Push}
use Rattle.aom_instructions.specs.declared.action.CallMode.TheVariants.{Trapped as Under_trap}
use Rattle.aom_instructions.specs.declared.instr.Instr.{Instr}
use Rattle.aom_instructions.specs.declared.instr.Target.{Target}
use Rattle.aom_image.specs.declared.method.Gives.{Gives}
use Rattle.aom_image.specs.declared.method.Gives.TheVariants.{Maybe as A_maybe, Own as An_own, Word as A_word}
use Rattle.aom_roles.specs.Tests.{AllTrue}
use Rattle.aom_abstract_state.specs.Kinds.{is_unowning, register}
use Rattle.aom_abstract_state.specs.AbstractState.{AbstractState}
use Rattle.aom_typing_rules.specs.Typing.{IsTyped, Typing}
use Rattle.aom_abstract_state.specs.declared.kind.CleanupEntry.{CleanupEntry}
use Rattle.aom_safety.proofs.Claimed.{claim_entry_above, claim_going_above}
use Rattle.aom_safety.proofs.Clearing.{begins_over}
use Rattle.aom_safety.proofs.Fitting.{fits, leaves_so, off_of}
use Rattle.aom_safety.proofs.Items.{length_forms, no_mark}
use Rattle.aom_safety.proofs.Guarded.{acts_at, goes_same, guarded_goes, guarded_met}
use Rattle.aom_safety.proofs.SemanticsLemmas.{at-set_extending, held_moved, same_place-true, same_place_refl}
use Rattle.aom_safety.proofs.Straight.{claim_register, fits_unowning}
use Rattle.aom_semantics.specs.Calls.{callee_of, called, given_by, result_of, result_register}
use Rattle.aom_safety.specs.Claims.{Dispatching, Form, Layer, Mark, Mark_form, Method, Unwinding, declared, forms, items_of, objects, tasks_of}
use Rattle.aom_semantics.specs.Cleanup.{arrival, arrived, code_reported, destroyed, has_trap, operation_frame, to_trap, unwound}
use Rattle.aom_safety.specs.Laws.{IsWired}
use Rattle.aom_safety.specs.Leaves.{AreEntries, AreMethods, Arrives, ArrivesAt, Begins, HasMoved}
use Rattle.aom_safety.specs.Leaves.{HasPushed, Observes, IsBegun, IsLeaving, IsOver, LeavesWith, PushedBy}
use Rattle.aom_semantics.specs.Moves.{announcement, counted, does, needs, step, written_task}
use Rattle.aom_semantics.specs.Places.{Cell, Entry, Going, Object, Place, Register, held, moved, named, same_place, seen}
use Rattle.aom_semantics.specs.State.{A_mark, An_object, An_operation, Choice, Dispatch, Dispatched, Frame}
use Rattle.aom_semantics.specs.State.{Goes, Item, Main_left, Run, State, Task, Trapped, Unwind, next, set_word, word}
use Rattle.aom_safety.specs.WellTyped.{AllUndo, Awaits, EndsDispatch, Fits, Good, Leaves, Now, Stack, WellTyped}
use Rattle.aom_semantics.specs.Effects.{Leaves, Pushed, Update, applied}
use Rattle.aom_transcript.specs.declared.line.Ending.TheVariants.{MainLeft}
use Rattle.aom_safety.proofs.Steps.{step_keeps}

-- ---- the entries of a leave, and its mark

-- the items of some entries over a mark
split : (es : List CleanupEntry) (fs : List Form) (all : List Item) → forms all ≡ objects es (Mark_form ∷ fs) →
    (entries : List Item) × (items : List Item) × (all ≡ entries ++ (A_mark ∷ items)) × AreEntries entries
split [] fs (A_mark ∷ all) e = ([], all, refl, tt)
split (x ∷ es) fs (An_object ∷ all) e =
    let same : forms all ≡ objects es (Mark_form ∷ fs) = cc in
    let r = split es fs all same in
    (An_object ∷ r.0, r.1, ap (λ l. An_object ∷ l) r.2, r.3)
split (x ∷ es) fs (An_operation m w ∷ all) e =
    let same : forms all ≡ objects es (Mark_form ∷ fs) = cc in
    let r = split es fs all same in
    (An_operation m w ∷ r.0, r.1, ap (λ l. An_operation m w ∷ l) r.2, r.3)
split _ fs _ e = grind (arith, no_mark)

no_dispatch : {A : Type 0} (p : Image) (d : Dispatch) → EndsDispatch p d Leaves → A
no_dispatch p x e = grind arith

-- a leave on top has entries over the mark of its trap
pub splits : (p : Image) (t : Typing) (s : State) → WellTyped p t s → (code : ℤ) (below : List Task) → s.tasks ≡ Unwind code ∷ below →
    (entries : List Item) × (items : List Item) × IsLeaving p code below entries items s
splits p t s w code below at =
    let r = go w.layers (sym at ∙ w.tasks) w.items w.good.stack in
    (r.0, r.1, record { over = subst (λ ts. IsOver p (length s.items) code below ts) (sym at) (refl, refl); stack = r.2; plain = r.3 })
  where
    under : (es : List CleanupEntry) (ls : List Layer) → forms s.items ≡ objects es (items_of ls) → Stack p t s.cells Leaves ls →
        (entries : List Item) × (items : List Item) × (s.items ≡ entries ++ (A_mark ∷ items)) × AreEntries entries
    under es (Mark gv ∷ ls) f stack = split es (items_of ls) s.items f
    under es (Dispatching d owned_chain ∷ ls) f stack = no_dispatch p d stack.0
    under es _ f stack = grind arith

    go : (ls : List Layer) → Unwind code ∷ below ≡ tasks_of ls → forms s.items ≡ items_of ls → Stack p t s.cells Now ls →
        (entries : List Item) × (items : List Item) × (s.items ≡ entries ++ (A_mark ∷ items)) × AreEntries entries
    go (Unwinding x es ∷ ls) e f stack = under es ls f stack.1
    go _ e f stack = cc

-- ---- the beginning

-- a cell that moves to a place that owned nothing
has_moved : (cs : List Cell) (q g : Place) (o : Object) → held cs q ≡ Some o → held cs g ≡ None → same_place g q ≡ false → HasMoved o q g cs (moved q g cs)
has_moved cs q g o there free apart = record {
  there = there;
  here = held_moved cs q g g free ∙ ap (λ b. cond b (held cs q) (cond (same_place q g) None (held cs g))) (same_place_refl g) ∙ there;
  gone = grind (arith, nat_tests, held_moved cs q g q free, same_place_refl q);
  others = λ r n m. held_moved cs q g r free ∙ ap (λ b. cond b (held cs q) (cond (same_place q r) None (held cs r))) (differs g r m)
      ∙ ap (λ b. cond b None (held cs r)) (differs q r n);
}
  where
    differs : (x r : Place) → r ≢ x → same_place x r ≡ false
    differs x r n = grind (arith, nat_tests, same_place-true x r)

-- no entry is claimed over all items
none_pushed_yet : (p : Image) (t : Typing) (s : State) → WellTyped p t s → held s.cells (Entry (length s.items)) ≡ None
none_pushed_yet p t s w = grind (arith, nat_tests, length_forms s.items, fits_unowning p, claim_entry_above p s.cells w.layers)

-- the innermost trap, and the methods over it
pub record Trapping (ts : List Task) : Type 0 where
  pub methods : List Task
  pub below : List Task
  pub all : ts ≡ methods ++ (Trapped ∷ below)
  pub over : AreMethods methods
  pub lands : to_trap ts ≡ Trapped ∷ below

trapping : (ts : List Task) → has_trap ts ≡ true → Trapping ts
trapping (Run fr ∷ ts) e = let r = trapping ts e in
    record { methods = Run fr ∷ r.methods; below = r.below; all = ap (λ l. Run fr ∷ l) r.all; over = r.over; lands = r.lands }
trapping (Trapped ∷ ts) e = record { methods = []; below = ts; all = refl; over = tt; lands = refl }
trapping _ e = cc

is_there : {A : Type 0} (x : Option A) → is_some x ≡ true → (y : A) × (x ≡ Some y)
is_there x e = grind arith

module _ (p : Image) (t : Typing) (c : Choice) (fr : Frame) (ts : List Task) (s u : State) (has_task : s.tasks ≡ Run fr ∷ ts) (w : WellTyped p t s)
    (keeps : WellTyped p t u) where
  -- the leave is at hand over the innermost trap
  begins_at : (i : Instr) (code : ℤ) (off : Update) → has_trap ts ≡ true → applied p fr ts (counted p s) (Leaves code off) ≡ u →
      HasPushed fr (length ts) i s (applied p fr ts (counted p s) (Leaves code off)) → Begins p code fr (length ts) i s u
  begins_at i code off trap e on =
      let r = trapping ts trap in
      let top : u.tasks ≡ Unwind code ∷ Trapped ∷ r.below = sym (ap (λ x. x.tasks) e) ∙ ap (λ l. Unwind code ∷ l) r.lands in
      let found = splits p t u keeps code (Trapped ∷ r.below) top in
      record {
        methods = Run fr ∷ r.methods;
        below = r.below;
        tasks = has_task ∙ ap (λ l. Run fr ∷ l) r.all;
        over = r.over;
        entries = found.0;
        items = found.1;
        leaving = found.2;
        top = top;
        pushed = subst (λ x. HasPushed fr (length ts) i s x) e on;
      }

  -- the object of a register comes to an entry over all others
  object_pushed : (a : ℕ) (code : ℤ) → is_some (held s.cells (Register (length ts) a)) ≡ true →
      PushedBy fr (length ts) (Push a) s (applied p fr ts (counted p s) (Leaves code (Pushed a)))
  object_pushed a code some =
      let o = is_there (held s.cells (Register (length ts) a)) some in
      (o.0, has_moved s.cells (Register (length ts) a) (Entry (length s.items)) o.0 o.1 (none_pushed_yet p t s w) refl, refl)

  -- what was to be pushed is pushed
  pushes : (i : Instr) (code : ℤ) → AllTrue (needs p c fr ts (counted p s) i) →
      HasPushed fr (length ts) i s (applied p fr ts (counted p s) (Leaves code (off_of p c fr ts (counted p s) i)))
  pushes x code n = grind (arith, nat_tests, is_there, object_pushed)

  pub begins_by : (i : Instr) (code : ℤ) → LeavesWith c fr i code → AllTrue (needs p c fr ts (counted p s) i) → does p c fr ts (counted p s) i ≡ u →
      Begins p code fr (length ts) i s u
  begins_by i code h n e = grind (arith, nat_tests, leaves_so p c fr ts, fits p c fr ts, begins_at i code, off_of p c fr ts, pushes i code n)

pub begins : (p : Image) (t : Typing) → IsWired p →
    IsTyped p t → (c : Choice) (s u : State) → WellTyped p t s → named s.cells c.name ≡ None → (fr : Frame) (ts : List Task) (i : Instr) (code : ℤ) →
    s.tasks ≡ Run fr ∷ ts → instr_at p fr.method fr.place ≡ Some i → LeavesWith c fr i code → step p c s ≡ Goes u → Begins p code fr (length ts) i s u
begins p t wired typed c s u w unused fr ts i code at there h e =
    grind (arith, nat_tests, acts_at p c s u fr ts i at there e, begins_by p t c fr ts s u at w, step_keeps p t wired typed c s w unused)

-- ---- the entry that is dealt with

-- no cell is on its way to a place over all tasks
none_on_its_way : (p : Image) (t : Typing) (s : State) → WellTyped p t s → (ts : List Task) → s.tasks ≡ ts → held s.cells (Going (length ts)) ≡ None
none_on_its_way p t s w ts at = grind (arith, nat_tests, fits_unowning p, claim_going_above p s.cells w.layers)

module _ (p : Image) (t : Typing) (wired : IsWired p) (s u : State) (w : WellTyped p t s) (code : ℤ) (below : List Task)
    (has_task : s.tasks ≡ Unwind code ∷ below) where
  -- what is made of the item on top, with these below it
  abbrev Dealt : Item → List Item → State → Type 0
  Dealt i rest v = IsOver p (length v.items) code below v.tasks × (v.items ≡ rest) × IsBegun p (Unwind code ∷ below) i (length rest) s v

  of_object : (rest : List Item) → is_some (held s.cells (Entry (length rest))) ≡ true →
      Dealt An_object rest (destroyed p (held s.cells (Entry (length rest))) rest (Unwind code ∷ below) (counted p s))
  of_object rest some =
      let o = is_there (held s.cells (Entry (length rest))) some in
      let g = Going (length (Unwind code ∷ below)) in
      let free = none_on_its_way p t s w (Unwind code ∷ below) has_task in
      rw o.1 (
        begins_over p wired o.0 (length rest) code below (Unwind code ∷ below) (refl, refl),
        refl,
        (o.0, has_moved s.cells (Entry (length rest)) g o.0 o.1 free refl, grind (arith, nat_tests, below)),
      )

  of_item : AllUndo p s.items → (i : Item) (rest es : List Item) → s.items ≡ i ∷ rest → AreEntries (i ∷ es) →
      unwound p code below (counted p s) (i ∷ rest) ≡ Goes u → Dealt i rest u
  of_item undo_operations (An_operation m x) rest es same plain e =
      let fr = operation_frame m x (length rest) in
      let undo = subst (λ l. AllUndo p l) same undo_operations in
      subst (λ v. Dealt (An_operation m x) rest v) (goes_same (record (counted p s) { tasks = Run fr ∷ Unwind code ∷ below; items = rest }) u e)
      ((undo.0.quiet, refl, (refl, refl)), refl, (fr, refl, refl, refl, refl, refl))
  of_item undo_operations x rest es same plain e = grind (arith, nat_tests, guarded_goes, of_object rest, guarded_met)

others : (i : Item) (rest : List Item) → AreEntries (i ∷ rest) → AreEntries rest
others x rest h = grind arith

pub deals : (p : Image) (t : Typing) → IsWired p → (c : Choice) (s u : State) → WellTyped p t s → (code : ℤ)
    (below : List Task) (i : Item) (rest items : List Item) → IsLeaving p code below (i ∷ rest) items s → s.tasks ≡ Unwind code ∷ below → step p c s ≡ Goes u →
    IsLeaving p code below rest items u × IsBegun p (Unwind code ∷ below) i (length (rest ++ (A_mark ∷ items))) s u
deals p t wired c s u w code below i rest items l at e =
    let all = rest ++ (A_mark ∷ items) in
    let e' : unwound p code below (counted p s) (i ∷ all) ≡ Goes u = grind (arith, nat_tests, below) in
    let d = of_item p t wired s u w code below at w.undo_operations i all rest l.stack l.plain e' in
    (record { over = d.0; stack = d.1; plain = others i rest l.plain }, d.2)

-- ---- the arrival

pub own_word : (fr : Frame) (a : ℕ) (w : Option ℤ) → word (set_word fr a w) a ≡ w
own_word fr a w = at-set_extending None fr.words a a w ∙ ap (λ b. cond b w (word fr a)) (eq-eqb a a refl)

other_word : (fr : Frame) (a r : ℕ) (w : Option ℤ) → a ≢ r → word (set_word fr a w) r ≡ word fr r
other_word fr a r w differs = at-set_extending None fr.words a r w ∙ ap (λ b. cond b w (word fr r)) (ne_eqb a r differs)

-- the frame that hears of a leave: its words
module _ (c : ℕ) (code : ℤ) (fr : Frame) where
  next_register : suc c ≢ c
  next_register e = absurd (omega (arith, e))

  reported_code : (g : Gives) → word (code_reported g c code fr) (suc c) ≡ Some code
  reported_code A_word = own_word (set_word fr c (Some (pos 0))) (suc c) (Some code)
  reported_code (An_own t) = own_word (set_word fr c None) (suc c) (Some code)
  reported_code (A_maybe t) = own_word (set_word fr c None) (suc c) (Some code)
  reported_code _ = own_word fr (suc c) (Some code)

  reported_both : (w : Option ℤ) (r : ℕ) → c ≢ r → suc c ≢ r → word (set_word (set_word fr c w) (suc c) (Some code)) r ≡ word fr r
  reported_both w r n m = other_word (set_word fr c w) (suc c) r (Some code) m ∙ other_word fr c r w n

  reported_first : (w : Option ℤ) → word (set_word (set_word fr c w) (suc c) (Some code)) c ≡ w
  reported_first w = other_word (set_word fr c w) (suc c) c (Some code) next_register ∙ own_word fr c w

  pub reported_frame : (g : Gives) → record (next (code_reported g c code fr)) { words = fr.words } ≡ next fr
  reported_frame x = grind arith

  observes : (g : Gives) (cs : List Cell) (depth : ℕ) (sh : AbstractState) → Awaits g c sh → is_unowning (register sh (suc c)) ≡ true →
      ((r : ℕ) → is_unowning (register sh r) ≡ true → held cs (Register depth r) ≡ None) → Observes code g c cs depth fr (next (code_reported g c code fr))
  observes g cs depth sh a unowning free = search (arith, nat_tests, reported_code g, other_word, next_register, reported_first, others, reported_both, reported_frame g)

module _ (p : Image) (t : Typing) (s u : State) (code : ℤ) (items : List Item) where
  -- where it arrives, and what stays
  abbrev Arrived : List Task → State → Type 0
  Arrived below v = ArrivesAt p code below v × (v.items ≡ items) × (v.cells ≡ s.cells)

  -- at the method that set the trap, where its registers wait
  at_method : (fr : Frame) (sh : AbstractState) (ls : List Layer) (gv : Gives) (es : List CleanupEntry) →
      Good p t s.cells (Unwinding code es ∷ Mark gv ∷ Method fr sh ∷ ls) → Arrived (Trapped ∷ Run fr ∷ tasks_of ls) (record (counted p s) {
        tasks = Run (next (code_reported (called p (instr_at p fr.method fr.place)) (result_register (instr_at p fr.method fr.place)) code fr)) ∷ tasks_of ls;
        items = items;
      })
  at_method fr sh ls gv es good =
      let i = instr_at p fr.method fr.place in
      ((next (code_reported (called p i) (result_register i) code fr), refl, λ target m first c there. by_trap target m first c there), refl, refl)
    where
      free : (r : ℕ) → is_unowning (register sh r) ≡ true → held s.cells (Register (length (tasks_of ls)) r) ≡ None
      free r unowning =
          fits_unowning p (seen s.cells) _ (register sh r) unowning (subst (λ k. Fits p (seen s.cells) (held s.cells (Register (length (tasks_of ls)) r)) k)
          (claim_register p (declared p s.cells) fr sh ls r) (good.fits (Register (length (tasks_of ls)) r)))

      waits : (called p (instr_at p fr.method fr.place) ≡ gv) × (is_unowning (register sh (suc (result_register (instr_at p fr.method fr.place)))) ≡ true) ×
          Awaits gv (result_register (instr_at p fr.method fr.place)) sh
      waits = (good.stack.1.1.0.0, good.stack.1.1.0.1, good.stack.1.1.0.2)

      by_trap : (target : Target) (m first c : ℕ) → action_at p fr.method fr.place ≡ Some (Call Under_trap target m first c) → Observes code (gives_of p m) c s.cells
          (length (tasks_of ls)) fr (next (code_reported (called p (instr_at p fr.method fr.place)) (result_register (instr_at p fr.method fr.place)) code fr))
      by_trap target m first c there = let w =
          subst (λ a. (given_by p (callee_of a) ≡ gv) × (is_unowning (register sh (suc (result_of a))) ≡ true) × Awaits gv (result_of a) sh) there waits in
          subst (λ a. Observes code (gives_of p m) c s.cells (length (tasks_of ls)) fr (next (code_reported (given_by p (callee_of a)) (result_of a) code fr))) (sym there)
          (observes c code fr (gives_of p m) s.cells (length (tasks_of ls)) sh (subst (λ g. Awaits g c sh) (sym w.0) w.2) w.1 free)

  below_trap : (ls : List Layer) (gv : Gives) (es : List CleanupEntry) → Good p t s.cells (Unwinding code es ∷ Mark gv ∷ ls) →
      arrived p code (Trapped ∷ tasks_of ls) items (counted p s) ≡ Goes u → Arrived (Trapped ∷ tasks_of ls) u
  below_trap (Method fr sh ∷ ls) gv es good e = subst (λ v. Arrived (Trapped ∷ Run fr ∷ tasks_of ls) v) (goes_same _ u e) (at_method fr sh ls gv es good)
  below_trap x gv es good e = grind (arith, nat_tests, goes_same)

  below_leave : (ls : List Layer) (es : List CleanupEntry) → Good p t s.cells (Unwinding code es ∷ ls) →
      arrived p code (tasks_of ls) items (counted p s) ≡ Goes u → Arrived (tasks_of ls) u
  below_leave (Mark gv ∷ ls) es good e = below_trap ls gv es good e
  below_leave (Dispatching d owned_chain ∷ ls) es good e = no_dispatch p d good.stack.1.0
  below_leave _ es good e = grind arith

  by_layers : (below : List Task) (ls : List Layer) → tasks_of ls ≡ Unwind code ∷ below → Good p t s.cells ls →
      arrived p code below items (counted p s) ≡ Goes u → Arrived below u
  by_layers below (Unwinding x es ∷ ls) at good e = grind (arith, nat_tests, below, below_leave ls es)
  by_layers below _ at good e = cc

pub arrives : (p : Image) (t : Typing) (c : Choice) (s u : State) → WellTyped p t s → (code : ℤ) (below : List Task) (items : List Item) →
    IsLeaving p code below [] items s → s.tasks ≡ Unwind code ∷ below → step p c s ≡ Goes u → Arrives p code below items s u
arrives p t c s u w code below items l at e =
    let e' : arrived p code below items (counted p s) ≡ Goes u = grind (arith, nat_tests, below) in
    let r = by_layers p t s u code items below w.layers (sym w.tasks ∙ at) w.good e' in
    record {
      place = r.0;
      under = r.1;
      cells = r.2;
      line = ap (λ ts. announcement s.rest ++ written_task p s ts) at ∙ ap (λ is. announcement s.rest ++ arrival code is) l.stack;
    }

-- main's dispatch ends with the code
pub ends : (p : Image) (c : Choice) (s u : State) (code : ℤ) (ts : List Task) → s.tasks ≡ Dispatched (Main_left code) ∷ ts → step p c s ≡ Goes u →
    (u.tasks ≡ []) × (u.rest.ended ≡ Some (MainLeft code))
ends p c s u code ts at e = grind (arith, nat_tests, goes_same)
