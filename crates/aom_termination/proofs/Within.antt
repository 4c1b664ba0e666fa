-- Every move pays for the steps that it is, and so each dispatch keeps within what is declared.
use Rattle.std.proofs.lemmas.Bool.Decides.{nat_tests}
use Rattle.std.proofs.lemmas.Option.{same_Some}
use Rattle.std.proofs.Common.{◌≡◌, ◌<◌, ◌≤◌, ◌+◌, ◌∙◌, ◌^◌, slice_get, ℕ, ℤ, Bool, true, false, cond, List}
use Rattle.std.proofs.Common.{[], ◌∷◌, length, Option, Some, None, refl, sym, ap, arith, subst, suc}
use Rattle.aom_image.specs.Image.{Image}
use Rattle.aom_image.specs.Views.{instr_at}
use Rattle.aom_image.specs.WellFormed.{ClassFits, WellFormed}
use Rattle.aom_instructions.specs.declared.instr.Instr.{Instr}
use Rattle.aom_image.specs.declared.class.ClassDecl.{ClassDecl}
use Rattle.aom_image.specs.declared.method.Role.{Role}
use Rattle.aom_image.specs.Views.{class_at}
use Rattle.aom_link_conditions.specs.Roles.{role_of}
use Rattle.aom_termination.proofs.LinkConditionsLemmas.{all_there, of_method, role_inherits}
use Rattle.aom_link_conditions.specs.Linked.{IsLinked}
use Rattle.aom_link_conditions.specs.Roles.{main_of}
use Rattle.aom_abstract_state.specs.Kinds.{filled}
use Rattle.aom_abstract_state.specs.AbstractState.{AbstractState}
use Rattle.aom_roles.specs.Things.{root_thing}
use Rattle.aom_typing_rules.specs.Typing.{IsTyped, Typing}
use Rattle.aom_abstract_state.specs.declared.kind.FieldState.TheVariants.{Perhaps}
use Rattle.aom_termination.proofs.SafetyLemmas.{At, WellKept, acted, boot_keeps, clients_keep, dispatch_layer, found_first, linked_is_wired, linked_main_of_none}
use Rattle.aom_termination.proofs.SafetyLemmas.{method_layer, steps_are_counted, steps_are_moves, well_on}
use Rattle.aom_safety.specs.Claims.{Dispatching, Layer, Method, forms, items_of, tasks_of, declared}
use Rattle.aom_safety.specs.Counting.{ends_object, restarts, starts, steps_of, taken}
use Rattle.aom_semantics.specs.Destruction.{begun, first_session, parting, reclaimed}
use Rattle.aom_semantics.specs.Effects.{effect}
use Rattle.aom_safety.specs.Laws.{IsWired}
use Rattle.aom_semantics.specs.Moves.{answered, counted, dispatch_ends, main_ends, object_ends, step, step_task}
use Rattle.aom_semantics.specs.Places.{Elsewhere, Entry, Going, Object, Place, Root, Session, held, moved, same_place, seen, service_of}
use Rattle.aom_semantics.specs.State.{An_object, Choice, Destroy, Dispatch, Dispatched, Frame, Goes, Item}
use Rattle.aom_semantics.specs.State.{Run, OwnedObject, State, Task, Trapped, Unwind, Closing}
use Rattle.aom_safety.specs.Steps.{Acts, Arrives, Clears, Comes_out, Ends, Move, Rests, Undoes, Reclaims, IsStill, Empties}
use Rattle.aom_safety.specs.WellTyped.{Fits, Good, WellTyped}
use Rattle.aom_semantics.specs.World.{Observed, Reaches, begins, boot_state, main_tasks, moves, turn, turning, turns, Environment}
use Rattle.aom_transcript.specs.declared.line.Line.{Line}
use Rattle.aom_termination.proofs.RankTerms.{resumed_alike, reported_alike}
use Rattle.aom_static_bounds.specs.Layers.{ArePricesUpTo}
use Rattle.aom_static_bounds.specs.Prices.{IsPriced, Prices, Stands, perhaps_price}
use Rattle.aom_static_bounds.specs.Dispatches.{IsAffordable, main_price, root_price}
use Rattle.aom_termination.specs.Laws.{BootWithin, KeepsBudget, MovesPay, StepsWithin}
use Rattle.aom_termination.specs.Left.{WithinBudget, left, objects_left, operations_left, tasks_left}
use Rattle.aom_termination.specs.Left.{waiting_left, closing_left, closings_left, is_entry, is_session_with}
use Rattle.aom_termination.specs.BudgetOwners.{AffordsObjects, class_budget, declared_of, budget_owner, price_of}
use Rattle.aom_termination.proofs.Covering.{covers}
use Rattle.aom_termination.proofs.Paying.{begun_left, fresh_rounds, pays, destructed_left}
use Rattle.aom_termination.proofs.Pushed.{leaves_place, moved_less, without_less, each_slot_released_same, queue_less, served_same}
use Rattle.aom_termination.proofs.Counted.{none_counted, steps_counted}
use Rattle.aom_termination.proofs.Emptied.{none_at_end}
use Rattle.aom_termination.proofs.BudgetOwners.{budget_owners}
use Rattle.aom_termination.proofs.Turns.{turns_pay}
use Rattle.aom_termination.proofs.ImageLemmas.{some_given}
use Rattle.std.proofs.Math.Nat.{le-max_left, le-max_right}
use Rattle.std.proofs.lemmas.Bool.{eq-eqb}
use Rattle.aom_safety.specs.Kept.{StateInvariant}
use Rattle.aom_termination.proofs.Lasting.{IsApart, going_apart, lasting, lasts_below, lasts_gone, lasts_moved, resumed_closings}
use Rattle.aom_termination.proofs.Sessions.{FewOwnedObjects, stands_at_going}

-- ---- every move

module _ (p : Image) (t : Typing) (c : Prices) (linked : IsLinked p) (typed : IsTyped p t) (priced : IsPriced p t c) (ch : Choice) (s : State)
    (w : WellTyped p t s) (few : FewOwnedObjects p s.cells) where
  -- the state with these tasks
  abbrev all_left : List Task → ℕ
  all_left ts = tasks_left p c ts + closings_left p c s.cells ts + (objects_left c s.cells + operations_left c s.items)

  -- ---- an instruction

  abbrev ActsPay : Frame → List Task → Type 0
  ActsPay fr ts = (i : Instr) (u : State) → instr_at p fr.method fr.place ≡ Some i → step_task p ch (counted p s) (Run fr ∷ ts) ≡ Goes u →
      1 + left p c u ≤ all_left (Run fr ∷ ts)

  acts_there : (fr : Frame) (sh : AbstractState) (ls : List Layer) →
      s.tasks ≡ Run fr ∷ tasks_of ls → forms s.items ≡ items_of (Method fr sh ∷ ls) → Good p t s.cells (Method fr sh ∷ ls) → ActsPay fr (tasks_of ls)
  acts_there fr sh ls tasks items good i u there goes =
      let ts = tasks_of ls in
      let m = of_method p fr.method fr.place i there in
      let x = typed.each fr.method fr.place sh good.stack.0 in
      let rule = rw (same_Some x.instr i (sym x.stands ∙ there)) at x.needs in
      let it : Stands p t fr.method fr.place sh i = record { shape = good.stack.0; instr = there } in
      let has_task : At p t (counted p s) fr sh ls = record { tasks = tasks; items = items; undo_operations = w.undo_operations; good = good } in
      let a = acted p ch (counted p s) u fr ts i (rw there at goes) in
      let covered = covers p t c (linked_main_of_none p linked) priced ch (counted p s) fr sh ls has_task i it rule in
      rw a.2 (pays p t c linked priced ch (counted p s) fr sh ls has_task few m.0 m.1 i m.2 it (effect p ch fr ts (counted p s) i) a.1 covered)

  acts : (ls : List Layer) → s.tasks ≡ tasks_of ls → forms s.items ≡ items_of ls → Good p t s.cells ls → (fr : Frame) (ts : List Task) →
      tasks_of ls ≡ Run fr ∷ ts → ActsPay fr ts
  acts ls tasks items good fr ts at = method_layer (λ ls. (s.tasks ≡ tasks_of ls) × (forms s.items ≡ items_of ls) × Good p t s.cells ls) fr ts
      ls at (tasks, items, good) (λ sh ls below h. subst (λ l. ActsPay fr l) below (acts_there fr sh ls h.0 h.1 h.2))

  -- ---- the others

  still_none : (ts : List Task) → IsStill ts → steps_of ts ≡ 0
  still_none ts still = grind arith

  -- a destruction begins over these tasks, and no more goes before servers
  destruction : (o : Object) (from : Place) (height : ℕ) (below : List Task) → held s.cells from ≡ Some o → s.tasks ≡ below →
      ((depth : ℕ) → IsApart depth from) → tasks_left p c (begun p o height below) + closings_left p c (moved from (Going (length below)) s.cells)
      (begun p o height below) ≤ c.destruction o.thing + (waiting_left p c below + closings_left p c (moved from (Going (length below)) s.cells) below)
  destruction o from height below there at apart =
      grind (arith, nat_tests, begun_left p t c priced o height below, stands_at_going p t c priced s.cells w.layers w.good few o from)

  passed_on : (from : Place) (below : List Task) → ((depth : ℕ) → IsApart depth from) →
      closings_left p c (moved from (Going (length below)) s.cells) below ≤ closings_left p c s.cells below
  passed_on from below apart = grind (arith, nat_tests, lasting p c s.cells, lasts_moved, going_apart)

  -- what a leave deals with was paid for as it was pushed
  clears : (code : ℤ) (ts : List Task) (items : List Item) (o : Object) →
      s.tasks ≡ Unwind code ∷ ts → s.items ≡ An_object ∷ items → held s.cells (Entry (length items)) ≡ Some o → left p c (record (counted p s)
      { cells = moved (Entry (length items)) (Going (length (Unwind code ∷ ts))) s.cells; tasks = begun p o (length items) (Unwind code ∷ ts); items = items })
      ≤ all_left (Unwind code ∷ ts)
  clears code ts items o at top there =
      let begins = destruction o (Entry (length items)) (length items) (Unwind code ∷ ts) there at (λ depth k lt. refl) in
      let cells = leaves_place c is_entry (Entry (length items)) (Going (length (Unwind code ∷ ts))) o s.cells refl refl there in
      let same : operations_left c s.items ≡ operations_left c items = ap (λ l. operations_left c l) top in
      omega (arith, begins, passed_on (Entry (length items)) (Unwind code ∷ ts) (λ depth k lt. refl), cells, same)

  -- a server that goes lets go of a session that was counted before it, or begins its destructor
  lets_go : (ts : List Task) (o : Object) (x : OwnedObject) (client : ℕ) → x.place ≡ Elsewhere (Session o.name client) →
      held s.cells x.place ≡ Some x.object → s.tasks ≡ Closing ∷ Destroy ∷ ts → held s.cells (Going (length ts)) ≡ Some o →
      left p c (parting p o (Some x) ts (counted p s)) ≤ all_left (Closing ∷ Destroy ∷ ts)
  lets_go ts o x client place there at server =
      let below = Closing ∷ Destroy ∷ ts in
      let us = moved x.place (Going (length below)) s.cells in
      let apart : ((depth : ℕ) → IsApart depth x.place) = λ depth k lt. ap (λ q. same_place q (Going k)) place in
      let begins = destruction x.object x.place (length s.items) below there at apart in
      let lasts = lasts_moved (suc (length ts)) x.place (Going (length below)) s.cells (apart (suc (length ts)))
      (going_apart (suc (length ts)) (length below) (omega arith)) (λ n. refl) in
      let below_us = ap (λ y. closing_left p c us y) (lasts.going (length ts) (omega arith) ∙ server) in
      let below_now = ap (λ y. closing_left p c s.cells y) server in
      let fewer = leaves_place c (is_session_with o.name) x.place (Going (length below)) x.object s.cells
      (ap (is_session_with o.name) place ∙ eq-eqb o.name o.name refl) refl there in
      let others = lasting p c s.cells us ts (lasts_below (length ts) (suc (length ts)) s.cells us (omega arith) lasts) in
      omega (arith, begins, below_us, below_now, fewer, others, moved_less c is_entry x.place (Going (length below)) s.cells refl)

  empties : (ts : List Task) (o : Object) (x : Option OwnedObject) → s.tasks ≡ Closing ∷ Destroy ∷ ts → held s.cells (Going (length ts)) ≡ Some o →
      first_session s.cells o.name (service_of s.cells o.name).sessions ≡ x → left p c (parting p o x ts (counted p s)) ≤ all_left (Closing ∷ Destroy ∷ ts)
  empties ts o None at server first = omega (arith, destructed_left p c o (length s.items) ts s.cells, ap (λ y. closing_left p c s.cells y) server)
  empties ts o (Some x) at server first =
      let found = found_first s.cells o.name (service_of s.cells o.name).sessions x first in
      lets_go ts o x found.client found.place found.there at server

  -- a cell goes, and what waits in its queue
  reclaims : (ts : List Task) (o : Object) → 1 + left p c (reclaimed o ts (counted p s)) ≤ all_left (Destroy ∷ ts)
  reclaims ts o =
      grind (arith, nat_tests, lasting p c s.cells, lasts_gone, resumed_alike, resumed_closings p c, each_slot_released_same c, without_less c, queue_less c)

  -- the root is of its declared class
  root_pays : (o : Object) (root : Option ℕ) → Fits p (seen s.cells) (Some o) (filled (root_thing root 0) Perhaps) → c.destruction o.thing ≤ root_price c root
  root_pays o root f = grind (arith, nat_tests, some_given)

  -- what is pushed, and the root's destruction, which main's end may begin
  main_left_over : (d : Dispatch) (owned_chain : List OwnedObject) → Good p t s.cells (Dispatching d owned_chain ∷ []) → (b : Bool) (o : Option Object) (v : State) →
      v.cells ≡ s.cells → v.items ≡ s.items → held s.cells (Elsewhere Root) ≡ o → Fits p (seen s.cells) o (filled (root_thing p.header.root 0) Perhaps) →
      left p c (main_ends p b o v) ≤ root_price c p.header.root + (objects_left c s.cells + operations_left c s.items)
  main_left_over d owned_chain last true (Some o) v same alike there f = grind (
    arith,
    nat_tests,
    stands_at_going p t c priced s.cells (Dispatching d owned_chain ∷ []) last few o (Elsewhere Root) 1 there,
    begun_left p t c priced o,
    moved_less c,
    root_pays o p.header.root f,
  )
  main_left_over d owned_chain last x o v same alike there f = grind arith

  -- a dispatch that ends stands alone
  abbrev Alone : Dispatch → Type 0
  Alone d = (owned_chain : List OwnedObject) × Good p t s.cells (Dispatching d owned_chain ∷ []) × (forms s.items ≡ items_of (Dispatching d owned_chain ∷ []))

  alone : (d : Dispatch) (ts : List Task) → s.tasks ≡ Dispatched d ∷ ts → Alone d
  alone d ts at = dispatch_layer (λ ls. Good p t s.cells ls × (forms s.items ≡ items_of ls)) d ts w.layers (sym w.tasks ∙ at) (w.good, w.items)
      (λ owned_chain below under last.
      let both = subst (λ b. Good p t s.cells (Dispatching d owned_chain ∷ b) × (forms s.items ≡ items_of (Dispatching d owned_chain ∷ b))) last.0.stack.1 last in
      (owned_chain, both.0, both.1))

  -- the method that is asked was paid for
  of_dispatch : (d : Dispatch) (ts : List Task) → s.tasks ≡ Dispatched d ∷ ts → ends_object p d ≡ false →
      left p c (dispatch_ends p d (counted p s)) ≤ all_left (Dispatched d ∷ ts)
  of_dispatch x ts at goes_on = grind (arith, nat_tests, alone, main_left_over, fresh_rounds, without_less, served_same)

  -- ---- the dispatch of an object ends

  -- main's price has the root's destruction in it
  module _ (d : Dispatch) (owned_chain : List OwnedObject) (last : Good p t s.cells (Dispatching d owned_chain ∷ [])) (items : forms s.items ≡ items_of (Dispatching d owned_chain ∷ []))
      (root : Fits p (seen s.cells) (held s.cells (Elsewhere Root)) (filled (root_thing p.header.root 0) Perhaps)) where
    object_left_over : left p c (object_ends p (counted p s)) ≤ main_price p c
    object_left_over = grind (arith, nat_tests, none_at_end c p t s.cells s.items d owned_chain last items, main_left_over d owned_chain last s.rest.stopped)

    answer_left_over : (answer : ℤ) → left p c (answered p answer (counted p s)) ≤ main_price p c
    answer_left_over answer = grind (arith, nat_tests, object_left_over, none_at_end c p t s.cells s.items d owned_chain last items)

  -- no other move counts steps anew
  restart_pays : (u : State) → Move p ch s u → restarts p s.tasks ≡ true → left p c u ≤ main_price p c
  restart_pays u x ends = grind (arith, nat_tests, alone, object_left_over, answer_left_over)

  -- ---- the kinds of moves

  by : (ts : List Task) (u v : State) → s.tasks ≡ ts → u ≡ v → steps_of ts + left p c v ≤ all_left ts → steps_of s.tasks + left p c u ≤ left p c s
  by ts u v at same pays = grind (arith, nat_tests, pays)

  move_pays : (u : State) → step p ch s ≡ Goes u → Move p ch s u → restarts p s.tasks ≡ false → steps_of s.tasks + left p c u ≤ left p c s
  move_pays u goes (Rests still same) goes_on = by s.tasks u _ refl same (omega (arith, still_none s.tasks still))
  move_pays u goes (Acts fr ts i e at there met fits same) goes_on = grind (arith, nat_tests, by, acts)
  move_pays u goes (Reclaims ts o at there owns same) goes_on = by (Destroy ∷ ts) u _ at same (reclaims ts o)
  move_pays u goes (Empties ts o at there same) goes_on = grind (arith, nat_tests, by (Closing ∷ Destroy ∷ ts) u, empties ts o)
  move_pays u goes (Clears code ts items o at top there same) goes_on = by (Unwind code ∷ ts) u _ at same (omega (arith, clears code ts items o at top there))
  move_pays u goes (Undoes code ts items m x at top same) goes_on = grind (arith, nat_tests, by (Unwind code ∷ ts) u, fresh_rounds c m)
  move_pays u goes (Arrives code fr ts items at top same) goes_on = grind (arith, nat_tests, by (Unwind code ∷ Trapped ∷ Run fr ∷ ts) u, reported_alike)
  move_pays u goes (Comes_out code d ts items at top same) goes_on = grind (arith, nat_tests, by (Unwind code ∷ Trapped ∷ Dispatched d ∷ ts) u)
  move_pays u goes (Ends d ts at same) goes_on = grind (arith, nat_tests, by, of_dispatch)

-- ---- the laws

pub boot_within : BootWithin
boot_within p c = grind (arith, nat_tests, fresh_rounds c)

step_pays : (p : Image) (t : Typing) (c : Prices) → IsLinked p → IsTyped p t → IsPriced p t c →
    (ch : Choice) (s u : State) → WellTyped p t s → StateInvariant p s → step p ch s ≡ Goes u → restarts p s.tasks ≡ false → steps_of s.tasks + left p c u ≤ left p c s
step_pays p t c linked typed priced ch s u w kept goes = move_pays p t c linked typed priced ch s w kept.fit.owned_chain u goes (steps_are_moves p ch s u goes)

restart_left : (p : Image) (t : Typing) (c : Prices) → IsLinked p → IsTyped p t →
    IsPriced p t c → (ch : Choice) (s u : State) → WellTyped p t s → StateInvariant p s → step p ch s ≡ Goes u → restarts p s.tasks ≡ true → left p c u ≤ main_price p c
restart_left p t c linked typed priced ch s u w kept goes = restart_pays p t c linked typed priced ch s w kept.fit.owned_chain u (steps_are_moves p ch s u goes)

pub moves_pay : MovesPay
moves_pay = record {
  pays = step_pays;
  restarts_pay = restart_left;
  budget_owners = budget_owners;
  within = λ p t c linked typed priced ch s u w kept goes n enough h. go p t c linked typed priced ch s u w kept goes n h (restarts p s.tasks) refl enough;
}
  where
    go : (p : Image) (t : Typing) (c : Prices) →
        IsLinked p → IsTyped p t → IsPriced p t c → (ch : Choice) (s u : State) → WellTyped p t s → StateInvariant p s → step p ch s ≡ Goes u →
        (n : ℕ) → WithinBudget p c n s → (b : Bool) → restarts p s.tasks ≡ b → (restarts p s.tasks ≡ true → main_price p c ≤ n) → WithinBudget p c n u
    go p t c linked typed priced ch s u w kept goes n h true ends enough = record {
      within = omega (arith, restart_left p t c linked typed priced ch s u w kept goes ends, none_counted p ch s u goes ends, enough ends);
    }
    go p t c linked typed priced ch s u w kept goes n h false on enough = record {
      within = omega (arith, step_pays p t c linked typed priced ch s u w kept goes on, steps_counted p ch s u goes on, h.within);
    }

module _ (p : Image) (t : Typing) (c : Prices) (outside : Environment) (formed : WellFormed p) (linked : IsLinked p) (typed : IsTyped p t)
    (priced : IsPriced p t c) where
  wired : IsWired p
  wired = linked_is_wired p formed linked

  well : {lines : List Line} {s : State} → Reaches p outside (boot_state p) lines s → WellKept p t s
  well {lines = lines} {s = s} reached = well_on p t outside wired typed (boot_state p) (boot_keeps p t wired typed, clients_keep.boot p) lines s reached

  -- within the price of what pays at that state
  abbrev Within : ℕ → State → Type 0
  Within n s = n + left p c s ≤ price_of p c (budget_owner s.tasks)

  -- with a move: what was taken is taken still, or steps are counted anew
  moves_on : (s u : State) (ch : Choice) (n : ℕ) → WellKept p t s → step p ch s ≡ Goes u → Within n s → (b : Bool) → restarts p s.tasks ≡ b →
      Within (cond b 0 (n + steps_of s.tasks)) u
  moves_on s u ch n w goes h true ends = grind (arith, nat_tests, budget_owners p ch s u goes, restart_left p t c linked typed priced ch s u w.0 w.1 goes ends)
  moves_on s u ch n w goes h false on = grind (arith, nat_tests, budget_owners p ch s u goes, step_pays p t c linked typed priced ch s u w.0 w.1 goes on)

  -- and with a turn
  turns_on : (observed : Observed) (s u : State) (n : ℕ) →
      WellTyped p t s → s.tasks ≡ [] → turn p outside observed s ≡ Goes u → Within n s → (b : Bool) → starts (turning outside observed s) ≡ b → Within (cond b 0 n) u
  turns_on observed s u n w idle goes h true begun = omega (arith, turns_pay.begins p t c formed linked priced outside observed s u w idle goes begun)
  turns_on observed s u n w idle goes h false on =
      let passed = turns_pay.passes p c outside observed s u idle goes on in
      omega (arith, h, passed.1, ap (λ ts. price_of p c (budget_owner ts)) (passed.0 ∙ sym idle))

  by_main : (m : Option ℕ) → budget_owner (main_tasks m) ≡ None
  by_main x = grind arith

  stays : {lines : List Line} {s : State} (reached : Reaches p outside (boot_state p) lines s) → Within (taken reached) s
  stays begins = omega (arith, (boot_within p c).within, ap (λ x. price_of p c x) (by_main (main_of p)))
  stays (moves {s = s} {u = u} ch reached busy opened goes) = moves_on s u ch (taken reached) (well reached) goes (stays reached) (restarts p s.tasks) refl
  stays (turns {s = s} {u = u} observed reached between owed goes) = grind (arith, nat_tests, turns_on, well, stays reached)

-- ---- what is declared

all_declared : (p : Image) (t : Typing) (c : Prices) → IsAffordable p t c → AffordsObjects p c → (budget_owner : Option ℕ) → price_of p c budget_owner ≤ declared_of p budget_owner
all_declared p t c affords objects x = grind arith

-- a declaration is a number of 32 bits
pub declared_fits : (p : Image) → WellFormed p → (budget_owner : Option ℕ) → declared_of p budget_owner < 2 ^ 32
unfolding class_at
declared_fits p formed None = formed.header.budget
declared_fits p formed (Some x) = of_class (slice_get p.classes x) refl
  where
    of_class : (o : Option ClassDecl) → slice_get p.classes x ≡ o → class_budget o < 2 ^ 32
    of_class None e = omega arith
    of_class (Some d) e = (all_there (ClassFits p.header.version (length p.classes) p.header.natives) p.classes x d formed.classes.each e).budget

-- a price up to a limit that is below the limit is the price
module _ (limit : ℕ) (p : Image) (t : Typing) (c : Prices) (wired : IsWired p) (are : ArePricesUpTo limit p t c) where
  same_main : main_price p c < limit → main_price p are.whole.prices ≤ main_price p c
  same_main less = grind (arith, nat_tests)

  pub affordable_below : p.header.budget < limit → main_price p c ≤ p.header.budget → IsAffordable p t are.whole.prices
  affordable_below below declared = record { priced = are.whole.pays; declared = omega (arith, same_main (omega (arith, below, declared)), declared) }

  same_part : (x : ℕ) (role : Role) → perhaps_price c (role_of p x role) < limit →
      perhaps_price are.whole.prices (role_of p x role) ≡ perhaps_price c (role_of p x role)
  same_part x role less = go (role_of p x role) refl less
    where
      go : (m : Option ℕ) → role_of p x role ≡ m → perhaps_price c m < limit → perhaps_price are.whole.prices m ≡ perhaps_price c m
      go None e less = refl
      go (Some m) e less = let w = role_inherits p x m role e in omega (arith, are.methods m (rw w.there refl), less)

  pub objects_below : ((x : ℕ) → declared_of p (Some x) < limit) → AffordsObjects p c → AffordsObjects p are.whole.prices
  objects_below below affords = record { each = grind (arith, nat_tests, same_part, le-max_left, le-max_right) }

pub steps_within : StepsWithin
steps_within = record { price = by_price; main = of_main; each = by_budget; limited = by_limit }
  where
    by_price : (p : Image) (t : Typing) (c : Prices) (outside : Environment) → WellFormed p → IsLinked p → IsTyped p t → IsPriced p t c →
        (lines : List Line) (s : State) (reached : Reaches p outside (boot_state p) lines s) → taken reached ≤ price_of p c (budget_owner s.tasks)
    by_price p t c outside formed linked typed priced lines s reached = omega (arith, stays p t c outside formed linked typed priced reached)

    of_main : (p : Image) (t : Typing) (c : Prices) (outside : Environment) → WellFormed p → IsLinked p → IsTyped p t → IsAffordable p t c →
        (lines : List Line) (s : State) (reached : Reaches p outside (boot_state p) lines s) → budget_owner s.tasks ≡ None → taken reached ≤ p.header.budget
    of_main p t c outside formed linked typed affords lines s reached none =
        omega (arith, by_price p t c outside formed linked typed affords.priced lines s reached, ap (λ x. price_of p c x) none, affords.declared)

    by_budget : (p : Image) (t : Typing) (c : Prices) (outside : Environment) → WellFormed p → IsLinked p → IsTyped p t → IsAffordable p t c →
        AffordsObjects p c → KeepsBudget p outside
    by_budget p t c outside formed linked typed affords objects = record {
      within = within;
      counted = λ lines s reached. omega (arith, within lines s reached, declared_fits p formed (budget_owner s.tasks), steps_are_counted.runs p outside lines s reached);
    }
      where
        within : (lines : List Line) (s : State) (reached : Reaches p outside (boot_state p) lines s) → taken reached ≤ declared_of p (budget_owner s.tasks)
        within lines s reached =
            omega (arith, by_price p t c outside formed linked typed affords.priced lines s reached, all_declared p t c affords objects (budget_owner s.tasks))

    by_limit : (limit : ℕ) (p : Image) (t : Typing) (c : Prices) (outside : Environment) → WellFormed p → IsLinked p → IsTyped p t → ArePricesUpTo limit p t c →
        p.header.budget < limit → main_price p c ≤ p.header.budget → ((x : ℕ) → declared_of p (Some x) < limit) → AffordsObjects p c → KeepsBudget p outside
    by_limit limit p t c outside formed linked typed are below declared objects_low objects =
        let wired = linked_is_wired p formed linked in
        by_budget p t are.whole.prices outside formed linked typed (affordable_below limit p t c wired are below declared)
        (objects_below limit p t c wired are objects_low objects)
