-- Each effect pays for its step: what a method goes on with, what it calls, destroys or pushes, and where a loop leads.
use Rattle.std.proofs.lemmas.Bool.Decides.{nat_tests}
use Rattle.std.proofs.Common.{◌≡◌, ◌≤◌, ◌+◌, ◌-◌, ◌*◌, ◌∙◌, ℕ, ℤ, zero, suc, true, false, inl, inr, List, []}
use Rattle.std.proofs.Common.{◌∷◌, length, Option, Some, None, slice_get, refl, sym, ap, arith, subst}
use Rattle.aom_image.specs.Image.{Image}
use Rattle.aom_image.specs.declared.method.Thing.TheVariants.{Object as An_object_of}
use Rattle.aom_image.specs.Views.{method_class, arguments_of, method_at}
use Rattle.aom_instructions.specs.declared.instr.Instr.{Instr}
use Rattle.aom_instructions.specs.declared.instr.Target.{Target}
use Rattle.aom_image.specs.declared.method.Gives.{Gives}
use Rattle.aom_image.specs.declared.method.Method.{Method as Method_declared}
use Rattle.aom_link_conditions.specs.Jumps.{JumpIsValid, jump_of}
use Rattle.aom_link_conditions.specs.Linked.{IsLinked}
use Rattle.aom_link_conditions.specs.Loops.{LoopsNest, loop_in}
use Rattle.aom_termination.proofs.LinkConditionsLemmas.{at_place}
use Rattle.aom_abstract_state.specs.Kinds.{register}
use Rattle.aom_abstract_state.specs.AbstractState.{AbstractState}
use Rattle.aom_roles.specs.Tables.{at, set_extending}
use Rattle.aom_typing_rules.specs.Typing.{Typing}
use Rattle.aom_abstract_state.specs.declared.kind.Kind.{Kind}
use Rattle.aom_termination.proofs.SafetyLemmas.{At, kind_fits, straight_by}
use Rattle.aom_termination.proofs.ImageLemmas.{some_given}
use Rattle.aom_roles.specs.Families.{parent_above}
use Rattle.aom_termination.proofs.StaticBoundsLemmas.{NextIn, line_first, line_next, stands_as, stands_so}
use Rattle.aom_static_bounds.specs.Most.{line, line_after}
use Rattle.aom_semantics.specs.Calls.{run_by, target_view, below_top, ended_well, passed_cells, result_cells, returned}
use Rattle.aom_safety.specs.Claims.{Layer, tasks_of, Method}
use Rattle.aom_semantics.specs.Cleanup.{top_place}
use Rattle.aom_semantics.specs.Destruction.{begun, begun_by, class_destructor, destructed, line_on, next_destructor}
use Rattle.aom_semantics.specs.Effects.{Calls, Cancels, Carried, Counts, Destroys, Destroys_last, Effect, Goes_on, Jumps, Leaves, Operates}
use Rattle.aom_semantics.specs.Effects.{Popped, Popped_operation, Pushed, Repeats, Requested, Returns, Sets_trap, Spot, Update}
use Rattle.aom_semantics.specs.Effects.{Written, applied, cells_after, items_after, spot_place, with_words, Sessioned, Replied, Handed}
use Rattle.aom_semantics.specs.Places.{Entry, Going, Object, CellView, held, seen, Cell, Place, Register, moved}
use Rattle.aom_semantics.specs.State.{An_object, An_operation, Choice, Frame, Receiver, Inside, Run, State, Task, Trapped, counter, Dispatch}
use Rattle.aom_safety.specs.Steps.{Fits, Sets}
use Rattle.aom_safety.specs.WellTyped.{Fits as Holds_of, Now, Stack}
use Rattle.aom_semantics.specs.Words.{here}
use Rattle.aom_termination.specs.Within.{loops_rank_term, total}
use Rattle.aom_termination.proofs.Rounds.{back, closed_loop, enters, jumps, leaves, straight_on}
use Rattle.aom_termination.proofs.Sums.{scaled, scaled_le}
use Rattle.aom_termination.proofs.RankTerms.{passed_less, returned_less, to_trap_less}
use Rattle.aom_static_bounds.specs.Prices.{call_price, IsPriced, NextStands, Prices, Stands, kind_price, price, perhaps_price, sessions_cost}
use Rattle.aom_termination.specs.RankTerms.{over_rank_term}
use Rattle.aom_termination.specs.Left.{is_entry, left, left_worths, method_left, objects_left, operations_left, rounds_left}
use Rattle.aom_termination.specs.Left.{rounds_price, tasks_left, waiting_left, closings_left, end_left, sessions_left}
use Rattle.aom_termination.proofs.Covering.{Affords, Covers, body_paid, pushes}
use Rattle.aom_termination.proofs.Pushed.{enters_place, field_no_entry, leaves_place, moved_less, none_moves, operations_below, redeemed_same}
use Rattle.aom_termination.proofs.Pushed.{request_updated_same, stored_same, session_updated_same, enters_place, served_same, without_less}
use Rattle.aom_semantics.specs.Tokens.{next_token, promised}
use Rattle.aom_semantics.specs.Requests.{cancelling, on_request, own_request, ended_cells}
use Rattle.aom_semantics.specs.Servers.{is_server}
use Rattle.aom_termination.proofs.Lasting.{IsApart, going_apart, lasting, lasts_ended, lasts_moved, lasts_passed, lasts_result, lasts_update, to_trap_closings}
use Rattle.aom_termination.proofs.Sessions.{FewOwnedObjects, stands_at_going}

-- ---- what begins, and what ends

-- a method that begins has no rounds before it
none_in_all : (f : ℕ → ℕ) (n : ℕ) → ((j : ℕ) → f j ≤ 0) → total f n ≤ 0
none_in_all f zero h = omega arith
none_in_all f (suc n) h = omega (arith, none_in_all f n h, h n)

pub fresh_rounds : (c : Prices) (m : ℕ) (d : Option Method_declared) → rounds_left c m d [] 0 ≤ 0
fresh_rounds c m x = grind (arith, nat_tests, none_in_all)

-- a line of destructors that begins over the going of its cell
pub destructed_left : (p : Image) (c : Prices) (o : Object) (height : ℕ) (below : List Task) (us : List Cell) → tasks_left p c (destructed p o height below)
    + closings_left p c us (destructed p o height below) ≤ 1 + line p (perhaps_price c) o.thing + (waiting_left p c below + closings_left p c us below)
destructed_left p c o height below us = grind (arith, nat_tests, fresh_rounds c, line_first p)

-- a destruction that begins costs what that of its class does, where what goes before a server is no more than its class pays for
pub begun_left : (p : Image) (t : Typing) (c : Prices) → IsPriced p t c → (o : Object) (height : ℕ) (below : List Task) (us : List Cell) → (is_server p o.thing
    ≡ true → (held us (Going (length below)) ≡ Some o) × (sessions_left c o.name us ≤ sessions_cost p (λ k. c.destruction (An_object_of k)) o.thing)) →
    tasks_left p c (begun p o height below) + closings_left p c us (begun p o height below)
    ≤ c.destruction o.thing + (waiting_left p c below + closings_left p c us below)
begun_left p t c priced o height below us few = grind (arith, nat_tests, destructed_left p c o height below us)

-- a register's kind pays for what it owns
kind_pays : (p : Image) (t : Typing) (c : Prices) → IsPriced p t c → (h : CellView) (o : Object) (k : Kind) → Holds_of p h (Some o) k →
    c.destruction o.thing ≤ kind_price c k
kind_pays p t c priced h o k f = grind (arith, priced.may_override)

-- ---- a method at its place

module _ (p : Image) (t : Typing) (c : Prices) (linked : IsLinked p) (priced : IsPriced p t c) (ch : Choice) (s : State) (fr : Frame) (sh : AbstractState)
    (ls : List Layer) (has_task : At p t s fr sh ls) (few : FewOwnedObjects p s.cells) (d : Method_declared) (declared_there : method_at p fr.method ≡ Some d) where
  abbrev ts : List Task
  ts = tasks_of ls

  abbrev pushed : ℕ
  pushed = objects_left c s.cells + operations_left c s.items

  abbrev closings : ℕ
  closings = closings_left p c s.cells ts

  abbrev before : ℕ
  before = tasks_left p c (Run fr ∷ ts) + closings + pushed

  -- what may come once the method is over
  abbrev beyond : ℕ
  beyond = over_rank_term (left_worths p c) fr.method ts + waiting_left p c ts

  -- the method at other counters and another place
  abbrev rest_at : List ℕ → ℕ → ℕ
  rest_at cs k = method_left p c fr.method cs k

  abbrev rank_term : ℕ → ℕ → ℕ
  rank_term = rounds_price c fr.method

  grows : (q a b : ℕ) → a ≤ b → rank_term a q ≤ rank_term b q
  grows q a b le = scaled_le (a - 1) (b - 1) (c.round fr.method q) (omega (arith, le))

  -- so much less is before it there, where a loop that begins adds its rounds, and one that goes back takes one of them
  there : (cs : List ℕ) (k n adds takes : ℕ) → loops_rank_term d.code rank_term cs k + takes ≤ loops_rank_term d.code rank_term fr.counters fr.place + adds →
      n + adds + c.from fr.method k ≤ c.from fr.method fr.place + takes → n + rest_at cs k ≤ rest_at fr.counters fr.place
  there cs k n adds takes loops pays = grind (arith, nat_tests)

  -- the method goes on there, with so much for what it pushes, and no more goes before servers
  goes : (cs : List ℕ) (k n x y : ℕ) → 1 + n + rest_at cs k ≤ rest_at fr.counters fr.place → x ≤ n + pushed → y ≤ closings →
      1 + (rest_at cs k + beyond + y + x) ≤ before
  goes cs k n x y less most few = omega (arith, less, most, few)

  -- a destruction begins over the method
  destruction : (o : Object) (from : Place) (height : ℕ) (waits : Frame) → held s.cells from ≡ Some o → IsApart (length ts) from → tasks_left p c
      (begun p o height (Run waits ∷ ts)) + closings_left p c (moved from (Going (length (Run fr ∷ ts))) s.cells) (begun p o height (Run waits ∷ ts))
      ≤ c.destruction o.thing + (waiting_left p c (Run waits ∷ ts) + closings)
  destruction o from height waits there apart =
      let depth = length (Run fr ∷ ts) in
      let us = moved from (Going depth) s.cells in
      let begins = begun_left p t c priced o height (Run waits ∷ ts) us
      (stands_at_going p t c priced s.cells (Method fr sh ∷ ls) has_task.good few o from depth there (omega arith)) in
      omega (arith, begins, lasting p c s.cells us ts (grind (arith, nat_tests, lasts_moved, going_apart)))

  straight : (i : Instr) → slice_get d.code fr.place ≡ Some i → loop_in (Some i) ≡ None → (n : ℕ) → Affords p c fr sh n (suc fr.place) →
      n + rest_at fr.counters (suc fr.place) ≤ rest_at fr.counters fr.place
  straight i stands plain n pays =
      there fr.counters (suc fr.place) n 0 0 (omega (arith, straight_on d.code rank_term grows fr.counters fr.place i stands plain)) (omega (arith, pays))

  nests : LoopsNest d.code
  unfolding method_at
  nests = at_place (λ _ x. LoopsNest x.code) p.methods fr.method d linked.loops declared_there

  -- ---- updates

  spot_no_entry : (x : Spot) → is_entry (spot_place p fr ts s x) ≡ false
  spot_no_entry x = grind (arith, nat_tests, field_no_entry fr.receiver)

  -- what is on the cleanup stack after an update was there before, or its place pays for it
  after : (u : Update) → objects_left c (cells_after p fr ts s u) + operations_left c (items_after u s.items) ≤ pushes p c fr sh u + pushed
  after (Carried from to) = omega (arith, moved_less c is_entry (spot_place p fr ts s from) (spot_place p fr ts s to) s.cells (spot_no_entry to))
  after (Written w v) = omega (arith, stored_same c is_entry s.cells fr.receiver w v)
  after (Requested r) = omega (arith, request_updated_same c is_entry s.cells fr.receiver r)
  after (Sessioned b) = omega (arith, session_updated_same c is_entry s.cells fr.receiver b)
  after (Pushed a) = of_object (held s.cells (here fr ts s a)) refl
    where
      of_object : (o : Option Object) → held s.cells (here fr ts s a) ≡ o →
          objects_left c (cells_after p fr ts s (Pushed a)) + operations_left c s.items ≤ kind_price c (register sh a) + pushed
      of_object None e = omega (arith, none_moves c is_entry (here fr ts s a) (Entry (length s.items)) s.cells e)
      of_object (Some o) e = let pays = kind_pays p t c priced
          (seen s.cells) o (register sh a) (subst (λ y. Holds_of p (seen s.cells) y (register sh a)) e (kind_fits p t ch s fr sh ls has_task a)) in
          omega (arith, pays, enters_place c is_entry (here fr ts s a) (Entry (length s.items)) o s.cells has_task.good.no_duplicates e)
  after (Popped a) = omega (arith, moved_less c is_entry (top_place s.items) (here fr ts s a) s.cells refl, operations_below c s.items)
  after Popped_operation = omega (arith, operations_below c s.items)
  after (Replied a code) = grind (arith, nat_tests, without_less c, redeemed_same c)
  after (Handed name a) = omega (arith, request_updated_same c is_entry s.cells fr.receiver (on_request (promised (next_token s.cells)) (own_request s.cells fr.receiver)))
  after _ = omega arith

  -- and no more goes before servers
  closings_after : (u : Update) → closings_left p c (cells_after p fr ts s u) ts ≤ closings
  closings_after u = lasting p c s.cells (cells_after p fr ts s u) ts (lasts_update (length ts) p fr ts s u)

  closings_passed : (depth m first : ℕ) → closings_left p c (passed_cells p fr ts s depth (arguments_of p m) first 0 s.cells) ts ≤ closings
  closings_passed depth m first = lasting p c s.cells _ ts (lasts_passed (length ts) p fr ts s depth (arguments_of p m) first 0 s.cells)

  -- ---- effects

  abbrev Pays : Effect → Type 0
  Pays e = 1 + left p c (applied p fr ts s e) ≤ before

  -- a jump goes into no loop
  away : (i : Instr) → slice_get d.code fr.place ≡ Some i → (to : ℕ) → jump_of i ≡ Some to → Affords p c fr sh 1 to → Pays (Jumps to)
  unfolding method_at
  away i stands to jump pays =
      let well : JumpIsValid d.code = at_place (λ _ x. JumpIsValid x.code) p.methods fr.method d linked.jumps declared_there in
      let loops = jumps d.code rank_term grows fr.counters fr.place to i well stands jump in
      goes fr.counters to 0 pushed closings (there fr.counters to 1 0 0 (omega (arith, loops)) (omega (arith, pays))) (omega arith) (omega arith)

  -- a loop pays for all its rounds as it begins, and its last round goes on
  counts : (i : Instr) → slice_get d.code fr.place ≡ Some i → Stands p t fr.method fr.place sh i → (depth n : ℕ) → Sets i depth n → Pays (Counts depth n)
  counts i stands it depth n (inl e) =
      let pays = priced.loops fr.method fr.place depth n sh (stands_as p t fr.method fr.place sh _ i it e) in
      let loops = enters d.code rank_term grows fr.counters fr.place depth n nests (stands_so _ i _ stands e) in
      let less = there (set_extending 0 fr.counters depth n) (suc fr.place) 1 (rank_term n fr.place) 0 (omega (arith, loops)) (omega (arith, pays)) in
      goes (set_extending 0 fr.counters depth n) (suc fr.place) 0 pushed closings less (omega arith) (omega arith)
  counts i stands it depth n (inr e) = subst (λ k. Pays (Counts depth k)) (sym e.2) last
    where
      last : Pays (Counts depth 0)
      last =
          let pays = priced.next_places fr.method fr.place depth e.0 sh (stands_as p t fr.method fr.place sh _ i it e.1) in
          let loops = leaves d.code rank_term grows fr.counters fr.place depth e.0 (stands_so _ i _ stands e.1) in
          let less = there (set_extending 0 fr.counters depth 0) (suc fr.place) 1 0 0 (omega (arith, loops)) (omega (arith, pays)) in
          goes (set_extending 0 fr.counters depth 0) (suc fr.place) 0 pushed closings less (omega arith) (omega arith)

  -- another round is one that was paid for
  again : (depth to n : ℕ) → NextIn (slice_get d.code fr.place) depth to → NextStands p t fr.method fr.place sh depth to →
      counter fr depth - 1 ≡ suc n → Pays (Repeats depth (suc n) to)
  again depth to n stands it e =
      let r = closed_loop d.code fr.place depth to nests stands in
      let pays = priced.rounds fr.method fr.place depth r.0 sh (rw r.2 at it) in
      let loops = back d.code rank_term grows fr.counters fr.place depth to (suc n) nests stands (omega (arith, e)) r.0 r.1 in
      let one : rank_term (suc n) r.0 ≡ n * c.round fr.method r.0 = ap (λ k. k * c.round fr.method r.0) (omega arith) in
      let more = scaled n (at 0 fr.counters depth - 1) (c.round fr.method r.0) (omega (arith, e)) in
      let less = there (set_extending 0 fr.counters depth (suc n)) (suc r.0) 1 0 (c.round fr.method r.0) (omega (arith, loops, one, more)) (omega (arith, pays)) in
      rw r.2 (goes (set_extending 0 fr.counters depth (suc n)) (suc r.0) 0 pushed closings less (omega arith) (omega arith))

  calls : (i : Instr) → slice_get d.code fr.place ≡ Some i →
      loop_in (Some i) ≡ None → (target : Target) (m first : ℕ) → Affords p c fr sh (1 + call_price p c m) (suc fr.place) → Pays (Calls target m first)
  calls i stands plain target m first pays =
      let less = straight i stands plain (1 + call_price p c m) pays in
      let k = run_by p fr ts s target m in
      let run = body_paid p c m (target_view p fr ts s target (method_class p m)) in
      omega (
        arith,
        less,
        passed_less (objects_left c) (λ d i e j cs. moved_less c is_entry (Register d i) (Register e j) cs refl) p fr ts s (length (Run fr ∷ ts))
            (arguments_of p m) first 0 s.cells,
        closings_passed (length (Run fr ∷ ts)) m first,
        fresh_rounds c k (method_at p k),
        run,
      )

  cancels : (i : Instr) → slice_get d.code fr.place ≡ Some i → loop_in (Some i) ≡ None → (m : ℕ) →
      Affords p c fr sh (1 + price c m) (suc fr.place) → Pays (Cancels m)
  cancels i stands plain m pays =
      let less = straight i stands plain (1 + price c m) pays in
      let after = on_request cancelling (own_request s.cells fr.receiver) in
      omega (arith, less, request_updated_same c is_entry s.cells fr.receiver after, closings_after (Requested after), fresh_rounds c m (method_at p m))

  traps : (i : Instr) → slice_get d.code fr.place ≡ Some i →
      loop_in (Some i) ≡ None → (target : Target) (m first : ℕ) → Affords p c fr sh (1 + call_price p c m) (suc fr.place) → Pays (Sets_trap target m first)
  traps i stands plain target m first pays =
      let less = straight i stands plain (1 + call_price p c m) pays in
      let k = run_by p fr ts s target m in
      let run = body_paid p c m (target_view p fr ts s target (method_class p m)) in
      omega (
        arith,
        less,
        passed_less (objects_left c) (λ d i e j cs. moved_less c is_entry (Register d i) (Register e j) cs refl) p fr ts s (length (Trapped ∷ Run fr ∷ ts))
            (arguments_of p m) first 0 s.cells,
        closings_passed (length (Trapped ∷ Run fr ∷ ts)) m first,
        fresh_rounds c k (method_at p k),
        run,
      )

  -- the object of a register goes, or that of the last item, which was paid for as it was pushed
  destroys : (i : Instr) → slice_get d.code fr.place ≡ Some i → loop_in (Some i) ≡ None → (o : Object) (a : ℕ) (words : List (Option ℤ)) →
      held s.cells (here fr ts s a) ≡ Some o → Affords p c fr sh (1 + kind_price c (register sh a)) (suc fr.place) → Pays (Destroys o a words)
  destroys i stands plain o a words owned pays =
      let less = straight i stands plain (1 + kind_price c (register sh a)) pays in
      let begins = destruction o (here fr ts s a) (length s.items) (with_words fr words) owned (λ k lt. refl) in
      let kind = kind_pays p t c priced (seen s.cells) o (register sh a) (grind (arith, nat_tests, kind_fits p t ch s fr sh ls has_task a)) in
      omega (arith, less, begins, kind, moved_less c is_entry (here fr ts s a) (Going (length (Run fr ∷ ts))) s.cells refl)

  destroys_last : (i : Instr) → slice_get d.code fr.place ≡ Some i → loop_in (Some i) ≡ None → (o : Object) →
      s.items ≡ An_object ∷ below_top s.items → held s.cells (top_place s.items) ≡ Some o → Affords p c fr sh 1 (suc fr.place) → Pays (Destroys_last o)
  destroys_last i stands plain o top owned pays =
      grind (arith, nat_tests, straight i stands plain 1 pays, destruction o, leaves_place c, operations_below c s.items)

  operates : (i : Instr) → slice_get d.code fr.place ≡ Some i →
      loop_in (Some i) ≡ None → (m : ℕ) (w : ℤ) → s.items ≡ An_operation m w ∷ below_top s.items → Affords p c fr sh 1 (suc fr.place) → Pays (Operates m w)
  operates i stands plain m w top pays = grind (arith, nat_tests, straight i stands plain 1 pays, fresh_rounds c m)

  -- what the method could still cost is dropped
  well_ended : (d : Dispatch) → end_left p c (ended_well d) ≤ end_left p c d
  well_ended x = grind arith

  -- and no more goes before servers
  module _ (g : Gives) (a : ℕ) where
    abbrev ended : State
    ended = record s { cells = ended_cells p fr s.cells }

    abbrev Fewer : List Layer → Type 0
    Fewer l = let u = returned p fr (tasks_of l) ended g a (tasks_of l) in closings_left p c u.cells u.tasks ≤ closings_left p c s.cells (tasks_of l)

    over_ended : (below : List Task) → closings_left p c ended.cells below ≤ closings_left p c s.cells below
    over_ended below = lasting p c s.cells ended.cells below (lasts_ended (length below) p fr s.cells)

    over_result : (over below : List Task) (x : ℕ) → closings_left p c (result_cells p fr over ended g a x below) below ≤ closings_left p c s.cells below
    over_result over below x = omega (arith, over_ended below, lasting p c ended.cells _ below (lasts_result (length below) p fr over ended g a x below))

    line_closings : (cs : List Cell) (m : ℕ) (receiver : Receiver) (height : ℕ) (below : List Task) →
        closings_left p c cs (line_on p m receiver height below) ≡ closings_left p c cs below
    line_closings cs m (Inside o from) height below = go (next_destructor p m)
      where
        go : (k : Option ℕ) → closings_left p c cs (begun_by p k o height below) ≡ closings_left p c cs below
        go None = refl
        go (Some k) = refl
    line_closings cs m _ height below = refl

    returned_closings : (l : List Layer) → Stack p t s.cells Now (Method fr sh ∷ l) → Fewer l
    returned_closings x h = grind (arith, nat_tests, over_result, line_closings, over_ended)

  -- the rest of a line pays for the next of it
  lines_fall : (m k : ℕ) → next_destructor p m ≡ Some k → method_left p c k [] 0 + line_after p (perhaps_price c) k ≤ line_after p (perhaps_price c) m
  lines_fall m k is = some_given (λ o. class_destructor p o ≡ Some k)
      (parent_above p m) is (λ none. cc) (λ e above next. omega (arith, line_next p (perhaps_price c) refl m e k above next, fresh_rounds c k (method_at p k)))

  returns : (g : Gives) (a : ℕ) → 1 ≤ c.from fr.method fr.place → Pays (Returns g a)
  returns g a some = let less = returned_less (left_worths p c) (objects_left c) (operations_left c) (λ d i e j cs. moved_less c is_entry
      (Register d i) (Register e j) cs refl) (operations_below c) (request_updated_same c is_entry) (λ x answer. omega arith) well_ended p t s fr sh g a
      (λ d e i. grind (arith, nat_tests, served_same, moved_less)) lines_fall ls has_task.good.stack in
      omega (arith, some, less.0, less.1, returned_closings g a ls has_task.good.stack)

  pub pays : (i : Instr) → slice_get d.code fr.place ≡ Some i → Stands p t fr.method fr.place sh i → (e : Effect) → Fits p ch fr ts s i e →
      Covers p c fr sh e → Pays e
  pays i stands it (Goes_on change) f covered =
      let n = pushes p c fr sh change.update in
      goes fr.counters (suc fr.place) n _ _ (straight i stands f.0 (1 + n) covered) (after change.update) (closings_after change.update)
  pays i stands it (Jumps to) f covered = away i stands to f covered
  pays i stands it (Counts depth n) f covered = counts i stands it depth n f
  pays i stands it (Repeats depth n to) f covered =
      let round = again depth to f.1 (stands_so _ i _ stands f.0) (stands_as p t fr.method fr.place sh _ i it f.0) (f.3 ∙ f.2) in
      subst (λ k. Pays (Repeats depth k to)) (sym f.2) round
  pays i stands it (Calls target m first) f covered = calls i stands (straight_by p ch fr ts s i (Calls target m first) f) target m first covered
  pays i stands it (Cancels m) f covered = cancels i stands (straight_by p ch fr ts s i (Cancels m) f) m covered
  pays i stands it (Sets_trap target m first) f covered = traps i stands (straight_by p ch fr ts s i (Sets_trap target m first) f) target m first covered
  pays i stands it (Returns g a) f covered = returns g a covered
  pays i stands it (Leaves code u) f covered =
      omega (arith, covered, after u, closings_after u, to_trap_closings p c (cells_after p fr ts s u) ts, to_trap_less (left_worths p c) ts)
  pays i stands it (Destroys o a words) f covered = destroys i stands (straight_by p ch fr ts s i (Destroys o a words) f) o a words f.1 covered
  pays i stands it (Destroys_last o) f covered = destroys_last i stands (straight_by p ch fr ts s i (Destroys_last o) f) o f.1 f.2 covered
  pays i stands it (Operates m w) f covered = operates i stands (straight_by p ch fr ts s i (Operates m w) f) m w f.1 covered
