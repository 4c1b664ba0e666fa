-- Every move leads to a lower rank.
use Rattle.std.proofs.lemmas.Bool.Decides.{nat_tests}
use Rattle.std.proofs.lemmas.Option.{same_Some}
use Rattle.std.proofs.Common.{◌≡◌, ◌<◌, ◌≤◌, ◌+◌, ◌*◌, ◌∙◌, ℕ, ℤ, Bool, true, List, [], ◌∷◌}
use Rattle.std.proofs.Common.{length, Option, Some, None, slice_get, refl, sym, ap, arith, subst}
use Rattle.aom_termination.proofs.ImageLemmas.{some_given}
use Rattle.aom_termination.proofs.InstructionsLemmas.{delete_is}
use Rattle.aom_termination.proofs.StaticBoundsLemmas.{line_next}
use Rattle.aom_image.specs.Image.{Image}
use Rattle.aom_image.specs.Views.{class_in, instr_at, is_quiet, method_at}
use Rattle.aom_instructions.specs.declared.instr.Instr.{Instr}
use Rattle.aom_instructions.specs.Table.{action_of, transfer_of}
use Rattle.aom_instructions.specs.declared.action.Action.TheVariants as action
use Rattle.aom_instructions.specs.declared.transfer.Transfer.{Transfer}
use Rattle.aom_instructions.specs.declared.transfer.Transfer.TheVariants as transfer
use Rattle.aom_image.specs.declared.method.Gives.{Gives}
use Rattle.aom_image.specs.declared.method.Method.{Method as Method_declared}
use Rattle.aom_link_conditions.specs.Linked.{IsLinked}
use Rattle.aom_link_conditions.specs.Loops.{begun_by, loop_in}
use Rattle.aom_termination.proofs.LinkConditionsLemmas.{of_method}
use Rattle.aom_abstract_state.specs.AbstractState.{AbstractState}
use Rattle.aom_typing_rules.specs.Typing.{IsTyped, Typing}
use Rattle.aom_semantics.specs.Calls.{returned}
use Rattle.aom_semantics.specs.Effects.{Effect, applied, needs}
use Rattle.aom_termination.proofs.SafetyLemmas.{cancel_family, entry_object, found_first, method_layer, root_object, session_object, step_keeps, steps_are_moves}
use Rattle.aom_semantics.specs.Objects.{is_no_message}
use Rattle.aom_semantics.specs.Words.{here}
use Rattle.aom_safety.specs.Steps.{Acts, Arrives, Clears, Comes_out, Empties, Ends, Fits, Move, Rests, Undoes, Reclaims}
use Rattle.aom_safety.specs.Claims.{Layer, Method, tasks_of}
use Rattle.aom_semantics.specs.Destruction.{begun, first_session, parting}
use Rattle.aom_safety.specs.Laws.{IsWired}
use Rattle.aom_termination.specs.RankLaws.{Moves, no_move, one_move}
use Rattle.aom_safety.specs.WellTyped.{CountsAs, PreservesTyping}
use Rattle.aom_semantics.specs.Moves.{counted, main_ends, stage_ends, step}
use Rattle.aom_semantics.specs.Places.{Cell, Elsewhere, Entry, Going, In_service, Object, Root, held, moved, service_of, without}
use Rattle.aom_semantics.specs.Servers.{parted, reserved}
use Rattle.aom_semantics.specs.State.{A_mark, An_object, Choice, Closing, Destroy, Dispatched}
use Rattle.aom_semantics.specs.State.{Frame, Goes, Item, Of_root, Of_server, Outcome}
use Rattle.aom_semantics.specs.State.{Disconnects, OwnedObject, Service_left, Stage, Run, State, Task, Trapped, Unwind, receiver_holder}
use Rattle.aom_safety.specs.WellTyped.{Good, Now, Stack, WellTyped}
use Rattle.aom_semantics.specs.World.{IsBusy}
use Rattle.aom_termination.specs.Ranks.{cell_rank, frame_rank, is_going, operations}
use Rattle.aom_termination.specs.Ranks.{rank, rank_worths, standing, tasks_rank}
use Rattle.aom_termination.proofs.Falling.{falls, paid, straight}
use Rattle.aom_termination.proofs.Levels.{begun_paid, canceller_before, destructed_paid, price_some, quiet_canceller, undo_paid}
use Rattle.aom_termination.proofs.Cells.{operations_below, standing_accepted, standing_asked, standing_goes, standing_gone}
use Rattle.aom_termination.proofs.Cells.{standing_passes, standing_reserved, standing_without}
use Rattle.aom_termination.proofs.Sums.{one_less, scaled_le}
use Rattle.aom_termination.proofs.RankTerms.{resumed_alike, returned_less, reported_alike}
use Rattle.aom_semantics.specs.Requests.{cancel_method, ended_cells}
use Rattle.aom_roles.specs.Things.{holder_of, is_object}
use Rattle.aom_roles.specs.Tests.{AllTrue}

-- ---- a return

-- something is left of a method that returns
ends : (p : Image) → IsLinked p → (c : Choice) (s : State) (fr : Frame) (ts : List Task) (d : Method_declared) → method_at p fr.method ≡ Some d →
    (i : Instr) (a : ℕ) → slice_get d.code fr.place ≡ Some i → transfer_of i ≡ transfer.Return a → 1 ≤ frame_rank p fr
unfolding loop_in
ends p linked c s fr ts d declared_there i a stands returns = grind (
  arith,
  nat_tests,
  paid p linked c s fr ts d declared_there fr.counters,
  straight p linked c s fr ts d declared_there i stands (ap (λ (t : Transfer). begun_by (Some t)) returns),
  price_some p fr.method,
)

-- to what stands below
returns : (p : Image) (t : Typing) (s : State) (fr : Frame) (sh : AbstractState) (ls : List Layer) → Stack p t s.cells Now (Method fr sh ∷ ls) → 1 ≤ frame_rank p fr →
    (g : Gives) (a : ℕ) → rank p (returned p fr (tasks_of ls) (record s { cells = ended_cells p fr s.cells }) g a (tasks_of ls)) < tasks_rank p
    (Run fr ∷ tasks_of ls) + (standing s.cells + operations s.items) * cell_rank p
returns p t s fr sh ls h some g a =
    let u = returned p fr (tasks_of ls) (record s { cells = ended_cells p fr s.cells }) g a (tasks_of ls) in
    let less = returned_less (rank_worths p) standing operations standing_passes operations_below standing_asked (λ x answer. omega arith)
    (grind arith) p t s fr sh g a (λ d e i. standing_accepted d e i (ended_cells p fr s.cells)) (grind (arith, nat_tests, some_given, line_next)) ls h in
    let cells = scaled_le (standing u.cells + operations u.items) (standing s.cells + operations s.items) (cell_rank p) less.1 in
    omega (arith, some, less.0, cells)

-- ---- a cancel

-- the method that cancels is quiet, and comes before
cancels_below : (p : Image) → IsLinked p → (fr : Frame) (d : Method_declared) → method_at p fr.method ≡ Some d → CountsAs p (receiver_holder fr.receiver) fr.view
    (holder_of p fr.method) → (i : Instr) (m : ℕ) → slice_get d.code fr.place ≡ Some i → action_of i ≡ action.Cancel → cancel_method p fr ≡ Some m →
    (m < fr.method) × (is_quiet p m ≡ true)
unfolding class_in
cancels_below p linked fr d there counts i m stands cancels e =
    grind (arith, nat_tests, cancel_family p fr m counts e, canceller_before p linked fr.method fr.place d i, quiet_canceller p linked)

-- ---- every move

module _ (p : Image) (t : Typing) (linked : IsLinked p) (typed : IsTyped p t) (c : Choice) (s : State) (w : WellTyped p t s) where
  -- with these tasks
  abbrev total : List Task → ℕ
  total ts = tasks_rank p ts + (standing s.cells + operations s.items) * cell_rank p

  abbrev ActsLower : Frame → List Task → Type 0
  ActsLower fr ts = (i : Instr) (e : Effect) → instr_at p fr.method fr.place ≡ Some i →
      AllTrue (needs p c fr ts (counted p s) i) → Fits p c fr ts (counted p s) i e → rank p (applied p fr ts (counted p s) e) < total (Run fr ∷ ts)

  -- what a register owns that is deleted
  plain : (fr : Frame) (ts : List Task) (a : ℕ) (o : Object) → is_no_message (held s.cells (here fr ts s a)) ≡ true → held s.cells (here fr ts s a) ≡ Some o →
      is_object o.thing ≡ true
  plain fr ts a o met owns = sym (ap is_no_message owns) ∙ met

  acts_there : (fr : Frame) (sh : AbstractState) (ls : List Layer) → Good p t s.cells (Method fr sh ∷ ls) → ActsLower fr (tasks_of ls)
  acts_there fr sh ls good i e there met fits =
      let x = typed.each fr.method fr.place sh good.stack.0 in
      let m = of_method p fr.method fr.place i there in
      let is : x.instr ≡ i = same_Some x.instr i (sym x.stands ∙ there) in
      falls p linked c (counted p s) fr (tasks_of ls) m.0 m.1 sh w.undo_operations i m.2 (rw is at x.needs) e fits
      (λ g a goes. returns p t (counted p s) fr sh ls good.stack (ends p linked c (counted p s) fr (tasks_of ls) m.0 m.1 i a m.2 goes) g a)
      (λ a o deletes owns. plain fr (tasks_of ls) a o (subst (λ j. AllTrue (needs p c fr (tasks_of ls) (counted p s) j)) (delete_is i a deletes) met).1.0 owns)
      (λ o owns. entry_object p t s w o _ owns) (λ k cancels e. cancels_below p linked fr m.0 m.1 good.stack.1.view i k m.2 cancels e)

  acts : (ls : List Layer) → Good p t s.cells ls → (fr : Frame) (ts : List Task) → tasks_of ls ≡ Run fr ∷ ts → ActsLower fr ts
  acts ls good fr ts at = method_layer (Good p t s.cells) fr ts ls at good (λ sh below under there. subst (ActsLower fr) under (acts_there fr sh below there))

  -- so many cells stand at most
  fewer_stand : (cs : List Cell) → standing cs ≤ standing s.cells →
      (standing cs + operations s.items) * cell_rank p ≤ (standing s.cells + operations s.items) * cell_rank p
  fewer_stand cs fewer = scaled_le (standing cs + operations s.items) (standing s.cells + operations s.items) (cell_rank p) (omega (arith, fewer))

  -- a server lets go of a session, which pays for its destruction, or its destructor begins
  empties : (ts : List Task) (o : Object) (y : Option OwnedObject) → first_session s.cells o.name (service_of s.cells o.name).sessions ≡ y →
      rank p (parting p o y ts (counted p s)) < total (Closing ∷ Destroy ∷ ts)
  empties ts o None e = omega (arith, destructed_paid p linked o (length s.items) ts)
  empties ts o (Some x) e =
      let found = found_first s.cells o.name (service_of s.cells o.name).sessions x e in
      let over = Closing ∷ Destroy ∷ ts in
      let destruction = begun_paid p linked x.object (length s.items) over in
      let object = session_object p o.name found.client t s w x.object (ap (λ q. held s.cells q) (sym found.place) ∙ found.there) in
      let goes = standing_goes x.place (length over) x.object s.cells (ap is_going found.place) object found.there in
      let cells = one_less (standing (moved x.place (Going (length over)) s.cells) + operations s.items) (standing s.cells + operations s.items) (cell_rank p)
      (omega (arith, goes)) in
      omega (arith, destruction, cells)

  kept_alike : (v : State) → v.cells ≡ s.cells → v.items ≡ s.items →
      (standing v.cells + operations v.items) * cell_rank p ≡ (standing s.cells + operations s.items) * cell_rank p
  kept_alike v same alike = grind (arith, nat_tests)

  -- main's end is worth 2: the root's destruction may begin, with its own end before it
  ends_main : (b : Bool) (o : Option Object) → held s.cells (Elsewhere Root) ≡ o → (v : State) → v.cells ≡ s.cells → v.items ≡ s.items →
      rank p (main_ends p b o v) < 2 + (standing s.cells + operations s.items) * cell_rank p
  ends_main true (Some o) there v same alike =
      let destruction = begun_paid p linked o (length v.items) (Dispatched Of_root ∷ []) in
      let goes = standing_goes (Elsewhere Root) (length (Dispatched Of_root ∷ [])) o s.cells refl (root_object p t s w o there) there in
      let cells = one_less (standing (moved (Elsewhere Root) (Going (length (Dispatched Of_root ∷ []))) s.cells) + operations s.items)
      (standing s.cells + operations s.items) (cell_rank p) (omega (arith, goes)) in
      let these : (standing (moved (Elsewhere Root) (Going (length (Dispatched Of_root ∷ []))) v.cells) + operations v.items) * cell_rank p
      ≡ (standing (moved (Elsewhere Root) (Going (length (Dispatched Of_root ∷ []))) s.cells) + operations s.items) * cell_rank p = grind (arith, nat_tests) in
      omega (arith, destruction, cells, these)
  ends_main _ _ there v same alike = omega (arith, kept_alike v same alike)

  -- what is served ends as an object's dispatch does
  of_stage : (ts : List Task) (x : OwnedObject) (client : ℕ) (stage : Stage) →
      rank p (stage_ends x client stage (counted p s)) < total (Dispatched (Of_server x client stage) ∷ ts)
  of_stage ts x client (Service_left code) = omega (arith, fewer_stand (without (Elsewhere In_service) s.cells) (standing_without (Elsewhere In_service) s.cells))
  of_stage ts x client Disconnects =
      omega (arith, fewer_stand (reserved (parted client) x.object.name s.cells) (omega (arith, standing_reserved (parted client) x.object.name s.cells)))
  of_stage ts x client _ = omega arith

  -- the mark is no operation
  unmarked : (items : List Item) → s.items ≡ A_mark ∷ items →
      (standing s.cells + operations items) * cell_rank p ≤ (standing s.cells + operations s.items) * cell_rank p
  unmarked items e = grind (arith, nat_tests, scaled_le)

  -- a leave deals with an item
  clears : (code : ℤ) (ts : List Task) (items : List Item) (o : Object) →
      s.items ≡ An_object ∷ items → held s.cells (Entry (length items)) ≡ Some o → rank p (record (counted p s)
      { cells = moved (Entry (length items)) (Going (length (Unwind code ∷ ts))) s.cells; tasks = begun p o (length items) (Unwind code ∷ ts); items = items })
      < total (Unwind code ∷ ts)
  clears code ts items o e there =
      let destruction = begun_paid p linked o (length items) (Unwind code ∷ ts) in
      let goes = standing_goes (Entry (length items)) (length (Unwind code ∷ ts)) o s.cells refl (entry_object p t s w o (length items) there) there in
      let same : operations s.items ≡ operations items = ap operations e in
      let cells = one_less (standing (moved (Entry (length items)) (Going (length (Unwind code ∷ ts))) s.cells) + operations items)
      (standing s.cells + operations s.items) (cell_rank p) (omega (arith, goes, same)) in
      omega (arith, destruction, cells)

  -- what a move leads to, by what was at hand
  by : (ts : List Task) (u v : State) → s.tasks ≡ ts → u ≡ v → rank p v < total ts → rank p u < rank p s
  by ts u v at same lower = subst (λ x. rank p x < rank p s) (sym same) (subst (λ l. rank p v < total l) (sym at) lower)

  -- something that moves is at hand
  lowers : IsBusy s → (u : State) → Move p c s u → rank p u < rank p s
  lowers busy u (Rests still same) = absurd (grind arith)
  lowers busy u (Acts fr ts i e at there met fits same) = by (Run fr ∷ ts) u _ at same (acts w.layers w.good fr ts (sym w.tasks ∙ at) i e there met fits)
  lowers busy u (Reclaims ts o at there owns same) = by (Destroy ∷ ts) u _ at same (grind (arith, nat_tests, fewer_stand, standing_gone, resumed_alike))
  lowers busy u (Empties ts o at there same) = grind (arith, nat_tests, by, empties)
  lowers busy u (Clears code ts items o at top there same) = by (Unwind code ∷ ts) u _ at same (clears code ts items o top there)
  lowers busy u (Undoes code ts items m x at top same) = by (Unwind code ∷ ts) u _ at same (grind (arith, nat_tests, undo_paid, one_less))
  lowers busy u (Arrives code fr ts items at top same) = grind (arith, nat_tests, by (Unwind code ∷ Trapped ∷ Run fr ∷ ts) u, reported_alike, unmarked items top)
  lowers busy u (Comes_out code d ts items at top same) = grind (arith, nat_tests, by, unmarked)
  lowers busy u (Ends d ts at same) = by (Dispatched d ∷ ts) u _ at same (grind (arith, nat_tests, ends_main, of_stage))

pub moves_lower_ranks : (p : Image) (t : Typing) → IsLinked p → IsTyped p t → (c : Choice) (s u : State) → WellTyped p t s → IsBusy s →
    step p c s ≡ Goes u → rank p u < rank p s
moves_lower_ranks p t linked typed c s u w busy e = lowers p t linked typed c s w busy u (steps_are_moves p c s u e)

-- a move that goes on keeps the typing
keeps_on : (p : Image) (t : Typing) (u : State) (o : Outcome) → o ≡ Goes u → PreservesTyping p t o → WellTyped p t u
keeps_on p t u o e k = subst (λ x. PreservesTyping p t x) e k

module _ (p : Image) (t : Typing) (wired : IsWired p) (linked : IsLinked p) (typed : IsTyped p t) where
  bound : {n : ℕ} {s u : State} → WellTyped p t s → Moves p n s u → n + rank p u ≤ rank p s
  bound w no_move = omega arith
  bound {s = s} w (one_move {u = u} c busy unused goes more) =
      let lower = moves_lower_ranks p t linked typed c s u w busy goes in
      let kept = keeps_on p t u (step p c s) goes (step_keeps p t wired typed c s w unused) in
      omega (arith, lower, bound kept more)

pub ranks_bound_moves : (p : Image) (t : Typing) → IsWired p → IsLinked p → IsTyped p t → (n : ℕ) (s u : State) → WellTyped p t s →
    Moves p n s u → n + rank p u ≤ rank p s
ranks_bound_moves p t wired linked typed n s u w moves = bound p t wired linked typed w moves
