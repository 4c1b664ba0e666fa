-- The effect of each instruction leads to a lower rank.
use Rattle.std.proofs.lemmas.Bool.Decides.{nat_tests}
use Rattle.aom_termination.proofs.SafetyLemmas.{all_parts, body_quiet, straight_by}
use Rattle.std.proofs.Common.{◌≡◌, ◌<◌, ◌≤◌, ◌+◌, ◌*◌, ◌∙◌, ℕ, ℤ, suc, Bool, true, false, List}
use Rattle.std.proofs.Common.{◌∷◌, length, Option, Some, None, slice_get, sym, arith, subst}
use Rattle.std.specs.Prelude.{not}
use Rattle.aom_termination.proofs.InstructionsLemmas.{call_is, operation_is, trap_is}
use Rattle.aom_image.specs.Image.{Image}
use Rattle.aom_image.specs.Views.{arguments_of, is_quiet, method_at, method_class}
use Rattle.aom_instructions.specs.declared.instr.Instr.{Instr}
use Rattle.aom_instructions.specs.Table.{action_of, transfer_of}
use Rattle.aom_instructions.specs.declared.action.Action.TheVariants as action
use Rattle.aom_instructions.specs.declared.transfer.Transfer.TheVariants as transfer
use Rattle.aom_instructions.specs.declared.instr.Target.{Target}
use Rattle.aom_image.specs.declared.method.Gives.{Gives}
use Rattle.aom_image.specs.declared.method.Method.{Method as Method_declared}
use Rattle.aom_link_conditions.specs.Calls.{CallsBelow, RunsBelow}
use Rattle.aom_link_conditions.specs.Jumps.{jump_of}
use Rattle.aom_link_conditions.specs.Linked.{IsLinked}
use Rattle.aom_link_conditions.specs.Loops.{LoopsNest, loop_in}
use Rattle.aom_termination.proofs.LinkConditionsLemmas.{at_place}
use Rattle.aom_typing_rules.specs.Rules.{rule_needs}
use Rattle.aom_abstract_state.specs.AbstractState.{AbstractState}
use Rattle.aom_semantics.specs.Calls.{run_by, target_view, below_top, passed_cells, returned}
use Rattle.aom_semantics.specs.Cleanup.{to_trap, top_place}
use Rattle.aom_semantics.specs.Effects.{Calls, Cancels, Carried, Counts, Destroys, Destroys_last, Effect, Goes_on, Handed, Replied, Jumps, Leaves}
use Rattle.aom_semantics.specs.Effects.{Made, Operates, Popped, Popped_operation, Pushed, Pushed_operation, Repeats, Requested, Returns, Same, Sets_trap}
use Rattle.aom_semantics.specs.Effects.{Spot, Update, Written, applied, cells_after, items_after, spot_place, Sessioned}
use Rattle.aom_safety.specs.Leaves.{LeavesWith}
use Rattle.aom_semantics.specs.Moves.{makes}
use Rattle.aom_semantics.specs.Places.{Object, held}
use Rattle.aom_semantics.specs.State.{An_object, Choice, Frame, Run, State, Task, Trapped}
use Rattle.aom_safety.specs.Steps.{Fits, FitsUpdate, Sets}
use Rattle.aom_safety.specs.WellTyped.{AllUndo}
use Rattle.aom_semantics.specs.Words.{here}
use Rattle.aom_termination.specs.RankTerms.{over_rank_term}
use Rattle.aom_termination.specs.Ranks.{cell_rank, frame_rank, is_going, left_in, operations, price, rank, rank_worths, standing, tasks_rank, waiting_rank}
use Rattle.aom_termination.specs.Within.{left}
use Rattle.aom_termination.proofs.Levels.{begun_paid, body_before, called_lower, cell_paid, cell_some, cell_two}
use Rattle.aom_termination.proofs.Levels.{nonquiet_leaver, price_some, run_paid, runs_below, undo_paid}
use Rattle.aom_termination.proofs.Places.{back, enters, jumps, leaves, straight_on}
use Rattle.aom_termination.proofs.Cells.{field_stands, operations_below, standing_asked, standing_goes, standing_moved, standing_new}
use Rattle.aom_termination.proofs.Cells.{standing_passes, standing_stored, standing_opened, standing_redeemed, standing_without}
use Rattle.aom_termination.proofs.RankTerms.{passed_less, to_trap_less}
use Rattle.aom_termination.proofs.Sums.{one_less, one_more, scaled, scaled_le}
use Rattle.aom_termination.proofs.ImageLemmas.{false_given}
use Rattle.aom_termination.proofs.StaticBoundsLemmas.{stands_so}
use Rattle.std.proofs.lemmas.Bool.{true≢false}
use Rattle.aom_roles.specs.Things.{is_object}
use Rattle.aom_roles.specs.Tests.{AllTrue, only_if}
use Rattle.aom_semantics.specs.Tokens.{next_token, promised}
use Rattle.aom_semantics.specs.Requests.{cancel_method, ended_cells, on_request, own_request}

-- ---- an instruction

module _ (p : Image) (linked : IsLinked p) (c : Choice) (s : State) (fr : Frame) (ts : List Task) (d : Method_declared)
    (declared_there : method_at p fr.method ≡ Some d) where
  abbrev pub before : ℕ
  before = tasks_rank p (Run fr ∷ ts) + (standing s.cells + operations s.items) * cell_rank p

  -- what is left once the method is over
  abbrev beyond : ℕ
  beyond = over_rank_term (rank_worths p) fr.method ts + waiting_rank p ts

  -- what the method has before it, at other counters and another place
  abbrev pub rest_at : List ℕ → ℕ → ℕ
  rest_at cs k = left_in (method_at p fr.method) cs k * price p fr.method

  pub paid : (cs : List ℕ) (k : ℕ) → left d.code cs k < left d.code fr.counters fr.place → rest_at cs k + price p fr.method ≤ frame_rank p fr
  paid cs k less = grind (arith, nat_tests, scaled)

  -- the method goes on there, with as many cells and operations or fewer
  goes : (cs : List ℕ) (k m : ℕ) → left d.code cs k < left d.code fr.counters fr.place → m ≤ standing s.cells + operations s.items →
      rest_at cs k + beyond + m * cell_rank p < before
  goes cs k m less fewer = omega (arith, paid cs k less, price_some p fr.method, scaled_le m (standing s.cells + operations s.items) (cell_rank p) fewer)

  module _ (i : Instr) (stands : slice_get d.code fr.place ≡ Some i) where
    pub straight : loop_in (Some i) ≡ None → left d.code fr.counters (suc fr.place) < left d.code fr.counters fr.place
    straight plain = straight_on d.code fr.counters fr.place i stands plain

    pub on : loop_in (Some i) ≡ None → (m : ℕ) → m ≤ standing s.cells + operations s.items → rest_at fr.counters (suc fr.place) + beyond + m * cell_rank p < before
    on plain m fewer = goes fr.counters (suc fr.place) m (straight plain) fewer

    to_jump : (to : ℕ) → jump_of i ≡ Some to → rest_at fr.counters to + beyond + (standing s.cells + operations s.items) * cell_rank p < before
    unfolding method_at
    to_jump to jump = grind (arith, nat_tests, goes fr.counters to, jumps d.code fr.counters fr.place to i, at_place)

  nests : LoopsNest d.code
  unfolding method_at
  nests = at_place (λ _ x. LoopsNest x.code) p.methods fr.method d linked.loops declared_there

  calls : (i : Instr) (target : Target) (m first : ℕ) → slice_get d.code fr.place ≡ Some i → loop_in (Some i) ≡ None → CallsBelow p fr.method m →
      only_if (is_quiet p fr.method) (is_quiet p m) ≡ true → rank p (applied p fr ts s (Calls target m first)) < before
  calls i target m first stands plain below quiet =
      let less = paid fr.counters (suc fr.place) (straight i stands plain) in
      let view = target_view p fr ts s target (method_class p m) in
      let k = run_by p fr ts s target m in
      let lower = called_lower p fr.method k (body_before p fr.method m view below)
      (λ q. body_quiet p linked.overriders.each m view (subst (λ b. only_if b (is_quiet p m) ≡ true) q quiet)) in
      let run = run_paid p k _ lower in
      let passed = passed_less standing standing_passes p fr ts s (length (Run fr ∷ ts)) (arguments_of p m) first 0 s.cells in
      let cells = scaled_le (standing (passed_cells p fr ts s (length (Run fr ∷ ts)) (arguments_of p m) first 0 s.cells) + operations s.items)
      (standing s.cells + operations s.items) (cell_rank p) (omega (arith, passed)) in
      omega (arith, less, run, cells)

  cancels : (i : Instr) (m : ℕ) → slice_get d.code fr.place ≡ Some i → loop_in (Some i) ≡ None → (m < fr.method) × (is_quiet p m ≡ true) →
      rank p (applied p fr ts s (Cancels m)) < before
  cancels i m stands plain below = grind (
    arith,
    nat_tests,
    paid fr.counters,
    straight i stands plain,
    called_lower p fr.method m below.0,
    run_paid p m,
    standing_asked s.cells fr.receiver,
    scaled_le,
  )

  traps : (i : Instr) (target : Target) (m first : ℕ) → slice_get d.code fr.place ≡ Some i → loop_in (Some i) ≡ None → CallsBelow p fr.method m →
      is_quiet p fr.method ≡ false → rank p (applied p fr ts s (Sets_trap target m first)) < before
  traps i target m first stands plain below nonquiet =
      let less = paid fr.counters (suc fr.place) (straight i stands plain) in
      let k = run_by p fr ts s target m in
      let lower = called_lower p fr.method k (body_before p fr.method m (target_view p fr ts s target (method_class p m)) below)
      (λ q. absurd (true≢false (sym q ∙ nonquiet))) in
      let run = run_paid p k _ lower in
      let passed = passed_less standing standing_passes p fr ts s (length (Trapped ∷ Run fr ∷ ts)) (arguments_of p m) first 0 s.cells in
      let cells = scaled_le (standing (passed_cells p fr ts s (length (Trapped ∷ Run fr ∷ ts)) (arguments_of p m) first 0 s.cells) + operations s.items)
      (standing s.cells + operations s.items) (cell_rank p) (omega (arith, passed)) in
      omega (arith, less, run, cells)

  -- ---- the cleanup stack, and leaves

  -- what is left of a state whose methods end up to the trap: so many cells and operations, one more at most
  leaves_on : (i : Instr) → slice_get d.code fr.place ≡ Some i → loop_in (Some i) ≡ None →
      is_quiet p fr.method ≡ false → (m : ℕ) → m ≤ suc (standing s.cells + operations s.items) → 1 + waiting_rank p (to_trap ts) + m * cell_rank p < before
  leaves_on i stands plain nonquiet m more =
      grind (arith, nat_tests, paid fr.counters, straight i stands plain, one_more m, to_trap_less, cell_paid p fr.method nonquiet, cell_two p)

  -- an item more, an operation at most
  pushes_on : (i : Instr) → slice_get d.code fr.place ≡ Some i → loop_in (Some i) ≡ None → is_quiet p fr.method ≡ false →
      (m : ℕ) → m ≤ suc (standing s.cells + operations s.items) → rest_at fr.counters (suc fr.place) + beyond + m * cell_rank p < before
  pushes_on i stands plain nonquiet m more =
      grind (arith, nat_tests, paid fr.counters, straight i stands plain, one_more m, cell_paid p fr.method nonquiet, cell_some p)

  -- ---- what an update leaves of cells and operations

  abbrev count_after : Update → ℕ
  count_after u = standing (cells_after p fr ts s u) + operations (items_after u s.items)

  spot_stands : (x : Spot) → is_going (spot_place p fr ts s x) ≡ false
  spot_stands x = grind (arith, nat_tests, field_stands fr.receiver)

  -- one more at most
  more : (u : Update) → count_after u ≤ suc (standing s.cells + operations s.items)
  more x = grind (
    arith,
    nat_tests,
    standing_moved,
    spot_stands,
    standing_new,
    standing_stored s.cells fr.receiver,
    standing_asked s.cells fr.receiver,
    standing_opened s.cells fr.receiver,
    standing_without,
    standing_redeemed,
    operations_below s.items,
  )

  -- ---- the effects

  nonquiet_by : (b : Bool) → not b ≡ true → b ≡ false
  nonquiet_by b e = false_given (λ x. not x ≡ true) b e (λ quiet. cc) (λ nonquiet f. nonquiet)

  module _ (sh : AbstractState) where
    abbrev Ruled : Instr → Type 0
    Ruled i = AllTrue (rule_needs p fr.method fr.place sh i)

    -- what it runs comes before the method
    abbrev Below : Instr → Type 0
    Below i = RunsBelow p fr.method d.class i

    runs : (i : Instr) → slice_get d.code fr.place ≡ Some i → Below i
    runs i stands = runs_below p linked fr.method fr.place d i declared_there stands

    -- what makes, or leaves, is not quiet
    nonquiet_maker : (i : Instr) → makes (Some i) ≡ true → Ruled i → is_quiet p fr.method ≡ false
    nonquiet_maker i e r = grind (arith, nonquiet_by (is_quiet p fr.method))

    nonquiet_leaving : (i : Instr) (code : ℤ) → LeavesWith c fr i code → Ruled i → is_quiet p fr.method ≡ false
    nonquiet_leaving i code e r = grind (arith, nat_tests, nonquiet_by, nonquiet_leaver p linked fr.method)

    -- the method goes on after an update
    goes_after : (i : Instr) → slice_get d.code fr.place ≡ Some i → loop_in (Some i) ≡ None → Ruled i → (u : Update) → FitsUpdate ts s.items i u →
        rest_at fr.counters (suc fr.place) + beyond + count_after u * cell_rank p < before
    goes_after i stands plain r (Made name x a) f = pushes_on i stands plain (nonquiet_maker i f r) (count_after (Made name x a)) (more (Made name x a))
    goes_after i stands plain r (Pushed a) f = grind (arith, nat_tests, pushes_on i stands plain, nonquiet_leaver p linked fr.method, more (Pushed a))
    goes_after i stands plain r (Pushed_operation m w) f =
        pushes_on i stands plain (nonquiet_leaver p linked fr.method (subst Ruled (operation_is i f.0 m f.1) r).1.0) (count_after (Pushed_operation m w)) (more (Pushed_operation m w))
    goes_after i stands plain r Same f = on i stands plain (count_after Same) (omega arith)
    goes_after i stands plain r (Carried from to) f = grind (arith, nat_tests, on i stands plain, standing_moved, spot_stands from)
    goes_after i stands plain r (Written w v) f = on i stands plain (count_after (Written w v)) (omega (arith, standing_stored s.cells fr.receiver w v))
    goes_after i stands plain r (Requested q) f = on i stands plain (count_after (Requested q)) (omega (arith, standing_asked s.cells fr.receiver q))
    goes_after i stands plain r (Sessioned b) f = on i stands plain (count_after (Sessioned b)) (omega (arith, standing_opened s.cells fr.receiver b))
    goes_after i stands plain r (Replied a code) f = grind (arith, nat_tests, on i stands plain, standing_without, standing_redeemed)
    goes_after i stands plain r (Handed name a) f = on i stands plain
        (count_after (Handed name a)) (omega (arith, standing_asked s.cells fr.receiver (on_request (promised (next_token s.cells)) (own_request s.cells fr.receiver))))
    goes_after i stands plain r (Popped a) f = grind (arith, nat_tests, on i stands plain, standing_moved, operations_below s.items)
    goes_after i stands plain r Popped_operation f = on i stands plain (count_after Popped_operation) (omega (arith, operations_below s.items))

    -- a round of a loop begins or ends
    counts : (i : Instr) → slice_get d.code fr.place ≡ Some i → (depth n : ℕ) → Sets i depth n → rank p (applied p fr ts s (Counts depth n)) < before
    counts i stands depth n x = grind (arith, nat_tests, goes, enters, nests, leaves, stands_so)

    -- an object goes over the method
    deletes : (i : Instr) → slice_get d.code fr.place ≡ Some i → loop_in (Some i) ≡ None → (o : Object) (a : ℕ) (words : List (Option ℤ)) →
        held s.cells (here fr ts s a) ≡ Some o → is_object o.thing ≡ true → rank p (applied p fr ts s (Destroys o a words)) < before
    deletes i stands plain o a words there object = grind (arith, nat_tests, paid, straight, begun_paid, goes, standing_goes, one_less, price_some)

    deletes_last : (i : Instr) → slice_get d.code fr.place ≡ Some i → loop_in (Some i) ≡ None → (o : Object) → s.items ≡ An_object ∷ below_top s.items →
        held s.cells (top_place s.items) ≡ Some o → is_object o.thing ≡ true → rank p (applied p fr ts s (Destroys_last o)) < before
    deletes_last i stands plain o top there object = grind (arith, nat_tests, paid, straight, begun_paid, goes, standing_goes, one_less, price_some)

    -- a method that calls a quiet one, or is not quiet
    pub falls : AllUndo p s.items → (i : Instr) → slice_get d.code fr.place ≡ Some i → Ruled i → (e : Effect) → Fits p c fr ts s i e →
        ((g : Gives) (a : ℕ) → transfer_of i ≡ transfer.Return a → rank p (returned p fr ts (record s { cells = ended_cells p fr s.cells }) g a ts) < before) →
        ((a : ℕ) (o : Object) → action_of i ≡ action.Destroy a → held s.cells (here fr ts s a) ≡ Some o → is_object o.thing ≡ true) →
        ((o : Object) → held s.cells (top_place s.items) ≡ Some o → is_object o.thing ≡ true) →
        ((m : ℕ) → action_of i ≡ action.Cancel → cancel_method p fr ≡ Some m → (m < fr.method) × (is_quiet p m ≡ true)) → rank p (applied p fr ts s e) < before
    falls undo_operations i stands r (Goes_on ch) f returns plain lasts lower = goes_after i stands f.0 r ch.update f.1
    falls undo_operations i stands r (Jumps to) f returns plain lasts lower = to_jump i stands to f
    falls undo_operations i stands r (Counts depth n) f returns plain lasts lower = counts i stands depth n f
    falls undo_operations i stands r (Repeats depth n to) f returns plain lasts lower = grind (arith, nat_tests, goes, back, nests, stands_so)
    falls undo_operations i stands r (Calls target m first) f returns plain lasts lower =
        calls i target m first stands (straight_by p c fr ts s i (Calls target m first) f) (subst Below (call_is i target m first f.0 f.1) (runs i stands))
        (grind (arith, nat_tests, all_parts))
    falls undo_operations i stands r (Cancels m) f returns plain lasts lower =
        cancels i m stands (straight_by p c fr ts s i (Cancels m) f) (lower m f.0 f.1)
    falls undo_operations i stands r (Sets_trap target m first) f returns plain lasts lower =
        traps i target m first stands (straight_by p c fr ts s i (Sets_trap target m first) f) (subst Below (trap_is i target m first f.0 f.1) (runs i stands))
        (nonquiet_by (is_quiet p fr.method) (subst Ruled (trap_is i target m first f.0 f.1) r).0)
    falls undo_operations i stands r (Returns g a) f returns plain lasts lower = returns g a f.0
    falls undo_operations i stands r (Leaves code u) f returns plain lasts lower =
        leaves_on i stands (straight_by p c fr ts s i (Leaves code u) f) (nonquiet_leaving i code f.1 r) (count_after u) (more u)
    falls undo_operations i stands r (Destroys o a words) f returns plain lasts lower =
        deletes i stands (straight_by p c fr ts s i (Destroys o a words) f) o a words f.1 (plain a o f.0 f.1)
    falls undo_operations i stands r (Destroys_last o) f returns plain lasts lower =
        deletes_last i stands (straight_by p c fr ts s i (Destroys_last o) f) o f.1 f.2 (lasts o f.2)
    falls undo_operations i stands r (Operates m w) f returns plain lasts lower =
        grind (arith, nat_tests, paid, straight, undo_paid, one_less, price_some, straight_by p c fr ts s i (Operates m w) f)
