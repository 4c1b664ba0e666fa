-- Each instruction keeps the room that a run needs.
use Rattle.std.proofs.lemmas.Bool.Decides.{nat_tests}
use Rattle.std.proofs.Common.{Bool, List, None, Option, Some, [], ap, arith, cond, false, inl, length, refl, subst}
use Rattle.std.proofs.Common.{suc, sym, true, ℕ, ℤ, pos, ◌&&◌, ◌==◌, ◌+◌, ◌-◌, ◌<◌, ◌∙◌, ◌∷◌, ◌≡◌, ◌≤◌}
use Rattle.aom_machine_instructions.proofs.ImageLemmas.{false_given, some_given}
use Rattle.aom_machine_instructions.proofs.InstructionsLemmas.{call_is, operation_is, push_is, return_is, trap_is}
use Rattle.std.proofs.lemmas.Bool.{ne_eqb}
use Rattle.std.specs.Prelude.{is_some, not, ◌||◌}
use Rattle.aom_image.specs.Image.{Image}
use Rattle.aom_image.specs.Views.{action_in, arguments_of, gives_of, instr_at, is_quiet, leaves, method_class, method_role}
use Rattle.aom_instructions.specs.Table.{action_of}
use Rattle.aom_instructions.specs.declared.action.Action.{Action}
use Rattle.aom_instructions.specs.declared.action.Action.TheVariants as action
use Rattle.aom_instructions.specs.declared.action.CallMode.{CallMode}
use Rattle.aom_instructions.specs.declared.action.CallMode.TheVariants.{Plain, Trapped as Under_trap}
use Rattle.aom_instructions.specs.declared.instr.Instr.{Instr}
use Rattle.aom_instructions.specs.declared.instr.Target.{Target}
use Rattle.aom_image.specs.declared.method.Argument.{Argument}
use Rattle.aom_image.specs.declared.method.Argument.TheVariants.{Own as Takes_own, Word as Takes_word}
use Rattle.aom_image.specs.declared.method.Gives.{Gives}
use Rattle.aom_image.specs.declared.method.Gives.TheVariants.{Nothing}
use Rattle.aom_image.specs.declared.method.Thing.{Thing}
use Rattle.aom_image.specs.declared.method.Thing.TheVariants.{Object as An_object_of, Message}
use Rattle.aom_roles.specs.Tests.{AllTrue}
use Rattle.aom_roles.specs.Roles.{is_construct}
use Rattle.aom_machine_instructions.proofs.LinkConditionsLemmas.{of_method}
use Rattle.aom_typing_rules.specs.Calls.{each_argument, rule_target}
use Rattle.aom_typing_rules.specs.Cleanup.{entry_of}
use Rattle.aom_abstract_state.specs.Entries.{with_entry}
use Rattle.aom_abstract_state.specs.Kinds.{no_entry, register, set_register}
use Rattle.aom_typing_rules.specs.Rules.{flows, rule_needs}
use Rattle.aom_abstract_state.specs.AbstractState.{AbstractState}
use Rattle.aom_roles.specs.Tables.{at}
use Rattle.aom_typing_rules.specs.Typing.{AllLead, Leads, Typing, shape_at}
use Rattle.aom_abstract_state.specs.declared.kind.CleanupEntry.{CleanupEntry}
use Rattle.aom_abstract_state.specs.declared.kind.CleanupEntry.TheVariants.{Operation}
use Rattle.aom_abstract_state.specs.declared.kind.Kind.{Kind}
use Rattle.aom_abstract_state.specs.declared.kind.Kind.TheVariants.{Maybe, Null, Own}
use Rattle.aom_static_bounds.specs.Strongest.{IsStrongest}
use Rattle.aom_static_bounds.specs.Calls.{Among, MayCall, called_for, callees, cancels, destructors, object_class, thing_class}
use Rattle.aom_static_bounds.specs.Charges.{A_call, A_cancel, A_destruction, An_operation, Charge, charge_of}
use Rattle.aom_static_bounds.specs.Heights.{CallsOver, IsCall, StandsWith}
use Rattle.aom_static_bounds.specs.Layers.{MayRun}
use Rattle.aom_machine_instructions.proofs.SafetyLemmas.{all_parts, body_leaves, body_quiet, cancel_family, cancel_quiet, destroys, ended_alike, held_served}
use Rattle.aom_machine_instructions.proofs.SafetyLemmas.{held_set_word, length_forms, length_objects, none_left, only_then, redeemed_by_alike}
use Rattle.aom_machine_instructions.proofs.SafetyLemmas.{request_updated_alike, session_updated_alike, returnable}
use Rattle.aom_machine_instructions.proofs.SemanticsLemmas.{held_moved, held_without, same_place_refl}
use Rattle.aom_machine_instructions.proofs.StaticBoundsLemmas.{cancel_among, kept_in_line, run_among, runs_among, stands_among}
use Rattle.aom_machine_instructions.proofs.RolesLemmas.{itself}
use Rattle.aom_semantics.specs.Calls.{ended_well, accepted_cells, below_top, entered, given_cells, over_caller, over_trap, passed_cells}
use Rattle.aom_semantics.specs.Calls.{received, result_cells, result_register, returned, run_by, target_view}
use Rattle.aom_safety.specs.Claims.{objects}
use Rattle.aom_semantics.specs.Cleanup.{operation_frame, top_place}
use Rattle.aom_link_conditions.specs.Roles.{destructor_of}
use Rattle.aom_semantics.specs.Destruction.{destructor_frame, begun, begun_by, destructed, line_on, next_destructor}
use Rattle.aom_semantics.specs.Effects.{Handed, Replied, Calls, Cancels, Carried, Counts, Destroys, Destroys_last, Effect, Goes_on, Jumps, Leaves}
use Rattle.aom_semantics.specs.Effects.{Made, Operates, Popped, Popped_operation, Pushed, Pushed_operation, Repeats, Requested, Returns, Same, Sets_trap}
use Rattle.aom_semantics.specs.Effects.{Spot, Update, Written, applied, cells_after, items_after, spot_place, with_words, Sessioned}
use Rattle.aom_safety.specs.Laws.{IsWired}
use Rattle.aom_safety.specs.Steps.{Fits as May, FitsUpdate}
use Rattle.aom_semantics.specs.Places.{Session, Place, Elsewhere, Cell, Entry, Going, Object, Register, CellView, held, moved, same_place, seen, without}
use Rattle.aom_semantics.specs.State.{Of_server, Dispatch, Accepts, A_mark, An_object, An_operation, Choice, Destroy, Dispatched, Frame}
use Rattle.aom_semantics.specs.State.{Receiver, Inside, Item, Run, State, Task, Trapped, Unwind, field_place, frame_as, next, set_word}
use Rattle.aom_safety.specs.WellTyped.{AllUndo, Fits, IsUndo}
use Rattle.aom_semantics.specs.Words.{here, stored}
use Rattle.aom_machine_state.specs.Room.{Destructs, IsUnder, NoClosing, below_height, entries_in, may_push}
use Rattle.aom_machine_instructions.proofs.MachineStateLemmas.{AllLow, LowUnder, Roomy, SameBelow, Stands_here, begins, closing_begins, dropped, going_begins}
use Rattle.aom_machine_instructions.proofs.MachineStateLemmas.{held_apart, item_pushed, lower, off_to_trap, own_entries, popped, popped_top, recelled}
use Rattle.aom_machine_instructions.proofs.MachineStateLemmas.{top_under}
use Rattle.aom_semantics.specs.Requests.{begun_cells, cancel_method, cancelling, ended_cells, on_request, own_request}
use Rattle.aom_semantics.specs.Tokens.{redeemed_by, token_of}
use Rattle.aom_machine_instructions.proofs.InheritanceLemmas.{body_runs}
use Rattle.aom_semantics.specs.Servers.{is_server}

-- what runs as an object goes may run as one of the class does that its register's kind tells
destructs_as : (p : Image) (h : CellView) (o : Object) (k : Kind) (m : ℕ) → Fits p h (Some o) k → Destructs p (Some o) m → Among m (destructors p (object_class k))
destructs_as p h o (Own t a) m fits e = stands_among p o.thing t m fits.0 e
destructs_as p h o (Maybe t a) m fits e = stands_among p o.thing t m fits.0 e
destructs_as p h o _ m fits e = absurd (assumption tt)

-- its own destructor does
own_destructs : (p : Image) (o : Object) (m : ℕ) → destructor_of p o.thing ≡ Some m → Destructs p (Some o) m
own_destructs p o m e = go o.thing e
  where
    go : (x : Thing) → destructor_of p x ≡ Some m → Among m (destructors p (thing_class x))
    go (An_object_of c) e = runs_among p (An_object_of c) m (An_object_of c, itself p c, inl (kept_in_line p c m e))
    go Message e = cc

-- what comes to no entries calls nothing that may
pushes_from : (quiet quiet' leave leave' : Bool) → (quiet ≡ true → quiet' ≡ true) → (leave' ≡ true → leave ≡ true) → (not quiet' || leave') ≡ true →
    (not quiet || leave) ≡ true
pushes_from x quiet' leave leave' q l may = grind arith

pushes_where : (quiet leave : Bool) → leave ≡ true → (not quiet || leave) ≡ true
pushes_where quiet leave e = grind arith

pushes_nonquiet : (quiet leave : Bool) → not quiet ≡ true → (not quiet || leave) ≡ true
pushes_nonquiet quiet leave e = grind arith

pushes_none : (quiet leave : Bool) → quiet ≡ true → leave ≡ false → (not quiet || leave) ≡ true → ⊥
pushes_none x leave q l may = grind arith

-- a field's place is no entry
field_apart : (receiver : Receiver) (f k : ℕ) → same_place (field_place receiver f) (Entry k) ≡ false
field_apart x f k = grind arith

-- nor one where a cell goes
field_stays : (receiver : Receiver) (f k : ℕ) → same_place (field_place receiver f) (Going k) ≡ false
field_stays x f k = grind arith

pub entry_apart : (j k : ℕ) → k < j → same_place (Entry j) (Entry k) ≡ false
entry_apart j k lt = ap (λ b. b && (0 == 0)) (ne_eqb j k (λ e. absurd (omega (arith, lt, e))))

pub going_apart : (j k : ℕ) → k < j → same_place (Going j) (Going k) ≡ false
going_apart j k lt = ap (λ b. b && (0 == 0)) (ne_eqb j k (λ e. absurd (omega (arith, lt, e))))

-- an entry of the cleanup stack, or where a cell goes
abbrev pub IsDealt : Place → Type 0
IsDealt (Entry k) = Unit {0}
IsDealt (Going k) = Unit {0}
IsDealt _ = ⊥

-- what goes from another place goes there
pub goes_there_now : (cs : List Cell) (q : Place) (d : ℕ) → held cs (Going d) ≡ None → same_place q (Going d) ≡ false →
    held (moved q (Going d) cs) (Going d) ≡ held cs q
goes_there_now cs q d free apart = grind (arith, nat_tests, held_moved cs q (Going d) (Going d) free, same_place_refl (Going d))

-- where all these are as they were
pub same_all : (cs cs' : List Cell) (n d : ℕ) → ((r : Place) → IsDealt r → held cs' r ≡ held cs r) → SameBelow cs cs' n d
same_all cs cs' n d same = (λ k lt. same (Entry k) tt, λ k lt. same (Going k) tt)

register_apart : (d a : ℕ) (e : Place) → IsDealt e → same_place (Register d a) e ≡ false
register_apart d a e dealt = grind arith

-- what is dealt with is as it was
stored_same : (cs : List Cell) (receiver : Receiver) (w : ℕ) (v : ℤ) (e : Place) → held (stored cs receiver w v) e ≡ held cs e
stored_same cs x w v e = grind (arith, nat_tests, held_set_word cs)

passed_same : (p : Image) (fr : Frame) (ts : List Task) (s : State) (d : ℕ) (xs : List Argument) (first to : ℕ) (cs : List Cell) (e : Place) →
    IsDealt e → held (passed_cells p fr ts s d xs first to cs) e ≡ held cs e
passed_same p fr ts s d [] first to cs e dealt = refl
passed_same p fr ts s d (Takes_word ∷ xs) first to cs e dealt = passed_same p fr ts s d xs (suc first) (suc to) cs e dealt
passed_same p fr ts s d (Takes_own t ∷ xs) first to cs e dealt =
    grind (arith, nat_tests, passed_same p fr ts s d xs, held_apart cs, register_apart d to e dealt)

result_same : (p : Image) (fr : Frame) (ts : List Task) (s : State) (g : Gives) (a x : ℕ) (below : List Task) (e : Place) → IsDealt e →
    held (result_cells p fr ts s g a x below) e ≡ held s.cells e
result_same p fr ts s x a y below e dealt = grind (arith, nat_tests, held_apart s.cells, register_apart)

-- a session moves to its place
pub session_apart : (n c : ℕ) (e : Place) → IsDealt e → same_place (Elsewhere (Session n c)) e ≡ false
session_apart n c e dealt = grind arith

accepted_same : (d : Dispatch) (from : Place) (cs : List Cell) → ((e : Place) → IsDealt e → same_place from e ≡ false) → (e : Place) → IsDealt e →
    held (accepted_cells d from cs) e ≡ held cs e
accepted_same (Of_server x c Accepts) from cs apart e dealt = grind (arith, nat_tests, held_served, held_apart cs from, session_apart x.object.name c e dealt)
accepted_same _ from cs apart e dealt = refl

-- the destructor that follows in the line runs as the cell goes too, and is quiet
pub record NextGoes (p : Image) (cs : List Cell) (m : ℕ) (below : List Task) : Type 0 where
  pub gives : gives_of p m ≡ Nothing
  pub next : (k : ℕ) → next_destructor p m ≡ Some k → Destructs p (held cs (Going (length below))) k × (is_quiet p k ≡ true) × (leaves p k ≡ false)

-- so is it of a method that runs over a cell that goes
abbrev pub LineGoes : Image → List Cell → ℕ → List Task → Type 0
LineGoes p cs m (Destroy ∷ below) = NextGoes p cs m below
LineGoes p cs m _ = Unit {0}

-- what an instruction is charged for, by what it does
call_charged : (i : Instr) (how : CallMode) (target : Target) (m first x : ℕ) → action_of i ≡ action.Call how target m first x → charge_of i ≡ A_call m
call_charged i how target m first x is = grind arith

operation_charged : (i : Instr) (a m : ℕ) → action_of i ≡ action.PushOperation a m → charge_of i ≡ An_operation m
operation_charged i a m is = grind arith

push_charged : (i : Instr) (a : ℕ) → action_of i ≡ action.Push a → charge_of i ≡ A_destruction a
push_charged i a is = grind arith

destruction_charged : (i : Instr) (a : ℕ) → action_of i ≡ action.Destroy a → charge_of i ≡ A_destruction a
destruction_charged i a is = grind arith

cancel_charged : (i : Instr) → action_of i ≡ action.Cancel → charge_of i ≡ A_cancel
cancel_charged i is = grind arith

-- the tables of depths and of heights
pub record Tables (p : Image) (t : Typing) (depth heights : ℕ → ℕ) : Type 0 where
  pub wired : IsWired p
  pub strongest : IsStrongest p t
  pub less : (m k : ℕ) → MayCall p m k → depth k < depth m
  pub own : (m n : ℕ) → StandsWith p m n → n ≤ heights m
  pub under : (m k h : ℕ) → CallsOver p m k h → (h + heights k) ≤ heights m

module _ (p : Image) (t : Typing) (depth heights : ℕ → ℕ) (tables : Tables p t depth heights) where
  -- ---- what leaves the cleanup stack is dealt with

  -- its destructor begins, if it has one
  pub destructed_over : (cs : List Cell) (items : List Item) (o : Object) (ts : List Task) → ((m : ℕ) → Destructs p (Some o) m → IsUnder depth (depth m) ts) →
      Roomy p depth heights cs items (Destroy ∷ ts) → Roomy p depth heights cs items (destructed p o (length items) ts)
  destructed_over cs items o ts under w = go (destructor_of p o.thing) refl
    where
      go : (d : Option ℕ) → destructor_of p o.thing ≡ d → Roomy p depth heights cs items (begun_by p d o (length items) ts)
      go None e = w
      go (Some m) e =
          let x = destroys p tables.wired o.thing m e in
          begins p depth heights cs items (destructor_frame p m o (length ts) (length items))
          (Destroy ∷ ts) refl (under m (own_destructs p o m e)) (λ may. absurd (pushes_none (is_quiet p m) (leaves p m) x.quiet x.stays may)) w

  -- of a server nothing is begun over another that lets go of its sessions
  pub begins_over : (cs : List Cell) (items : List Item) (o : Object) (ts : List Task) →
      held cs (Going (length ts)) ≡ Some o → ((m : ℕ) → Destructs p (Some o) m → IsUnder depth (depth m) ts) → (is_server p o.thing ≡ true → NoClosing ts) →
      Roomy p depth heights cs items ts → Roomy p depth heights cs items (begun p o (length items) ts)
  begins_over cs items o ts there under lone w = grind (
    arith,
    nat_tests,
    Roomy p depth heights cs items (Destroy ∷ ts),
    going_begins p depth heights cs items ts,
    under,
    Roomy p depth heights cs items,
    closing_begins p depth heights cs items ts,
    destructed_over cs items o ts under,
  )

  pub clears : (cs : List Cell) (items : List Item) (o : Object) (ts : List Task) → held cs (Entry (length items)) ≡ Some o →
      held cs (Going (length ts)) ≡ None → NoClosing ts → AllLow (length items) ts → Roomy p depth heights cs (An_object ∷ items) ts
      → Roomy p depth heights (moved (Entry (length items)) (Going (length ts)) cs) items (begun p o (length items) ts)
  clears cs items o ts there free lone low w =
      let cells' = moved (Entry (length items)) (Going (length ts)) cs in
      begins_over cells' items o ts (goes_there_now cs (Entry (length items)) (length ts) free refl ∙ there)
      (λ m d. top_under p depth heights cs An_object items ts m low (subst (λ x. Destructs p x m) (sym there) d) w.1) (λ server. lone)
      (recelled p depth heights cs cells' items ts (
        λ k lt. held_apart cs (Entry (length items)) (Going (length ts)) (Entry k) (entry_apart (length items) k lt) refl,
        λ k lt. held_apart cs (Entry (length items)) (Going (length ts)) (Going k) refl (going_apart (length ts) k lt),
      ) (popped p depth heights cs An_object items ts low w))

  pub undoes : (cs : List Cell) (items : List Item) (m : ℕ) (w : ℤ) (ts : List Task) → IsUndo p m → AllLow (length items) ts →
      Roomy p depth heights cs (An_operation m w ∷ items) ts → Roomy p depth heights cs items (Run (operation_frame m w (length items)) ∷ ts)
  undoes cs items m w ts undo low room = begins p depth heights cs items (operation_frame m w (length items)) ts refl
      (top_under p depth heights cs (An_operation m w) items ts m low refl room.1)
      (λ may. absurd (pushes_none (is_quiet p m) (leaves p m) undo.quiet undo.leaves may)) (popped p depth heights cs (An_operation m w) items ts low room)

  -- what an instruction calls is less deep than its method
  pub may_call : (fr : Frame) (sh : AbstractState) → shape_at t fr.method fr.place ≡ Some sh →
      (i : Instr) (k : ℕ) → instr_at p fr.method fr.place ≡ Some i → Among k (callees p fr.method sh i) → depth k < depth fr.method
  may_call fr sh there i k stands calls = tables.less fr.method k (record {
    states = at [] t fr.method;
    strongest = tables.strongest.each fr.method (ap is_some (of_method p fr.method fr.place i stands).1);
    place = fr.place;
    calls = record { shape = sh; there = there; instr = i; stands = stands; calls = calls };
  })

  -- ---- a method's move

  module _ (c : Choice) (fr : Frame) (ts : List Task) (s : State) (undo_operations : AllUndo p s.items) (has_task : s.tasks ≡ Run fr ∷ ts)
      (h : Stands_here p t s fr ts) (unheld : held s.cells (Going (length (Run fr ∷ ts))) ≡ None) (w : Roomy p depth heights s.cells s.items (Run fr ∷ ts))
      (line : LineGoes p s.cells fr.method ts) where
    abbrev R : State → Type 0
    R u = Roomy p depth heights u.cells u.items u.tasks

    -- once the method has changed that
    abbrev After : Update → Type 0
    After u = Roomy p depth heights (cells_after p fr ts s u) (items_after u s.items) (Run fr ∷ ts)

    given : R s
    given = subst (λ l. Roomy p depth heights s.cells s.items l) (sym has_task) w

    -- all the items, of which the last ones are the method's
    high : length s.items ≡ length (objects h.shape.entries h.below)
    high = sym (length_forms s.items) ∙ ap length h.items

    fr_low : fr.height ≤ length s.items
    fr_low = omega (arith, high, h.height, length_objects h.shape.entries h.below)

    all_low : AllLow (length s.items) (Run fr ∷ ts)
    all_low = (fr_low, lower fr.height (length s.items) ts fr_low h.low)

    counted_own : entries_in s.items ≡ length h.shape.entries + entries_in (below_height fr.height s.items)
    counted_own = grind (arith, nat_tests, own_entries h.shape.entries h.below s.items h.items)

    moves : (cs' : List Cell) → ((e : Place) → IsDealt e → held cs' e ≡ held s.cells e) → Roomy p depth heights cs' s.items (Run fr ∷ ts)
    moves cs' same = recelled p depth heights s.cells cs' s.items (Run fr ∷ ts) (same_all s.cells cs' (length s.items) (length (Run fr ∷ ts)) same) w

    -- what the rule of an instruction asks, and where it leads
    abbrev Ruled : Instr → Type 0
    Ruled i = AllTrue (rule_needs p fr.method fr.place h.shape i)

    abbrev Leading : Instr → Type 0
    Leading i = AllLead t fr.method (flows p fr.method fr.place h.shape i)

    -- ---- calls

    -- what may run for the charge of an instruction is less deep
    less_deep : (i : Instr) (g : Charge) (k : ℕ) → instr_at p fr.method fr.place ≡ Some i → charge_of i ≡ g →
        Among k (called_for p fr.method h.shape g) → depth k < depth fr.method
    less_deep i g k stands charge among =
        may_call fr h.shape h.there i k stands (subst (λ x. Among k (called_for p fr.method h.shape x)) (sym charge) among)

    -- a method that is called finds room for its entries
    finds : (i : Instr) (k m : ℕ) → instr_at p fr.method fr.place ≡ Some i → charge_of i ≡ A_call k → MayRun p k m → may_push p fr.method ≡ true →
        entries_in s.items + heights m ≤ 1024
    finds i k m stands charge runs may =
        let more = tables.under fr.method m (length h.shape.entries) (record {
          place = fr.place;
          shape = h.shape;
          stands = record { states = at [] t fr.method; strongest = tables.strongest.each fr.method (ap is_some (of_method p fr.method fr.place i stands).1); there = h.there };
          instr = i;
          here = stands;
          enters = subst (λ g. IsCall p g m) (sym charge) runs;
          count = refl;
        }) in
        let fit = w.2.0 may in
        omega (arith, more, fit, counted_own)

    call_room : (i : Instr) (target : Target) (m first x : ℕ) → instr_at p fr.method fr.place ≡ Some i → action_of i ≡ action.Call Plain target m first x →
        Ruled i → R (applied p fr ts s (Calls target m first))
    call_room i target m first x stands is r =
        let n = subst Ruled (call_is i target m first x is) r in
        let parts = all_parts (rule_target p fr.method h.shape target m (method_class p m) (is_construct (method_role p m)) first (length (arguments_of p m))) _ n in
        let more = all_parts (each_argument p h.shape (arguments_of p m) first) _ parts.1.1 in
        let view = target_view p fr ts s target (method_class p m) in
        let k = run_by p fr ts s target m in
        let there = (tables.wired.called fr.method fr.place target m first x (ap action_in stands ∙ ap (λ (a : Action). Some a) is)).there in
        let charge = call_charged i Plain target m first x is in
        begins p depth heights (given_cells p fr ts s (over_caller p fr ts s) m first) s.items (entered p fr ts s target m first (length s.items))
        (Run fr ∷ ts) refl (less_deep i (A_call m) k stands charge (run_among p m k (body_runs p m view)))
        (λ may. finds i m k stands charge (body_runs p m view) (pushes_from (is_quiet p fr.method) (is_quiet p k) (leaves p fr.method) (leaves p k)
        (λ q. body_quiet p tables.wired.overriders m view (only_then (is_quiet p fr.method) (is_quiet p m) more.1.1.0 q))
        (λ l. only_then (leaves p m) (leaves p fr.method) more.1.1.1.1.0 (body_leaves p tables.wired.overriders m view there l)) may))
        (moves (given_cells p fr ts s (over_caller p fr ts s) m first) (λ e dealt. passed_same p fr ts s _ (arguments_of p m) first 0 s.cells e dealt))

    trap_room : (i : Instr) (target : Target) (m first x : ℕ) → instr_at p fr.method fr.place ≡ Some i → action_of i ≡ action.Call Under_trap target m first x →
        Ruled i → R (applied p fr ts s (Sets_trap target m first))
    trap_room i target m first x stands is r =
        let cells' = given_cells p fr ts s (over_trap p fr ts s) m first in
        let nonquiet : not (is_quiet p fr.method) ≡ true = (subst Ruled (trap_is i target m first x is) r).0 in
        let may = pushes_nonquiet (is_quiet p fr.method) (leaves p fr.method) nonquiet in
        let runs = body_runs p m (target_view p fr ts s target (method_class p m)) in
        let charge = call_charged i Under_trap target m first x is in
        begins p depth heights cells' (A_mark ∷ s.items) (entered p fr ts s target m first (length (A_mark ∷ s.items))) (Trapped ∷ Run fr ∷ ts) refl
        (less_deep i (A_call m) (run_by p fr ts s target m) stands charge (run_among p m (run_by p fr ts s target m) runs))
        (λ _. finds i m (run_by p fr ts s target m) stands charge runs may) (item_pushed p depth heights cells' A_mark
        s.items (Run fr ∷ ts) all_low (λ k e. absurd e) w.3 (moves cells' (λ e dealt. passed_same p fr ts s _ (arguments_of p m) first 0 s.cells e dealt)))

    -- ---- returns

    goes_back : (cs : List Cell) (items : List Item) (g : Gives) (a x : ℕ) (caller : Frame) (below : List Task) →
        Roomy p depth heights cs items (Run caller ∷ below) → Roomy p depth heights cs items (Run (next (received p fr ts s g a x caller)) ∷ below)
    goes_back cs items x a y caller below v = grind arith

    goes_back_trapped : (cs : List Cell) (items : List Item) (g : Gives) (a x : ℕ) (caller : Frame) (below : List Task) (v : Option ℤ) → Roomy p depth heights
        cs items (Run caller ∷ below) → Roomy p depth heights cs items (Run (next (set_word (received p fr ts s g a x caller) (suc x) v)) ∷ below)
    goes_back_trapped cs items x a y caller below u v = grind arith

    -- the mark is gone
    low_top : (below : List Task) → AllLow (fr.height - 1) below → AllLow (length (below_top s.items)) below
    low_top below low = grind (arith, nat_tests, fr_low, AllLow, lower (fr.height - 1) 0 below, lower (fr.height - 1))

    -- the state as the method ends
    abbrev over : State
    over = record s { cells = ended_cells p fr s.cells }

    ended_same : (e : Place) → held over.cells e ≡ held s.cells e
    ended_same e = (ended_alike p fr s.cells).held_so e

    -- these tasks find the cells as they were
    again : (cs' : List Cell) (items : List Item) (us : List Task) →
        ((e : Place) → IsDealt e → held cs' e ≡ held over.cells e) → Roomy p depth heights s.cells items us → Roomy p depth heights cs' items us
    again cs' items us same v =
        recelled p depth heights s.cells cs' items us (same_all s.cells cs' (length items) (length us) (λ e dealt. same e dealt ∙ ended_same e)) v

    -- at its end a method has no items of its own
    ended_high : no_entry h.shape.entries ≡ true → length s.items ≡ fr.height
    ended_high none = go h.shape.entries high none
      where
        go : (es : List CleanupEntry) → length s.items ≡ length (objects es h.below) → no_entry es ≡ true → length s.items ≡ fr.height
        go [] same none = omega (arith, same, h.height)
        go (e ∷ es) same none = absurd cc

    -- the next destructor of a line begins, or the cell goes next
    line_room : (below : List Task) → NextGoes p s.cells fr.method below → (gives_of p fr.method ≡ Nothing → length s.items ≡ fr.height) →
        Roomy p depth heights s.cells s.items (Destroy ∷ below) → Roomy p depth heights over.cells s.items (line_on p fr.method fr.receiver fr.height below)
    line_room below goes ended v = on fr.receiver
      where
        there : Roomy p depth heights over.cells s.items (Destroy ∷ below)
        there = again over.cells s.items (Destroy ∷ below) (λ e dealt. refl) v

        by : (o : Object) (d : Option ℕ) → next_destructor p fr.method ≡ d → Roomy p depth heights over.cells s.items (begun_by p d o fr.height below)
        by o None e = there
        by o (Some m) e =
            let next = goes.next m e in
            begins p depth heights over.cells s.items (destructor_frame p m o (length below) fr.height) (Destroy ∷ below) (sym (ended goes.gives))
            (v.1.0 m next.0) (λ may. absurd (pushes_none (is_quiet p m) (leaves p m) next.1 next.2 may)) there

        on : (receiver : Receiver) → Roomy p depth heights over.cells s.items (line_on p fr.method receiver fr.height below)
        on (Inside o from) = by o (next_destructor p fr.method) refl
        on _ = there

    return_room : (g : Gives) (a : ℕ) (below : List Task) → LowUnder fr.height below → LineGoes p s.cells fr.method below →
        (gives_of p fr.method ≡ Nothing → length s.items ≡ fr.height) → Roomy p depth heights s.cells s.items below → R (returned p fr ts over g a below)
    return_room g a (Run caller ∷ below) low goes ended v =
        let x = result_register (instr_at p caller.method caller.place) in
        let cells' = result_cells p fr ts over g a x below in
        goes_back cells' s.items g a x caller below (again cells' s.items (Run caller ∷ below) (result_same p fr ts over g a x below) v)
    return_room g a (Trapped ∷ Run caller ∷ below) low goes ended v =
        let x = result_register (instr_at p caller.method caller.place) in
        let cells' = result_cells p fr ts over g a x below in
        goes_back_trapped cells' (below_top s.items) g a x caller below (Some (pos 0)) (popped_top p depth heights cells' s.items (Run caller ∷ below)
        (low_top (Run caller ∷ below) low) (again cells' s.items (Run caller ∷ below) (result_same p fr ts over g a x below) v))
    return_room g a (Trapped ∷ Dispatched d ∷ below) low goes ended v =
        let cells' = accepted_cells d (here fr ts over a) over.cells in
        popped_top p depth heights cells' s.items (Dispatched (ended_well d) ∷ below) (low_top (Dispatched d ∷ below) low)
        (again cells' s.items (Dispatched (ended_well d) ∷ below) (accepted_same d (here fr ts over a) over.cells (register_apart (length ts) a)) v)
    return_room g a (Destroy ∷ below) low goes ended v = line_room below goes ended v
    return_room g a (Dispatched d ∷ below) low goes ended v = again over.cells s.items (Dispatched d ∷ below) (λ e dealt. refl) v
    return_room g a (Unwind code ∷ below) low goes ended v = again over.cells s.items (Unwind code ∷ below) (λ e dealt. refl) v
    return_room g a _ low goes ended v = again over.cells s.items s.tasks (λ e dealt. refl) given

    -- ---- cancels

    -- the method that cancels is quiet, and comes to no entries
    cancel_room : (i : Instr) (m : ℕ) → instr_at p fr.method fr.place ≡ Some i → action_of i ≡ action.Cancel → cancel_method p fr ≡ Some m →
        R (applied p fr ts s (Cancels m))
    cancel_room i m stands is e =
        let its = cancel_family p fr m h.view e in
        let quiet = cancel_quiet p tables.wired fr m e in
        let stays : leaves p m ≡ false = grind (arith, nat_tests, false_given) in
        let among : Among m (cancels p (method_class p fr.method)) =
        subst (λ o. Among m (cancels p o)) (sym its.2) (cancel_among p (Some its.1) m (its.0, its.3, its.4)) in
        begins p depth heights (begun_cells fr s.cells) s.items (frame_as m fr.receiver fr.view (length s.items)) (Run fr ∷ ts) refl
        (less_deep i A_cancel m stands (cancel_charged i is) among) (λ may. absurd (pushes_none (is_quiet p m) (leaves p m) quiet stays may))
        (moves (begun_cells fr s.cells) (λ e dealt. (request_updated_alike s.cells fr.receiver (on_request cancelling (own_request s.cells fr.receiver))).held_so e))

    -- ---- the cleanup stack

    -- a push finds room for one entry more
    pub pushes : (i : Instr) (after : AbstractState) → instr_at p fr.method fr.place ≡ Some i → leaves p fr.method ≡ true →
        Leads t fr.method (suc fr.place) after → length after.entries ≡ suc (length h.shape.entries) → suc (entries_in s.items) ≤ 1024
    pushes i after stands leave leads one =
        let more = tables.own fr.method (suc (length h.shape.entries)) (record {
          place = suc fr.place;
          shape = leads.0;
          stands = record { states = at [] t fr.method; strongest = tables.strongest.each fr.method (ap is_some (of_method p fr.method fr.place i stands).1); there = leads.1 };
          count = ap length leads.2.entries ∙ one;
        }) in
        let fit = w.2.0 (pushes_where (is_quiet p fr.method) (leaves p fr.method) leave) in
        omega (arith, more, fit, counted_own)

    push_room : (i : Instr) (a : ℕ) → instr_at p fr.method fr.place ≡ Some i → action_of i ≡ action.Push a → leaves p fr.method ≡ true →
        Leads t fr.method (suc fr.place) (with_entry (entry_of (register h.shape a)) (set_register h.shape a Null)) → After (Pushed a)
    push_room i a stands is leave leads = item_pushed p depth heights (moved (here fr ts s a) (Entry (length s.items)) s.cells) An_object s.items
        (Run fr ∷ ts) all_low (λ m e. some_given (λ o. (Fits p (seen s.cells) o (register h.shape a)) × Destructs p o m)
        (held s.cells (here fr ts s a)) (h.fits a, subst (λ x. Destructs p x m) there_now e) (λ given. given.1)
        (λ o _ given. less_deep i (A_destruction a) m stands (push_charged i a is)
        (destructs_as p (seen s.cells) o (register h.shape a) m given.0 given.1)))
        (let few = pushes i (with_entry (entry_of (register h.shape a)) (set_register h.shape a Null)) stands leave leads refl in omega (arith, few))
        (recelled p depth heights s.cells (moved (here fr ts s a) (Entry (length s.items)) s.cells) s.items (Run fr ∷ ts) (
          λ k lt. held_apart s.cells (here fr ts s a) (Entry (length s.items)) (Entry k) refl (entry_apart (length s.items) k lt),
          λ k lt. held_apart s.cells (here fr ts s a) (Entry (length s.items)) (Going k) refl refl,
        ) w)
      where
        -- what the register owned is in the entry's place
        there_now : held (moved (here fr ts s a) (Entry (length s.items)) s.cells) (Entry (length s.items)) ≡ held s.cells (here fr ts s a)
        there_now = held_moved s.cells (here fr ts s a) (Entry (length s.items)) (Entry (length s.items)) h.free
            ∙ ap (λ b. cond b (held s.cells (here fr ts s a)) (held s.cells (Entry (length s.items)))) (same_place_refl (Entry (length s.items)))

    push_operation_room : (i : Instr) (a m : ℕ) (v : ℤ) → instr_at p fr.method fr.place ≡ Some i → action_of i ≡ action.PushOperation a m →
        leaves p fr.method ≡ true → Leads t fr.method (suc fr.place) (with_entry Operation h.shape) → After (Pushed_operation m v)
    push_operation_room i a m v stands is leave leads = item_pushed p depth heights s.cells (An_operation m v) s.items (Run fr ∷ ts) all_low
        (λ k e. subst (λ x. depth x < depth fr.method) (sym e) (less_deep i (An_operation m) m stands (operation_charged i a m is) (inl refl)))
        (let few = pushes i (with_entry Operation h.shape) stands leave leads refl in omega (arith, few)) w

    -- the last item is the method's own
    low_below : not (no_entry h.shape.entries) ≡ true → AllLow (length (below_top s.items)) (Run fr ∷ ts)
    low_below some = go h.shape.entries s.items high some
      where
        go : (es : List CleanupEntry) (items : List Item) → length items ≡ length (objects es h.below) → not (no_entry es) ≡ true →
            AllLow (length (below_top items)) (Run fr ∷ ts)
        go (e ∷ es) (i ∷ items) same some =
            let le : fr.height ≤ length items = omega (arith, same, h.height, length_objects es h.below) in
            (le, lower fr.height (length items) ts le h.low)
        go _ _ same some = absurd cc

    pop_room : (a : ℕ) → not (no_entry h.shape.entries) ≡ true → After (Popped a)
    pop_room a some = go s.items (low_below some) w
      where
        go : (items : List Item) → AllLow (length (below_top items)) (Run fr ∷ ts) → Roomy p depth heights s.cells items (Run fr ∷ ts) →
            Roomy p depth heights (moved (top_place items) (here fr ts s a) s.cells) (below_top items) (Run fr ∷ ts)
        go items low room =
            let cells' = moved (top_place items) (here fr ts s a) s.cells in
            recelled p depth heights s.cells cells' (below_top items) (Run fr ∷ ts) (
              λ k lt. held_apart s.cells (top_place items) (here fr ts s a) (Entry k) (entry_apart (length (below_top items)) k lt) refl,
              λ k lt. held_apart s.cells (top_place items) (here fr ts s a) (Going k) refl refl,
            ) (popped_top p depth heights s.cells items (Run fr ∷ ts) low room)

    -- ---- the effects

    spot_apart : (x : Spot) (e : Place) → IsDealt e → same_place (spot_place p fr ts s x) e ≡ false
    spot_apart x e dealt = grind (arith, nat_tests, register_apart, field_apart fr.receiver, field_stays fr.receiver)

    made_same : (name x a : ℕ) (e : Place) → IsDealt e → held (cells_after p fr ts s (Made name x a)) e ≡ held s.cells e
    made_same name x a y dealt = grind arith

    replied_same : (a : ℕ) (code : ℤ) (e : Place) → IsDealt e → held (cells_after p fr ts s (Replied a code)) e ≡ held s.cells e
    replied_same a code e dealt = go e dealt ∙ (redeemed_by_alike order code s.cells).held_so e
      where
        order : Option ℕ
        order = token_of s.cells (held s.cells (here fr ts s a))

        go : (e : Place) → IsDealt e → held (without (here fr ts s a) (redeemed_by order code s.cells)) e ≡ held (redeemed_by order code s.cells) e
        go (Entry k) dealt = held_without (redeemed_by order code s.cells) (here fr ts s a) (Entry k)
        go (Going k) dealt = held_without (redeemed_by order code s.cells) (here fr ts s a) (Going k)
        go _ dealt = absurd (assumption tt)

    handed_same : (name a : ℕ) (e : Place) → IsDealt e → held (cells_after p fr ts s (Handed name a)) e ≡ held s.cells e
    handed_same name a e dealt = grind (arith, nat_tests, request_updated_alike s.cells fr.receiver)

    -- after an update, with the method on top
    updated_room : (i : Instr) → instr_at p fr.method fr.place ≡ Some i → Ruled i → Leading i → (u : Update) → FitsUpdate ts s.items i u → After u
    updated_room i stands r n Same f = w
    updated_room i stands r n (Carried from to) f = moves (cells_after p fr ts s (Carried from to))
        (λ e dealt. held_apart s.cells (spot_place p fr ts s from) (spot_place p fr ts s to) e (spot_apart from e dealt) (spot_apart to e dealt))
    updated_room i stands r n (Made name x a) f = moves (cells_after p fr ts s (Made name x a)) (made_same name x a)
    updated_room i stands r n (Written x v) f = moves (cells_after p fr ts s (Written x v)) (λ e dealt. stored_same s.cells fr.receiver x v e)
    updated_room i stands r n (Requested q) f = moves (cells_after p fr ts s (Requested q)) (λ e dealt. (request_updated_alike s.cells fr.receiver q).held_so e)
    updated_room i stands r n (Sessioned b) f = moves (cells_after p fr ts s (Sessioned b)) (λ e dealt. (session_updated_alike s.cells fr.receiver b).held_so e)
    updated_room i stands r n (Replied a code) f = moves (cells_after p fr ts s (Replied a code)) (replied_same a code)
    updated_room i stands r n (Handed name a) f = moves (cells_after p fr ts s (Handed name a)) (handed_same name a)
    updated_room i stands r n (Pushed a) f =
        let it = push_is i a f.0 in
        push_room i a stands f.0 (subst Ruled it r).1.0 (subst Leading it n).0
    updated_room i stands r n (Pushed_operation m v) f =
        let it = operation_is i f.0 m f.1 in
        push_operation_room i f.0 m v stands f.1 (subst Ruled it r).1.0 (subst Leading it n).0
    updated_room i stands r n (Popped a) f = pop_room a (subst Ruled f.0 r).1.0
    updated_room i stands r n Popped_operation f = popped_top p depth heights s.cells s.items (Run fr ∷ ts) (low_below (subst Ruled f.0 r).0) w

    -- an object of a register goes
    delete_room : (i : Instr) (o : Object) (a : ℕ) (words : List (Option ℤ)) → instr_at p fr.method fr.place ≡ Some i → action_of i ≡ action.Destroy a →
        held s.cells (here fr ts s a) ≡ Some o → Fits p (seen s.cells) (Some o) (register h.shape a) → R (applied p fr ts s (Destroys o a words))
    delete_room i o a words stands is there fits = begins_over (moved (here fr ts s a) (Going (length (Run fr ∷ ts))) s.cells) s.items o
        (Run (with_words fr words) ∷ ts) (goes_there_now s.cells (here fr ts s a) (length (Run fr ∷ ts)) unheld refl ∙ there)
        (λ m e. less_deep i (A_destruction a) m stands (destruction_charged i a is) (destructs_as p (seen s.cells) o (register h.shape a) m fits e))
        (λ server. tt)
        (recelled p depth heights s.cells (moved (here fr ts s a) (Going (length (Run fr ∷ ts))) s.cells) s.items (Run fr ∷ ts) (
          λ k lt. held_apart s.cells (here fr ts s a) (Going (length (Run fr ∷ ts))) (Entry k) refl refl,
          λ k lt. held_apart s.cells (here fr ts s a) (Going (length (Run fr ∷ ts))) (Going k) refl (going_apart (length (Run fr ∷ ts)) k lt),
        ) w)

    pub acts_room : (i : Instr) → instr_at p fr.method fr.place ≡ Some i → Ruled i → Leading i → (e : Effect) → May p c fr ts s i e → R (applied p fr ts s e)
    acts_room i stands r n (Goes_on ch) f = updated_room i stands r n ch.update f.1
    acts_room i stands r n (Jumps to) f = w
    acts_room i stands r n (Counts d rounds) f = w
    acts_room i stands r n (Repeats d rounds to) f = w
    acts_room i stands r n (Calls target m first) f = call_room i target m first f.0 stands f.1 r
    acts_room i stands r n (Cancels m) f = cancel_room i m stands f.0 f.1
    acts_room i stands r n (Sets_trap target m first) f = trap_room i target m first f.0 stands f.1 r
    acts_room i stands r n (Returns g a) f = return_room g a ts h.low_under line (λ nothing. ended_high
        (none_left p fr h.shape a nothing (returnable p fr h.shape a (subst Ruled (return_is i a f.0) r))))
        (dropped p depth heights s.cells s.items fr ts w)
    acts_room i stands r n (Leaves code u) f =
        let cs = cells_after p fr ts s u in
        let items = items_after u s.items in
        off_to_trap p depth heights cs items ts (dropped p depth heights cs items fr ts (updated_room i stands r n u f.2))
    acts_room i stands r n (Destroys o a words) f =
        delete_room i o a words stands f.0 f.1 (subst (λ x. Fits p (seen s.cells) x (register h.shape a)) f.1 (h.fits a))
    acts_room i stands r n (Destroys_last o) f = clears s.cells
        (below_top s.items) o (Run fr ∷ ts) f.2 unheld tt (low_below (subst Ruled f.0 r).0) (subst (λ is. Roomy p depth heights s.cells is (Run fr ∷ ts)) f.1 w)
    acts_room i stands r n (Operates m v) f = undoes s.cells (below_top s.items) m v (Run fr ∷ ts)
        (subst (λ is. AllUndo p is) f.1 undo_operations).0 (low_below (subst Ruled f.0 r).0) (subst (λ is. Roomy p depth heights s.cells is (Run fr ∷ ts)) f.1 w)
