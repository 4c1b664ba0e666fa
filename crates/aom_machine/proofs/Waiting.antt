-- Each move keeps what the typing says of the methods that wait: what runs over a method leaves its registers alone, and a method begins to wait with its
-- operands moved.
use Rattle.std.proofs.lemmas.Bool.Decides.{nat_tests}
use Rattle.std.proofs.Common.{Bool, List, None, Option, Some, [], ap, arith, cond, false, length, pos}
use Rattle.std.proofs.Common.{refl, subst, suc, sym, true, ℕ, ℤ, ◌&&◌, ◌<◌, ◌≤◌, ◌==◌, ◌∙◌, ◌∷◌, ◌≡◌}
use Rattle.std.proofs.lemmas.Bool.{eq-eqb, eqb-true, ne_eqb}
use Rattle.std.proofs.lemmas.Option.{same_Some}
use Rattle.aom_image.specs.Image.{Image}
use Rattle.aom_image.specs.Views.{arguments_of, instr_at, method_class}
use Rattle.aom_instructions.specs.Table.{action_of}
use Rattle.aom_instructions.specs.declared.action.Action.TheVariants as action
use Rattle.aom_instructions.specs.declared.instr.Instr.{Instr}
use Rattle.aom_instructions.specs.declared.instr.Target.{Target}
use Rattle.aom_image.specs.declared.method.Argument.{Argument}
use Rattle.aom_image.specs.declared.method.Argument.TheVariants.{Own as Takes_own, Word as Takes_word}
use Rattle.aom_image.specs.declared.method.Gives.{Gives}
use Rattle.aom_image.specs.declared.method.Thing.TheVariants.{Message, Object as An_object_of}
use Rattle.aom_abstract_state.specs.Entries.{without_entry}
use Rattle.aom_abstract_state.specs.Arguments.{after_of, arguments_moved}
use Rattle.aom_typing_rules.specs.Calls.{while_called}
use Rattle.aom_typing_rules.specs.Requests.{resting}
use Rattle.aom_abstract_state.specs.Kinds.{made_ready, register, set_register}
use Rattle.aom_abstract_state.specs.AbstractState.{AbstractState}
use Rattle.aom_roles.specs.Tables.{at, set_extending}
use Rattle.aom_typing_rules.specs.Typing.{Typing, shape_at}
use Rattle.aom_abstract_state.specs.declared.kind.Kind.{Kind}
use Rattle.aom_abstract_state.specs.declared.kind.Kind.TheVariants.{Null, Unset}
use Rattle.aom_machine.proofs.InstructionsLemmas.{call_is, cancel_is, delete_is, trap_is}
use Rattle.aom_machine.proofs.SafetyLemmas.{all_parts, each_slot_released_alike, ended_alike, guarded_goes, guarded_met, held_dropped, held_elsewhere, held_served}
use Rattle.aom_machine.proofs.SafetyLemmas.{held_set_word, method_layer, queue_dropped, redeemed_by_alike, register_fits, request_updated_alike, session_updated_alike}
use Rattle.aom_machine.proofs.SafetyLemmas.{steps_are_moves}
use Rattle.aom_machine.proofs.SemanticsLemmas.{at-set_extending, held_without}
use Rattle.aom_semantics.specs.Calls.{accepted_cells, needs_each, needs_entering, needs_target, passed_cells, result_cells, returned}
use Rattle.aom_semantics.specs.Cleanup.{to_trap, top_place}
use Rattle.aom_semantics.specs.Destruction.{begun, destructed, line_on, first_session, parting}
use Rattle.aom_semantics.specs.Clients.{each_slot_released}
use Rattle.aom_semantics.specs.Servers.{without_queue}
use Rattle.aom_semantics.specs.Effects.{Calls, Cancels, Carried, Counts, Destroys, Destroys_last, Effect, Goes_on, Handed, Jumps}
use Rattle.aom_semantics.specs.Effects.{Replied, Leaves, Made, Operates, Popped, Pushed, Repeats, Requested, Returns, Sets_trap, Spot}
use Rattle.aom_semantics.specs.Effects.{Update, Written, applied, cells_after, deletes, spot_place, with_words, Sessioned}
use Rattle.aom_semantics.specs.Moves.{answered, asking, counted, dispatch_ends, does, failed, handled, main_ends, needs, object_ends, stage_ends, step}
use Rattle.aom_semantics.specs.Places.{Cell, Elsewhere, Entry, Going, Object, Place, Register, Root}
use Rattle.aom_semantics.specs.Places.{Session, CellView, held, moved, same_place, service_of, without}
use Rattle.aom_semantics.specs.State.{Accept_left, Accepted, Accepts, Answered, Asks, Choice, Closing, Destroy, Dispatch, Dispatched, Frame}
use Rattle.aom_semantics.specs.State.{Goes, Receiver, Need, Object_left, Of_main, Of_object, Of_root, Of_server, Disconnects, Run, OwnedObject}
use Rattle.aom_semantics.specs.State.{Serves, Service_left, Stage, State, Task, Trapped, Unwind, field_place, guarded, resumed, word}
use Rattle.aom_safety.specs.Steps.{Acts, Arrives, Clears, Comes_out, Empties, Ends, Fits as May, Move, Rests, Undoes, Reclaims}
use Rattle.aom_safety.specs.WellTyped.{Fits, Good, WellTyped, WordFits}
use Rattle.aom_semantics.specs.Words.{here, stored}
use Rattle.aom_semantics.specs.World.{boot_state}
use Rattle.aom_machine_instructions.specs.Acts.{requested}
use Rattle.aom_machine_state.specs.Waits.{AllWait, KindSays, OthersWait, Waits, while_waiting}
use Rattle.aom_machine.proofs.MachineStateLemmas.{held_apart}
use Rattle.aom_machine.proofs.MachineInstructionsLemmas.{at_step, no_word, step_of_instr}
use Rattle.std.specs.Ordering.{int_eq}
use Rattle.aom_image.specs.declared.method.Role.TheVariants.{Error as Answers}
use Rattle.aom_roles.specs.Tests.{AllTrue}
use Rattle.aom_semantics.specs.Requests.{begun_cells, ended_cells, on_request, own_request, part_of, request_updated}
use Rattle.aom_semantics.specs.Tokens.{next_token, promised, redeemed_by, token_of}

-- ---- kinds

pub kind_says : (p : Image) (h : CellView) (k : Kind) (w : Option ℤ) (o : Option Object) → WordFits w k → Fits p h o k → KindSays p k w o
kind_says p h x w y words fits = grind arith

-- ages are no part of it
made_ready_says : (p : Image) (k : Kind) (w : Option ℤ) (o : Option Object) → KindSays p k w o → KindSays p (made_ready k) w o
made_ready_says p x w o says = grind arith

-- ---- registers below a depth

abbrev SameBelow : List Cell → List Cell → ℕ → Type 0
SameBelow cs cs' n = (d i : ℕ) → d < n → held cs' (Register d i) ≡ held cs (Register d i)

still_wait : (p : Image) (t : Typing) (cs cs' : List Cell) (ts : List Task) → SameBelow cs cs' (length ts) → AllWait p t cs ts → AllWait p t cs' ts
still_wait p t cs cs' [] same w = tt
still_wait p t cs cs' (Run fr ∷ ts) same w = (
  record {
    shape = w.0.shape;
    typed = w.0.typed;
    says = grind (arith, nat_tests);
  },
  still_wait p t cs cs' ts (λ d i lt. same d i (omega (arith, lt))) w.1,
)
still_wait p t cs cs' (Trapped ∷ ts) same w = still_wait p t cs cs' ts (λ d i lt. same d i (omega (arith, lt))) w
still_wait p t cs cs' (Destroy ∷ ts) same w = still_wait p t cs cs' ts (λ d i lt. same d i (omega (arith, lt))) w
still_wait p t cs cs' (Closing ∷ ts) same w = still_wait p t cs cs' ts (λ d i lt. same d i (omega (arith, lt))) w
still_wait p t cs cs' (Unwind code ∷ ts) same w = still_wait p t cs cs' ts (λ d i lt. same d i (omega (arith, lt))) w
still_wait p t cs cs' (Dispatched e ∷ ts) same w = still_wait p t cs cs' ts (λ d i lt. same d i (omega (arith, lt))) w

higher_apart : (d a e i : ℕ) → e < d → same_place (Register d a) (Register e i) ≡ false
higher_apart d a e i lt = ap (λ b. b && (a == i)) (ne_eqb d e (λ x. absurd (omega (arith, lt, x))))

field_apart : (receiver : Receiver) (f e i : ℕ) → same_place (field_place receiver f) (Register e i) ≡ false
field_apart x f e i = grind arith

stored_same : (cs : List Cell) (receiver : Receiver) (w : ℕ) (v : ℤ) (n : ℕ) → SameBelow cs (stored cs receiver w v) n
stored_same cs x w v n d i lt = grind (arith, nat_tests, held_set_word cs)

-- where a session is accepted from a register of a method over these
accepted_same : (d : Dispatch) (a depth : ℕ) (cs : List Cell) (n : ℕ) → n ≤ depth → SameBelow cs (accepted_cells d (Register depth a) cs) n
accepted_same x a depth cs n deep e i lt = grind (arith, nat_tests, held_served, held_apart cs (Register depth a), higher_apart depth a e i)

-- where a cell goes, with what waits in its queue
gone_same : (clients : List ℕ) (k m n : ℕ) (cs : List Cell) → SameBelow cs (each_slot_released clients (without (Going k) (without_queue m cs))) n
gone_same clients k m n cs d i lt = grind (arith, nat_tests, each_slot_released_alike clients, held_without, queue_dropped m cs, held_dropped)

module _ (p : Image) (fr : Frame) (ts : List Task) (s : State) where
  spot_apart : (spot : Spot) (e i : ℕ) → e < length ts → same_place (spot_place p fr ts s spot) (Register e i) ≡ false
  spot_apart x e i lt = grind (arith, nat_tests, higher_apart, field_apart fr.receiver)

  updated_same : (u : Update) → SameBelow s.cells (cells_after p fr ts s u) (length ts)
  updated_same (Carried from to) d i lt =
      held_apart s.cells (spot_place p fr ts s from) (spot_place p fr ts s to) (Register d i) (spot_apart from d i lt) (spot_apart to d i lt)
  updated_same (Made name class a) d i lt =
      ap (λ b. cond b (Some (record { name = name; thing = An_object_of class })) (held s.cells (Register d i))) (higher_apart (length ts) a d i lt)
  updated_same (Written w v) d i lt = stored_same s.cells fr.receiver w v (length ts) d i lt
  updated_same (Requested r) d i lt = (request_updated_alike s.cells fr.receiver r).held_so (Register d i)
  updated_same (Sessioned b) d i lt = (session_updated_alike s.cells fr.receiver b).held_so (Register d i)
  updated_same (Replied a code) d i lt =
      let order = token_of s.cells (held s.cells (here fr ts s a)) in
      held_without (redeemed_by order code s.cells) (here fr ts s a) (Register d i) ∙ ap (λ b. cond b None (held (redeemed_by order code s.cells)
      (Register d i))) (higher_apart (length ts) a d i lt) ∙ (redeemed_by_alike order code s.cells).held_so (Register d i)
  updated_same (Handed name a) d i lt =
      let r = on_request (promised (next_token s.cells)) (own_request s.cells fr.receiver) in
      ap (λ b. cond b (Some (record { name = name; thing = Message })) (held (request_updated s.cells fr.receiver r) (Register d i)))
      (higher_apart (length ts) a d i lt) ∙ (request_updated_alike s.cells fr.receiver r).held_so (Register d i)
  updated_same (Pushed a) d i lt = held_apart s.cells (here fr ts s a) (Entry (length s.items)) (Register d i) (higher_apart (length ts) a d i lt) refl
  updated_same (Popped a) d i lt = held_apart s.cells (top_place s.items) (here fr ts s a) (Register d i) refl (higher_apart (length ts) a d i lt)
  updated_same _ d i lt = refl

  passed_same : (depth : ℕ) (xs : List Argument) (first to : ℕ) (cs : List Cell) → length ts < depth →
      SameBelow cs (passed_cells p fr ts s depth xs first to cs) (length ts)
  passed_same depth [] first to cs deep d i lt = refl
  passed_same depth (Takes_word ∷ xs) first to cs deep d i lt = passed_same depth xs (suc first) (suc to) cs deep d i lt
  passed_same depth (Takes_own t ∷ xs) first to cs deep d i lt = grind (arith, nat_tests, passed_same depth xs, held_apart cs, higher_apart depth to d i)

  result_same : (g : Gives) (a x : ℕ) (below : List Task) → length below < length ts → SameBelow s.cells (result_cells p fr ts s g a x below) (length below)
  result_same x a y below deep d i lt = grind (arith, nat_tests, held_apart s.cells, higher_apart)

-- ---- operands move

module _ (p : Image) (fr : Frame) (ts : List Task) (s : State) where
  -- the registers of the method that runs
  abbrev Says : List Cell → AbstractState → Type 0
  Says cs sh = (i : ℕ) → KindSays p (register sh i) (word fr i) (held cs (Register (length ts) i))

  emptied : (cs : List Cell) (sh : AbstractState) (a : ℕ) (to : Place) → ((i : ℕ) → same_place to (Register (length ts) i) ≡ false) → word fr a ≡ None → Says cs sh
      → Says (moved (here fr ts s a) to cs) (set_register sh a Null)
  emptied cs sh a to apart wordless says i = grind (arith, nat_tests, at-set_extending Unset sh.registers a i Null, held_elsewhere cs, eq-eqb, eqb-true a i)

  arguments_says : (depth : ℕ) (xs : List Argument) (first to : ℕ) (cs : List Cell) (sh : AbstractState) → length ts < depth → AllTrue (needs_each p fr ts s xs first) →
      Says cs sh → Says (passed_cells p fr ts s depth xs first to cs) (arguments_moved xs first sh)
  arguments_says depth [] first to cs sh deep met says = says
  arguments_says depth (Takes_word ∷ xs) first to cs sh deep met says = arguments_says depth xs (suc first) (suc to) cs sh deep met.1 says
  arguments_says depth (Takes_own t ∷ xs) first to cs sh deep met says =
      grind (arith, nat_tests, arguments_says depth xs, emptied cs sh first (Register depth to), higher_apart depth to, no_word)

  called_says : (target : Target) (class : Option ℕ) (ended : ℕ) (cs : List Cell) (sh : AbstractState) → Says cs sh → Says cs (while_called target class ended sh)
  called_says x class ended cs sh says i = grind (arith, nat_tests, at-set_extending Unset sh.registers, eqb-true, made_ready_says p)

-- what the typing says of the method that runs
pub record RunsTyped (p : Image) (t : Typing) (cs : List Cell) (fr : Frame) (ts : List Task) : Type 0 where
  pub shape : AbstractState
  pub typed : shape_at t fr.method fr.place ≡ Some shape
  pub says : (i : ℕ) → KindSays p (register shape i) (word fr i) (held cs (Register (length ts) i))

pub runs_typed : (p : Image) (t : Typing) (s : State) (fr : Frame) (ts : List Task) → WellTyped p t s → s.tasks ≡ Run fr ∷ ts → RunsTyped p t s.cells fr ts
runs_typed p t s fr ts w top = method_layer (λ ls. Good p t s.cells ls) fr ts w.layers (sym w.tasks ∙ top) w.good (λ sh ls under good. record {
  shape = sh;
  typed = good.stack.0;
  says = grind (arith, nat_tests, kind_says p, register_fits p s.cells fr sh ls good.fits);
})

-- ---- moves

line_wait : (p : Image) (t : Typing) (cs : List Cell) (m : ℕ) (receiver : Receiver) (height : ℕ) (ts : List Task) → AllWait p t cs ts →
    OthersWait p t cs (line_on p m receiver height ts)
line_wait p t cs m x height ts w = grind arith

destructed_wait : (p : Image) (t : Typing) (cs : List Cell) (o : Object) (height : ℕ) (ts : List Task) → AllWait p t cs ts →
    OthersWait p t cs (destructed p o height ts)
destructed_wait p t cs o height ts w = grind (arith, nat_tests)

begun_wait : (p : Image) (t : Typing) (cs : List Cell) (o : Object) (height : ℕ) (ts : List Task) → AllWait p t cs ts → OthersWait p t cs (begun p o height ts)
begun_wait p t cs o height ts w = grind (arith, nat_tests, destructed_wait p t cs o height ts w)

resumed_wait : (p : Image) (t : Typing) (cs : List Cell) (ts : List Task) → AllWait p t cs ts → OthersWait p t cs (resumed ts)
resumed_wait p t cs [] w = tt
resumed_wait p t cs (Run fr ∷ ts) w = w.1
resumed_wait p t cs (_ ∷ ts) w = w

trapped_wait : (p : Image) (t : Typing) (cs : List Cell) (ts : List Task) → AllWait p t cs ts → AllWait p t cs (to_trap ts)
trapped_wait p t cs [] w = tt
trapped_wait p t cs (Run fr ∷ ts) w = trapped_wait p t cs ts w.1
trapped_wait p t cs (_ ∷ ts) w = w

-- a session is in no such place
session_apart : (cs : List Cell) (n : ℕ) (clients : List ℕ) (x : OwnedObject) (q : Place) →
    ((n c : ℕ) → same_place (Elsewhere (Session n c)) q ≡ false) → first_session cs n clients ≡ Some x → same_place x.place q ≡ false
session_apart cs n [] x q apart e = cc
session_apart cs n (c ∷ clients) x q apart e = grind (arith, nat_tests, session_apart cs n clients x q apart, same_Some)

-- a method's move
module _ (p : Image) (t : Typing) (c : Choice) (s : State) (fr : Frame) (ts : List Task) (has_task : s.tasks ≡ Run fr ∷ ts) (i : Instr)
    (there : instr_at p fr.method fr.place ≡ Some i) (met : AllTrue (needs p c fr ts s i)) (h : RunsTyped p t s.cells fr ts) (w : AllWait p t s.cells ts) where
  abbrev W : State → Type 0
  W u = OthersWait p t u.cells u.tasks

  -- it waits from then on
  begins : (cs : List Cell) → ((j : ℕ) → KindSays p (register (while_waiting p (Some i) h.shape) j) (word fr j) (held cs (Register (length ts) j))) →
      Waits p t cs (length ts) fr
  begins cs says = record {
    shape = h.shape;
    typed = h.typed;
    says = λ j. subst (λ o. KindSays p (register (while_waiting p o h.shape) j) (word fr j) (held cs (Register (length ts) j))) (sym there) (says j);
  }

  -- for a method that it has called, at that depth
  calls : (depth m first ended : ℕ) (target : Target) (more : List Need) → length ts < depth → AllTrue (needs_entering p fr ts s target m first more) →
      ((sh : AbstractState) → while_waiting p (Some i) sh ≡ while_called target (method_class p m) ended (arguments_moved (arguments_of p m) first sh)) →
      AllWait p t (passed_cells p fr ts s depth (arguments_of p m) first 0 s.cells) (Run fr ∷ ts)
  calls depth m first ended target more deep needed is =
      let xs = arguments_of p m in
      let cs = passed_cells p fr ts s depth xs first 0 s.cells in
      let parts = all_parts (needs_target p fr ts s target m (method_class p m) first (length xs)) _ needed in
      let each = (all_parts (needs_each p fr ts s xs first) more parts.1.1).0 in
      let moved_on = arguments_says p fr ts s depth xs first 0 s.cells h.shape deep each h.says in
      let says = called_says p fr ts s target (method_class p m) ended cs (arguments_moved xs first h.shape) moved_on in (
        begins cs (λ j. subst (λ sh. KindSays p (register sh j) (word fr j) (held cs (Register (length ts) j))) (sym (is h.shape)) (says j)),
        still_wait p t s.cells cs ts (passed_same p fr ts s depth xs first 0 s.cells deep) w,
      )

  -- the state as a method ends
  abbrev over : State
  over = record s { cells = ended_cells p fr s.cells }

  ended_w : AllWait p t over.cells ts
  ended_w = still_wait p t s.cells over.cells ts (λ d j lt. (ended_alike p fr s.cells).held_so (Register d j)) w

  returns : (g : Gives) (a : ℕ) (us : List Task) → us ≡ ts → W (returned p fr ts over g a us)
  returns g a (Run caller ∷ below) e = still_wait p t over.cells _ below
      (result_same p fr ts over g a _ below (let n = ap length e in omega (arith, n))) (subst (AllWait p t over.cells) (sym e) ended_w).1
  returns g a (Trapped ∷ Run caller ∷ below) e = still_wait p t over.cells _ below
      (result_same p fr ts over g a _ below (let n = ap length e in omega (arith, n))) (subst (AllWait p t over.cells) (sym e) ended_w).1
  returns g a (Trapped ∷ Dispatched d ∷ below) e = still_wait p t over.cells _ below
      (accepted_same d a (length ts) over.cells (length below) (let n = ap length e in omega (arith, n))) (subst (AllWait p t over.cells) (sym e) ended_w)
  returns g a (Destroy ∷ below) e = line_wait p t over.cells fr.method fr.receiver fr.height below (subst (AllWait p t over.cells) (sym e) ended_w)
  returns g a (Unwind code ∷ below) e = subst (AllWait p t over.cells) (sym e) ended_w
  returns g a (Closing ∷ below) e = subst (OthersWait p t over.cells) (sym has_task) ended_w
  returns g a [] e = stays
    where
      stays : W over
      stays = subst (OthersWait p t over.cells) (sym has_task) ended_w
  returns g a (Dispatched d ∷ below) e = subst (AllWait p t over.cells) (sym e) ended_w
  returns g a (Trapped ∷ []) e = subst (OthersWait p t over.cells) (sym has_task) ended_w
  returns g a (_ ∷ below) e = subst (OthersWait p t over.cells) (sym has_task) ended_w

  -- the object of a register goes
  destroys_wait : (o : Object) (a : ℕ) → action_of i ≡ action.Destroy a → W (applied p fr ts s (Destroys o a (set_extending None fr.words a None)))
  destroys_wait o a acts =
      let is = delete_is i a acts in
      let cs = moved (here fr ts s a) (Going (suc (length ts))) s.cells in
      let wordless = no_word _ (subst (λ j. AllTrue (needs p c fr ts s j)) is met).0 in
      let says = emptied p fr ts s s.cells h.shape a (Going (suc (length ts))) (λ j. refl) wordless h.says in
      begun_wait p t cs o (length s.items) (Run (with_words fr (set_extending None fr.words a None)) ∷ ts) (
        record {
          shape = h.shape;
          typed = h.typed;
          says = λ j. subst (λ x. KindSays p (register (while_waiting p x h.shape) j)
              (at None (set_extending None fr.words a None) j) (held cs (Register (length ts) j))) (sym there) (subst (λ x. KindSays p
              (register (while_waiting p (Some x) h.shape) j) (at None (set_extending None fr.words a None) j) (held cs (Register (length ts) j))) (sym is)
              (subst (λ x. KindSays p (register (set_register h.shape a Null) j) x (held cs (Register (length ts) j))) (sym (blank wordless j)) (says j)));
        },
        still_wait p t s.cells cs ts
            (λ d j lt. held_apart s.cells (here fr ts s a) (Going (suc (length ts))) (Register d j) (higher_apart (length ts) a d j lt) refl) w,
      )
    where
      blank : word fr a ≡ None → (j : ℕ) → at None (set_extending None fr.words a None) j ≡ word fr j
      blank wordless j = grind (arith, nat_tests, at-set_extending None fr.words a j None, eqb-true a j)

  -- its registers stay as they are
  pops : (cs : List Cell) → ((x : AbstractState) → while_waiting p (Some i) x ≡ without_entry x) → ((d j : ℕ) → held cs (Register d j) ≡ held s.cells (Register d j)) →
      AllWait p t cs (Run fr ∷ ts)
  pops cs is same = (grind (arith, nat_tests, begins cs), still_wait p t s.cells cs ts (λ d j lt. same d j) w)

  -- and so they do while the method that cancels runs
  cancels : action_of i ≡ action.Cancel → AllWait p t (begun_cells fr s.cells) (Run fr ∷ ts)
  cancels acts = let is = cancel_is i acts in grind (arith, nat_tests, request_updated_alike s.cells fr.receiver, begins, still_wait p t s.cells)

  -- by its effect; with what words a method waits for an object that goes is told by the instruction
  acts_wait : (e : Effect) → ((o : Object) (a : ℕ) (words : List (Option ℤ)) → e ≡ Destroys o a words → W (applied p fr ts s e)) →
      May p c fr ts s i e → W (applied p fr ts s e)
  acts_wait (Goes_on ch) deleted fits = still_wait p t s.cells _ ts (updated_same p fr ts s ch.update) w
  acts_wait (Jumps to) deleted fits = w
  acts_wait (Counts d n) deleted fits = w
  acts_wait (Repeats d n to) deleted fits = w
  acts_wait (Calls target m first) deleted fits =
      let is = call_is i target m first fits.0 fits.1 in
      calls (suc (length ts)) m first (after_of p m) target _ (omega arith)
      (subst (λ j. AllTrue (needs p c fr ts s j)) is met) (λ sh. ap (λ j. while_waiting p (Some j) sh) is)
  acts_wait (Cancels m) deleted fits = cancels fits.0
  acts_wait (Sets_trap target m first) deleted fits =
      let is = trap_is i target m first fits.0 fits.1 in
      calls (suc (suc (length ts))) m first (resting p (method_class p m)) target _
      (omega arith) (subst (λ j. AllTrue (needs p c fr ts s j)) is met) (λ sh. ap (λ j. while_waiting p (Some j) sh) is)
  acts_wait (Returns g a) deleted fits = returns g a ts refl
  acts_wait (Leaves code u) deleted fits = trapped_wait p t _ ts (still_wait p t s.cells _ ts (updated_same p fr ts s u) w)
  acts_wait (Destroys o a words) deleted fits = deleted o a words refl
  acts_wait (Destroys_last o) deleted fits =
      let cs = moved (top_place s.items) (Going (suc (length ts))) s.cells in
      begun_wait p t cs o _ (Run fr ∷ ts) (pops cs
      (λ x. ap (λ j. while_waiting p (Some j) x) fits.0) (λ d j. held_apart s.cells (top_place s.items) (Going (suc (length ts))) (Register d j) refl refl))
  acts_wait (Operates m x) deleted fits = pops s.cells (λ x. ap (λ j. while_waiting p (Some j) x) fits.0) (λ d j. refl)

module _ (p : Image) (t : Typing) (c : Choice) (s u : State) (typed : WellTyped p t s) (others : OthersWait p t s.cells s.tasks) (goes : step p c s ≡ Goes u) where
  abbrev V : State → Type 0
  V v = OthersWait p t v.cells v.tasks

  over_these : (ts : List Task) → s.tasks ≡ ts → OthersWait p t s.cells ts
  over_these ts top = subst (OthersWait p t s.cells) top others

  -- where an object of a register goes
  destroyed : (fr : Frame) (ts : List Task) (i : Instr) (o : Object) (a : ℕ) → s.tasks ≡ Run fr ∷ ts → instr_at p fr.method fr.place ≡ Some i →
      action_of i ≡ action.Destroy a → held s.cells (Register (length ts) a) ≡ Some o → V u
  destroyed fr ts i o a top there acts some =
      let mid = requested i (at_step s) in
      let goes_on : guarded (needs p c fr ts mid i) (does p c fr ts mid i) ≡ Goes u = sym (step_of_instr p c s fr ts i top there) ∙ goes in
      let met = guarded_met (needs p c fr ts mid i) (does p c fr ts mid i) u goes_on in
      let wait = destroys_wait p t c mid fr ts top i there met (runs_typed p t s fr ts typed top) (over_these (Run fr ∷ ts) top) o a acts in
      subst V (sym (ap (λ x. applied p fr ts mid (deletes fr x a)) some) ∙ sym (ap (λ j. does p c fr ts mid j) (delete_is i a acts))
      ∙ guarded_goes (needs p c fr ts mid i) (does p c fr ts mid i) u goes_on) wait

  main_wait : (v : State) (b : Bool) (root : Option Object) → V (main_ends p b root v)
  main_wait v true (Some o) = begun_wait p t _ o _ (Dispatched Of_root ∷ []) tt
  main_wait v true None = tt
  main_wait v false root = tt

  object_wait : (v : State) → V (object_ends p v)
  object_wait v = main_wait (handled v) v.rest.stopped (held v.cells (Elsewhere Root))

  answer_waits : (answer : ℤ) (v : State) → V (answered p answer v)
  answer_waits answer v = go (int_eq answer (pos 0))
    where
      go : (b : Bool) → V (cond b (object_ends p v) (failed answer v))
      go true = object_wait v
      go false = tt

  asking_waits : (m : Option ℕ) (x : OwnedObject) (code : ℤ) (v : State) → V (asking p m x code v)
  asking_waits None x code v = answer_waits code v
  asking_waits (Some m) x code v = tt

  stage_waits : (x : OwnedObject) (client : ℕ) (stage : Stage) (v : State) → V (stage_ends x client stage v)
  stage_waits x client Accepts v = tt
  stage_waits x client Accepted v = tt
  stage_waits x client (Accept_left code) v = tt
  stage_waits x client (Serves o) v = tt
  stage_waits x client (Service_left code) v = tt
  stage_waits x client Disconnects v = tt

  -- a session goes over a server that goes, or the server's destructor runs
  parting_waits : (ts : List Task) (o : Object) (y : Option OwnedObject) →
      s.tasks ≡ Closing ∷ Destroy ∷ ts → y ≡ first_session s.cells o.name (service_of s.cells o.name).sessions → V (parting p o y ts (counted p s))
  parting_waits ts o None top is = destructed_wait p t s.cells o _ ts (over_these (Closing ∷ Destroy ∷ ts) top)
  parting_waits ts o (Some x) top is =
      let over = Closing ∷ Destroy ∷ ts in
      begun_wait p t _ x.object _ over (still_wait p t s.cells _ ts (λ d i lt. held_apart s.cells x.place (Going (length over)) (Register d i)
      (session_apart s.cells o.name (service_of s.cells o.name).sessions x (Register d i) (λ n c. refl) (sym is)) refl) (over_these over top))

  ends : (d : Dispatch) → V (dispatch_ends p d (counted p s))
  ends Of_main = main_wait (counted p s) s.rest.stopped (held s.cells (Elsewhere Root))
  ends (Of_object x) = object_wait (counted p s)
  ends (Object_left x code) = asking_waits (part_of p Answers x.object.thing) x code (counted p s)
  ends (Asks x) = object_wait (counted p s)
  ends (Answered x answer) = answer_waits answer (counted p s)
  ends (Of_server x client stage) = stage_waits x client stage (counted p s)
  ends _ = tt

  pub keeps_waiting : V u
  keeps_waiting = go (steps_are_moves p c s u goes)
    where
      go : Move p c s u → V u
      go (Rests still same) = subst V (sym same) others
      go (Acts fr ts i e top there met fits same) = subst V (sym same)
          (acts_wait p t c (counted p s) fr ts top i there met (runs_typed p t s fr ts typed top) (over_these (Run fr ∷ ts) top) e
          (λ o a words is. let may = subst (May p c fr ts (counted p s) i) is fits in
          subst V same (destroyed fr ts i o a top there may.0 may.1)) fits)
      go (Reclaims ts o top there owns same) = subst V (sym same) (resumed_wait p t _ ts
          (still_wait p t s.cells _ ts (gone_same (service_of s.cells o.name).sessions (length ts) o.name (length ts) s.cells) (over_these (Destroy ∷ ts) top)))
      go (Empties ts o top there same) = subst V (sym same) (parting_waits ts o (first_session s.cells o.name (service_of s.cells o.name).sessions) top refl)
      go (Clears code ts items o top last there same) =
          let cs = moved (Entry (length items)) (Going (suc (length ts))) s.cells in
          subst V (sym same) (begun_wait p t cs o _ (Unwind code ∷ ts) (still_wait p t s.cells cs ts
          (λ d i lt. held_apart s.cells (Entry (length items)) (Going (suc (length ts))) (Register d i) refl refl) (over_these (Unwind code ∷ ts) top)))
      go (Undoes code ts items m x top last same) = subst V (sym same) (over_these (Unwind code ∷ ts) top)
      go (Arrives code fr ts items top last same) = subst V (sym same) (over_these (Unwind code ∷ Trapped ∷ Run fr ∷ ts) top).1
      go (Comes_out code d ts items top last same) = subst V (sym same) (over_these (Unwind code ∷ Trapped ∷ Dispatched d ∷ ts) top)
      go (Ends d ts top same) = subst V (sym same) (ends d)

pub none_waits : (p : Image) (t : Typing) → OthersWait p t (boot_state p).cells (boot_state p).tasks
none_waits p t = grind (arith, nat_tests)
