-- A method returns: to the method that called it, through a trap, to the going of its cell, to an unwinding, or to the dispatch that has asked it.
use Rattle.std.proofs.lemmas.Bool.Decides.{nat_tests}
use Rattle.std.proofs.Common.{Bool, ◌⊎◌, inl, inr, List, None, Option, Some, [], ap, arith, cond, false, length, pos, refl}
use Rattle.std.proofs.Common.{slice_index_or, slice_set, subst, suc, sym, true, ℕ, ℤ, ◌&&◌, ◌<◌, ◌==◌, ◌∙◌, ◌∷◌, ◌≡◌, ◌≤◌}
use Rattle.std.proofs.lemmas.Bool.{OnTrue_at, eq-eqb, eqb-true, false≢true, ne_eqb}
use Rattle.std.proofs.lemmas.List.{length-set}
use Rattle.aom_image.specs.Image.{Image}
use Rattle.aom_image.specs.Views.{gives_of, instr_at}
use Rattle.aom_instructions.specs.Table.{transfer_of}
use Rattle.aom_instructions.specs.declared.instr.Instr.{Instr}
use Rattle.aom_instructions.specs.declared.transfer.Transfer.TheVariants as transfer
use Rattle.aom_image.specs.declared.method.Gives.{Gives}
use Rattle.aom_image.specs.declared.method.Gives.TheVariants.{Left, Maybe as A_maybe, Nothing, Own as An_own, Word as A_word}
use Rattle.aom_cells.specs.Heap.{Heap, null}
use Rattle.aom_abstract_state.specs.Kinds.{is_unowning, register}
use Rattle.aom_abstract_state.specs.declared.kind.Kind.{Kind}
use Rattle.aom_abstract_state.specs.declared.kind.Kind.TheVariants.{Own, Maybe}
use Rattle.aom_abstract_state.specs.AbstractState.{AbstractState}
use Rattle.aom_typing_rules.specs.Typing.{Typing}
use Rattle.aom_machine_instructions.proofs.SafetyLemmas.{all_parts, claim_register, claim_register_above, dispatch_layer, ended_alike, fit_steady}
use Rattle.aom_machine_instructions.proofs.SafetyLemmas.{fits_unowning, mark_layer, method_layer, sits_lives, stands_object, steady_ended, tasks_steady}
use Rattle.aom_machine_instructions.proofs.SafetyLemmas.{under_dispatch}
use Rattle.aom_semantics.specs.Calls.{answered_by, below_top, end_needs, ended_well, needs_return, result_needs, result_register, returned, reported_answer}
use Rattle.aom_safety.specs.Claims.{Layer, Method, Mark, tasks_of, claim, declared}
use Rattle.aom_semantics.specs.Places.{Cell, named, Session, NoDuplicates, Elsewhere, Entry, Field, Going, Object}
use Rattle.aom_semantics.specs.Places.{Place, Register, changed, held, moved, same_place, seen}
use Rattle.aom_semantics.specs.State.{Accepted, Accepts, Of_server, OwnedObject, Dispatch, Dispatched, Frame, Run, State, Task, Trapped, next, set_word, word}
use Rattle.aom_safety.specs.WellTyped.{Awaits, Fits, Good, WellTyped, WordFits}
use Rattle.aom_machine_instructions.proofs.SemanticsLemmas.{at-set_extending, held_lives, held_moved}
use Rattle.aom_frames.specs.Items.{Stack as Machine_items}
use Rattle.aom_frames.specs.declared.item.Item.TheVariants.{Mark as Is_mark}
use Rattle.aom_frames.specs.declared.item.Item.{Item}
use Rattle.aom_frames.specs.Tasks.{TopFrameIs, method_here, place_here, register_here, below_first}
use Rattle.aom_frames.specs.declared.frame.Frame.{Frame as Machine_frame}
use Rattle.aom_frames.specs.declared.task.Task.{Task as Machine_task}
use Rattle.aom_frames.specs.declared.task.Task.TheVariants.{Run as Runs_frame, Trapped as Is_trap, Dispatched as Ends}
use Rattle.aom_frames.specs.declared.dispatch.Dispatch.{Dispatch as Machine_dispatch}
use Rattle.aom_frames.specs.declared.dispatch.Dispatch.TheVariants.{Server as Of_one_served}
use Rattle.aom_active_objects.specs.Agrees.{Active}
use Rattle.aom_semantics.specs.Requests.{ended_cells}
use Rattle.aom_machine_instructions.specs.Ends.{observed, reported_by}
use Rattle.aom_machine_instructions.specs.Going.{ending_here}
use Rattle.aom_machine_instructions.proofs.CancelEnds.{ended_agrees, method_is}
use Rattle.aom_machine_instructions.proofs.OnTop.{ending_of}
use Rattle.aom_machine_state.specs.declared.parts.Parts.{Parts}
use Rattle.aom_machine_state.specs.Places.{others, Others, value_in, register_in, going_in, with_tasks, IsDestroying, IsEnding, IsTrapped, IsUnwinding}
use Rattle.aom_machine_state.specs.Agrees.{subject_of, word_at, Represents, SameDispatch, SameFrame, SameTasks, Agrees, dispatch_of, owned_object_of}
use Rattle.aom_machine_instructions.specs.Acts.{CurrentFrame, resulted, DoesIn}
use Rattle.aom_machine_state.specs.Places as places
use Rattle.aom_machine_instructions.proofs.MachineStateLemmas.{A_catcher, A_last_trap, A_leave, A_method, Alike, An_end, TopMatches, alike, at_depth, both_end}
use Rattle.aom_machine_instructions.proofs.MachineStateLemmas.{both_run, both_trapped, both_unwind, cases, catcher_on_top, cell_small, connecting_below}
use Rattle.aom_machine_instructions.proofs.MachineStateLemmas.{end_on_top, going_past, held_over, higher, kept, last_trap_on_top, leave_on_top, mark_shows_none}
use Rattle.aom_machine_instructions.proofs.MachineStateLemmas.{method_on_top, none_alike, over_value, over_words, register_past, tasks_over, top_matches, value_alike}
use Rattle.aom_machine_instructions.proofs.MachineStateLemmas.{value_kept, value_written, word_next, word_past, word_written, writes}
use Rattle.aom_machine_instructions.proofs.CallActs.{closing, ended, fits_null, shows_null}
use Rattle.aom_image.specs.declared.method.Thing.{Thing}
use Rattle.aom_cells.specs.Heap.{cell_at}
use Rattle.aom_clients.specs.Clients as kept_clients
use Rattle.aom_frames.specs.declared.dispatch.Stage.TheVariants as stages
use Rattle.aom_frames.specs.declared.dispatch.Subject.{Subject}
use Rattle.aom_machine_instructions.proofs.ImageLemmas.{none_given, some_given}
use Rattle.aom_safety.specs.Kept.{StageKept, TasksKept}
use Rattle.aom_semantics.specs.Objects.{is_thing}
use Rattle.aom_semantics.specs.Servers.{of_class, session_class}
use Rattle.aom_machine_instructions.proofs.ServeActs.{accepts}
use Rattle.aom_machine_instructions.specs.Ends as ends
use Rattle.aom_machine_instructions.specs.Serving.{CanServe, opened_by, served}
use Rattle.aom_machine_instructions.specs.Acts.{requested as counted}
use Rattle.aom_machine_instructions.specs.Next.{IsNext, counting}
use Rattle.aom_machine_instructions.specs.Requests.{IsOver}
use Rattle.aom_machine_instructions.proofs.ReceiverHolding.{has_task, return_needs}
use Rattle.aom_machine_instructions.proofs.InstructionsLemmas.{return_is}
use Rattle.aom_machine_instructions.proofs.Stepping.{at_step}
use Rattle.aom_machine_instructions.proofs.Running.{Aside, Top, agrees_with, aside_moved, aside_of, aside_unmarked, by_top}
use Rattle.aom_machine_instructions.proofs.Running.{free, moved_on, no_word, object_lives_at, register_shows, retasked}
use Rattle.std.specs.Bool.{OnTrue}
use Rattle.std.specs.Prelude.{IsSome, is_some}
use Rattle.std.proofs.lemmas.Option.{none-some}
use Rattle.aom_roles.specs.Things.{is_object}
use Rattle.aom_roles.specs.Tests.{AllTrue}
use Rattle.aom_machine_instructions.proofs.WordActs.{plain_in, word_read}

-- the machine once the method is gone, and the cancel that it may have ended is over
pub dropped : (m ended new : Parts) → ended ≡ record m { active = ended.active } →
    new ≡ with_tasks (below_first ended.stack.tasks) ended → new ≡ with_tasks (below_first m.stack.tasks) (record m { active = ended.active })
dropped m ended new rest drop = drop ∙ ap (λ (k : Parts). with_tasks (below_first k.stack.tasks) k) rest

-- ---- what lies below the task that is over

-- what places hold, but for the registers of that depth
abbrev pub cleared : ℕ → (Place → Option Object) → Place → Option Object
cleared d h (Register e i) = cond (d == e) None (h (Register e i))
cleared d h (Entry k) = h (Entry k)
cleared d h (Field n g) = h (Field n g)
cleared d h (Going k) = h (Going k)
cleared d h (Elsewhere o) = h (Elsewhere o)

pub cleared_none : (d : ℕ) (h : Place → Option Object) → ((i : ℕ) → h (Register d i) ≡ None) → (r : Place) → cleared d h r ≡ h r
cleared_none d h none x = grind (arith, nat_tests, eqb-true d)

-- the other places stand for what they stood for
pub beneath : (f : Machine_frame) (us : List Machine_task) (fr : Frame) (ts : List Task) (heap : Heap) (es : List Item) (rest : Others) (h : Place →
    Option Object) → length us ≡ length ts → ((r : Place) → Represents (value_in (Runs_frame f ∷ us) heap es rest r) (word_at (Run fr ∷ ts) r) (h r)) →
    (r : Place) → Represents (value_in us heap es rest r) (word_at ts r) (cleared (length ts) h r)
beneath f us fr ts heap es rest h deep old x = grind (arith, nat_tests, eqb-true, shows_null, register_past us, word_past ts, at_depth, going_past us)

-- past the tasks at hand no register owns
pub none_above : (p : Image) (t : Typing) (s : State) (d i : ℕ) → WellTyped p t s → length s.tasks ≤ d → held s.cells (Register d i) ≡ None
none_above p t s d i typed le = grind (arith, nat_tests, fits_null p, claim_register_above p s.cells typed.layers d i)

-- what the result comes to owns nothing
abbrev pub bears : Gives → Bool
bears Nothing = false
bears (Left c) = false
bears _ = true

awaits : (g : Gives) (x : ℕ) (sh : AbstractState) → Awaits g x sh → OnTrue (bears g) (is_unowning (register sh x) ≡ true)
awaits x y sh a = grind arith

pub awaiting : (g : Gives) (x : ℕ) (sh : AbstractState) → bears g ≡ true → Awaits g x sh → is_unowning (register sh x) ≡ true
awaiting g x sh b a = OnTrue_at b (awaits g x sh a)

-- a register that is claimed to own nothing owns nothing
pub awaits_none : (p : Image) (s : State) (ls : List Layer) (ts : List Task) (sh : AbstractState) (x : ℕ) (k : Kind) → is_unowning (register sh x) ≡ true → k ≡ register
    sh x → Fits p (seen s.cells) (held s.cells (Register (length (tasks_of ls)) x)) k → tasks_of ls ≡ ts → held s.cells (Register (length ts) x) ≡ None
awaits_none p s ls ts sh x k quiet claims fits rest = grind (arith, nat_tests, fits_unowning p)

-- under a trap stands the method that set it
pub caught_layer : (P : List Layer → Type 0) (G : Type 0) (caller : Frame) (ts : List Task) (ls : List Layer) → tasks_of ls ≡ Trapped ∷ Run caller ∷ ts →
    P ls → ((gv : Gives) (sh : AbstractState) (below : List Layer) → tasks_of below ≡ ts → P (Mark gv ∷ Method caller sh ∷ below) → G) → G
caught_layer P G caller ts ls under has gives = mark_layer P (Run caller ∷ ts) ls under has
    (λ gv ls under has. method_layer (λ ls. P (Mark gv ∷ ls)) caller ts ls under has (λ sh ls rest has. gives gv sh ls rest has))

awaited : (p : Image) (t : Typing) (s : State) (fr caller : Frame) (ts : List Task) → WellTyped p t s → s.tasks ≡ Run fr ∷ Run caller ∷ ts →
    bears (gives_of p fr.method) ≡ true → held s.cells (Register (length ts) (result_register (instr_at p caller.method caller.place))) ≡ None
awaited p t s fr caller ts typed top some = method_layer (Good p t s.cells) fr (Run caller ∷ ts) typed.layers (sym typed.tasks ∙ top) typed.good
    (λ sh ls under good. method_layer (λ ls. Good p t s.cells (Method fr sh ∷ ls)) caller ts ls under good (λ sh' ls rest good.
    let x = result_register (instr_at p caller.method caller.place) in
    let q = Register (length (tasks_of ls)) x in
    awaits_none p s ls ts sh' x _ (awaiting (gives_of p fr.method) x sh' some good.stack.4.0.1)
    (ap (λ b. cond b (register sh x) (claim p (declared p s.cells) (Method caller sh' ∷ ls) q))
    (ne_eqb (suc (length (tasks_of ls))) (length (tasks_of ls)) (λ e. absurd (omega arith))) ∙ claim_register p (declared p s.cells) caller sh' ls x)
    (good.fits q) rest))

-- the same through a trap
awaited_trapped : (p : Image) (t : Typing) (s : State) (fr caller : Frame) (ts : List Task) → WellTyped p t s → s.tasks ≡ Run fr ∷ Trapped ∷ Run caller ∷ ts →
    bears (gives_of p fr.method) ≡ true → held s.cells (Register (length ts) (result_register (instr_at p caller.method caller.place))) ≡ None
awaited_trapped p t s fr caller ts typed top some = method_layer (Good p t s.cells) fr (Trapped ∷ Run caller ∷ ts) typed.layers (sym typed.tasks ∙ top)
    typed.good (λ sh ls under good. caught_layer (λ ls. Good p t s.cells (Method fr sh ∷ ls)) _ caller ts ls under good (λ gv sh' ls rest good.
    let x = result_register (instr_at p caller.method caller.place) in
    let d = length (tasks_of ls) in
    let mark = good.stack.4 in
    awaits_none p s ls ts sh' x _ (awaiting gv x sh' (ap bears (sym mark.0.0) ∙ some) mark.1.0.2)
    (ap (λ b. cond b (register sh x) (claim p (declared p s.cells) (Mark gv ∷ Method caller sh' ∷ ls) (Register d x)))
    (ne_eqb (suc (suc d)) d (λ e. absurd (omega arith))) ∙ claim_register p (declared p s.cells) caller sh' ls x)
    (good.fits (Register d x)) rest))

-- a register with a word owns nothing
pub word_alone : (p : Image) (t : Typing) (s : State) (fr : Frame) (ts : List Task) (i : ℕ) (w : ℤ) →
    WellTyped p t s → s.tasks ≡ Run fr ∷ ts → word fr i ≡ Some w → held s.cells (Register (length ts) i) ≡ None
word_alone p t s fr ts i w typed top has = method_layer (λ ls. Good p t s.cells ls) fr ts typed.layers (sym typed.tasks ∙ top) typed.good (λ sh ls rest good.
    let q = Register (length (tasks_of ls)) i in
    let claims = claim_register p (declared p s.cells) fr sh ls i in
    let none = kind_alone (register sh i) (word fr i) (held s.cells q) has (good.stack.1.words i)
    (subst (Fits p (seen s.cells) (held s.cells q)) claims (good.fits q)) in
    subst (λ us. held s.cells (Register (length us) i) ≡ None) rest none)
  where
    kind_alone : (k : Kind) (w' : Option ℤ) (o : Option Object) → w' ≡ Some w → WordFits w' k → Fits p (seen s.cells) o k → o ≡ None
    kind_alone k w' o e word fits = none_given (λ o. Fits p (seen s.cells) o k) o fits (λ x fits. owned x k fits (subst (λ v. WordFits v k) e word)) (λ is _. is)
      where
        owned : (x : Object) (k : Kind) → Fits p (seen s.cells) (Some x) k → WordFits (Some w) k → ⊥
        owned x (Own y age) fits word = none-some _ (sym word)
        owned x (Maybe y age) fits word = none-some _ (sym word)
        owned x _ fits word = fits

-- what gives an object has no word in its register
abbrev pub Wordless : Gives → Option ℤ → Type 0
Wordless (An_own t) w = w ≡ None
Wordless (A_maybe t) w = w ≡ None
Wordless _ w = Unit {0}

wordless : (p : Image) (fr : Frame) (ts : List Task) (s : State) (g : Gives) (a : ℕ) → AllTrue (result_needs p fr ts s g a) → Wordless g (word fr a)
wordless p fr ts s x a met = grind (arith, nat_tests, no_word)

module _ (p : Image) (m : Parts) (t : Typing) (s : State) (fr : Frame) (agrees : Agrees p m s) (f : Machine_frame) (a : ℕ) where
  -- to the going of a cell, to an unwinding or to a dispatch: nothing goes over
  pub to_waiting : (ms : List Machine_task) (ts : List Task) → Top m s fr ts f ms → ((i : ℕ) → held s.cells (Register (length ts) i) ≡ None)
      → Agrees p (with_tasks ms m) (record s { tasks = ts })
  to_waiting ms ts top clear = retasked p m s ms ts agrees top.below (λ r. subst (Represents (value_in ms m.cells m.entries.items (others m) r) (word_at ts r))
      (cleared_none _ (held s.cells) clear r) (beneath f ms fr ts m.cells m.entries.items (others m) (held s.cells) top.deep top.values r))

  -- to a method, or through a trap to one
  module _ (trapped : Bool) (g : Machine_frame) (ms : List Machine_task) (caller : Frame) (ts : List Task) (top : Top m s fr (tasks_over trapped
      (Run caller ∷ ts)) f (held_over trapped (Runs_frame g ∷ ms))) (small : result_register (instr_at p caller.method caller.place) < 16) where
    abbrev x : ℕ
    x = result_register (instr_at p caller.method caller.place)

    abbrev n : ℕ
    n = slice_index_or f.registers a null

    abbrev over : List Task
    over = tasks_over trapped (Run caller ∷ ts)

    abbrev under : Place → Option Object
    under = cleared (length over) (held s.cells)

    abbrev from : Place
    from = Register (length over) a

    abbrev to : Place
    to = Register (length ts) x

    high : length ts < length over
    high = higher trapped (Run caller ∷ ts) (omega arith)

    deep : length ms ≡ length ts
    deep = grind (arith, nat_tests, held_over, tasks_over)

    same_there : SameFrame g caller × SameTasks ms ts
    same_there = grind (arith, nat_tests, held_over, tasks_over)

    abbrev same_frame : SameFrame g caller
    same_frame = same_there.0

    base : (r : Place) → Represents (value_in (Runs_frame g ∷ ms) m.cells m.entries.items (others m) r) (word_at (Run caller ∷ ts) r) (under r)
    base r = grind (
      arith,
      nat_tests,
      over_value trapped (Runs_frame g ∷ ms) m.cells m.entries.items,
      held_over trapped (Runs_frame g ∷ ms),
      over_words trapped (Run caller ∷ ts) r,
      beneath f (held_over trapped (Runs_frame g ∷ ms)) fr,
    )

    number_shows : Represents n (word fr a) (held s.cells from)
    number_shows = register_shows m s fr over f (held_over trapped (Runs_frame g ∷ ms)) top a

    -- the result has come
    record Landed (rs : List ℕ) (ws : List (Option ℤ)) (cs : List Cell) : Type 0 where
      values : (r : Place) → Represents (value_in (Runs_frame (record g { registers = rs }) ∷ ms) m.cells m.entries.items (others m) r)
          (word_at (Run (record caller { words = ws }) ∷ ts) r) (held cs r)
      aside : Aside p m (record s { cells = cs })
      wide : length rs ≡ 16

    abbrev IsClear : List Cell → Type 0
    IsClear cs = (i : ℕ) → held cs (Register (length over) i) ≡ None

    -- with nothing
    lands_bare : IsClear s.cells → Landed g.registers caller.words s.cells
    lands_bare clear = record {
      values = λ r. subst (Represents (value_in (Runs_frame g ∷ ms) m.cells m.entries.items (others m) r) (word_at (Run caller ∷ ts) r))
          (cleared_none _ (held s.cells) clear r) (base r);
      aside = aside_of p m s agrees;
      wide = same_frame.wide;
    }

    -- with a number
    lands : (cs : List Cell) (w : Option ℤ) (o : Option Object) → Aside p m (record s { cells = cs }) →
        Represents n w o → ((r : Place) → held cs r ≡ changed under to o r) → Landed (slice_set g.registers x n) (set_word caller x w).words cs
    lands cs w o aside shows holds =
        let wide = same_frame.wide in
        record {
          values = writes _ _ _ _ _ _ to n w o base shows (value_written g ms m.cells m.entries.items (others m) (length ts) x n g.place deep (omega arith))
              (word_written caller ts x caller.place w) holds;
          aside = aside;
          wide = length-set g.registers x n ∙ wide;
        }

    -- with a word
    lands_word : IsClear s.cells → held s.cells to ≡ None → Landed (slice_set g.registers x n) (set_word caller x (word fr a)).words s.cells
    lands_word clear empty = lands s.cells (word fr a) None (aside_of p m s agrees) (subst (Represents n (word fr a)) (clear a) number_shows) (λ r. kept (held
        s.cells) to r ∙ ap (λ o. changed (held s.cells) to o r) empty ∙ ap (λ o. cond (same_place to r) None o) (sym (cleared_none _ (held s.cells) clear r)))

    -- with an object
    lands_object : IsClear (moved from to s.cells) → held s.cells to ≡ None → word fr a ≡ None →
        Landed (slice_set g.registers x n) (set_word caller x None).words (moved from to s.cells)
    lands_object clear empty wordless = lands (moved from to s.cells) None (held s.cells from) (aside_moved p m s from to agrees refl refl)
        (subst (λ w. Represents n w (held s.cells from)) wordless number_shows) holds
      where
        elsewhere : (r : Place) → same_place from r ≡ false → under r ≡ held s.cells r → held (moved from to s.cells) r ≡ changed under to (held s.cells from) r
        elsewhere r e same = held_moved s.cells from to r empty ∙ ap (λ b. cond (same_place to r) (held s.cells from) (cond b None (held s.cells r))) e
            ∙ ap (λ o. cond (same_place to r) (held s.cells from) o) (sym same)

        holds : (r : Place) → held (moved from to s.cells) r ≡ changed under to (held s.cells from) r
        holds (Entry k) = elsewhere (Entry k) refl refl
        holds (Field k i) = elsewhere (Field k i) refl refl
        holds (Going k) = elsewhere (Going k) refl refl
        holds (Elsewhere o) = elsewhere (Elsewhere o) refl refl
        holds (Register e i) = cases (length over == e) (λ b.
            let at = eqb-true (length over) e b in
            let above = high in
            ap (λ k. held (moved from to s.cells) (Register k i)) (sym at) ∙ clear i
            ∙ sym (ap (λ c. cond (c && (x == i)) (held s.cells from) (under (Register e i))) (ne_eqb (length ts) e (λ d. absurd (omega arith)))
            ∙ ap (λ c. cond c None (held s.cells (Register e i))) b))
            (λ b. elsewhere (Register e i) (ap (λ c. c && (a == i)) b) (ap (λ c. cond c None (held s.cells (Register e i))) b))

    -- the method goes on
    lands_next : (rs : List ℕ) (ws : List (Option ℤ)) (cs : List Cell) → Landed rs ws cs → Agrees p (places.next
        (with_tasks (Runs_frame (record g { registers = rs }) ∷ ms) m)) (record s { cells = cs; tasks = Run (next (record caller { words = ws })) ∷ ts })
    lands_next rs ws cs landed =
        let g' = record g { registers = rs } in
        let caller' = record caller { words = ws } in
        agrees_with p m (record s { cells = cs }) (Runs_frame (record g' { place = suc g.place }) ∷ ms) (Run (next caller') ∷ ts) landed.aside
        (moved_on g caller rs ws same_frame landed.wide, same_there.1) (λ r. subst (λ k. Represents k (word_at (Run (next caller') ∷ ts) r) (held cs r))
        (sym (value_kept g' ms m.cells m.entries.items (others m) (suc g.place) r))
        (subst (λ w. Represents (value_in (Runs_frame g' ∷ ms) m.cells m.entries.items (others m) r) w (held cs r)) (sym (word_next caller' ts (suc caller.place) r)) (landed.values r)))

    -- through its trap, with 0 for the code
    lands_coded : (es : Machine_items) → m.entries ≡ record es { items = Is_mark ∷ es.items } →
        suc x < 16 → (rs : List ℕ) (ws : List (Option ℤ)) (cs : List Cell) → held cs (Register (length ts) (suc x)) ≡ None → Landed rs ws cs
        → Agrees p (places.next (places.set_register (suc x) 0 (with_tasks (Runs_frame (record g { registers = rs }) ∷ ms) (record m { entries = es }))))
        (record s { cells = cs; tasks = Run (next (set_word (record caller { words = ws }) (suc x) (Some (pos 0)))) ∷ ts; items = below_top s.items })
    lands_coded es marked coded rs ws cs empty landed =
        let g' = record g { registers = rs } in
        let caller' = record caller { words = ws } in
        let q = Register (length ts) (suc x) in
        let wide = landed.wide in
        let was : m.entries.items ≡ Is_mark ∷ es.items = ap (λ (e : Machine_items). e.items) marked in
        let old : (r : Place) → Represents (value_in (Runs_frame g' ∷ ms) m.cells es.items (others m) r) (word_at (Run caller' ∷ ts) r) (held cs r) =
        grind (arith, nat_tests, value_alike (Runs_frame g' ∷ ms) m.cells (Is_mark ∷ es.items) es.items, mark_shows_none es.items) in
        agrees_with p (record m { entries = es }) (record s { cells = cs; items = below_top s.items })
        (Runs_frame (record g { registers = slice_set rs (suc x) 0; place = suc g.place }) ∷ ms) (Run (next (set_word caller' (suc x) (Some (pos 0)))) ∷ ts)
        (aside_unmarked p m (record s { cells = cs }) es marked landed.aside)
        (moved_on g caller (slice_set rs (suc x) 0) (set_word caller' (suc x) (Some (pos 0))).words same_frame (length-set rs (suc x) 0 ∙ wide), same_there.1)
        (writes _ _ _ _ (held cs) _ q 0 (Some (pos 0)) None old refl
        (value_written g' ms m.cells es.items (others m) (length ts) (suc x) 0 (suc g.place) deep (omega arith))
        (word_written caller' ts (suc x) (suc caller.place) (Some (pos 0))) (λ r. kept (held cs) q r ∙ ap (λ o. changed (held cs) q o r) empty))

  -- to a method
  module _ (g : Machine_frame) (ms : List Machine_task) (caller : Frame) (ts : List Task) (top : Top m s fr (Run caller ∷ ts) f (Runs_frame g ∷ ms))
      (empty : bears (gives_of p fr.method) ≡ true → held s.cells (Register (length ts) (result_register (instr_at p caller.method caller.place))) ≡ None)
      (small : result_register (instr_at p caller.method caller.place) < 16) where
    abbrev y : ℕ
    y = result_register (instr_at p caller.method caller.place)

    abbrev k : ℕ
    k = slice_index_or f.registers a null

    abbrev Goes : Gives → Type 0
    Goes gv = Wordless gv (word fr a) → bears gv ≡ bears (gives_of p fr.method) → WellTyped p t (returned p fr (Run caller ∷ ts) s gv a (Run caller ∷ ts))
        → Agrees p (places.next (resulted gv y k (with_tasks (Runs_frame g ∷ ms) m))) (returned p fr (Run caller ∷ ts) s gv a (Run caller ∷ ts))

    to_method : (gv : Gives) → Goes gv
    to_method A_word met same typed = lands_next false g ms caller ts top small _ _ _
        (lands_word false g ms caller ts top small (λ i. none_above p t _ _ i typed (omega arith)) (empty (sym same)))
    to_method (An_own z) met same typed = lands_next false g ms caller ts top small _ _ _
        (lands_object false g ms caller ts top small (λ i. none_above p t _ _ i typed (omega arith)) (empty (sym same)) met)
    to_method (A_maybe z) met same typed = lands_next false g ms caller ts top small _ _ _
        (lands_object false g ms caller ts top small (λ i. none_above p t _ _ i typed (omega arith)) (empty (sym same)) met)
    to_method _ met same typed =
        lands_next false g ms caller ts top small _ _ _ (lands_bare false g ms caller ts top small (λ i. none_above p t _ _ i typed (omega arith)))

  -- through a trap
  module _ (es : Machine_items) (marked : m.entries ≡ record es { items = Is_mark ∷ es.items }) (g : Machine_frame)
      (ms : List Machine_task) (caller : Frame) (ts : List Task) (top : Top m s fr (Trapped ∷ Run caller ∷ ts) f (Is_trap ∷ Runs_frame g ∷ ms))
      (empty : bears (gives_of p fr.method) ≡ true → held s.cells (Register (length ts) (result_register (instr_at p caller.method caller.place))) ≡ None)
      (coded : suc (result_register (instr_at p caller.method caller.place)) < 16) where
    abbrev z : ℕ
    z = result_register (instr_at p caller.method caller.place)

    abbrev j : ℕ
    j = slice_index_or f.registers a null

    small_too : z < 16
    small_too = omega (arith, coded)

    abbrev GoesThrough : Gives → Type 0
    GoesThrough gv = Wordless gv (word fr a) → bears gv ≡ bears (gives_of p fr.method) → WellTyped p t
        (returned p fr (Trapped ∷ Run caller ∷ ts) s gv a (Trapped ∷ Run caller ∷ ts)) → Agrees p (places.next (places.set_register (suc z) 0 (resulted gv z j
        (with_tasks (Runs_frame g ∷ ms) (record m { entries = es }))))) (returned p fr (Trapped ∷ Run caller ∷ ts) s gv a (Trapped ∷ Run caller ∷ ts))

    -- the code's register has a word then
    code_alone : (cs : List Cell) (caller' : Frame) (items : _) → WellTyped p t (record s
        { cells = cs; tasks = Run (next (set_word caller' (suc z) (Some (pos 0)))) ∷ ts; items = items }) → held cs (Register (length ts) (suc z)) ≡ None
    code_alone cs caller' items typed = word_alone p t _ (next (set_word caller' (suc z) (Some (pos 0)))) ts (suc z) (pos 0) typed refl
        (at-set_extending None caller'.words (suc z) (suc z) (Some (pos 0)) ∙ ap (λ b. cond b (Some (pos 0)) (word caller' (suc z))) (eq-eqb (suc z) (suc z) refl))

    through : (gv : Gives) → GoesThrough gv
    through A_word met same typed = lands_coded true g ms caller ts top small_too es marked coded _ _ _ (code_alone _ (set_word caller z (word fr a)) _ typed)
        (lands_word true g ms caller ts top small_too (λ i. none_above p t _ _ i typed (omega arith)) (empty (sym same)))
    through (An_own thing) met same typed = lands_coded true g ms caller ts top small_too es marked coded _ _ _ (code_alone _ (set_word caller z None) _ typed)
        (lands_object true g ms caller ts top small_too (λ i. none_above p t _ _ i typed (omega arith)) (empty (sym same)) met)
    through (A_maybe thing) met same typed = lands_coded true g ms caller ts top small_too es marked coded _ _ _ (code_alone _ (set_word caller z None) _ typed)
        (lands_object true g ms caller ts top small_too (λ i. none_above p t _ _ i typed (omega arith)) (empty (sym same)) met)
    through _ met same typed = lands_coded true g ms caller ts top small_too es marked coded _ _ _
        (code_alone _ caller _ typed) (lands_bare true g ms caller ts top small_too (λ i. none_above p t _ _ i typed (omega arith)))

-- ---- a return to a dispatch of the machine's

-- it is no server's that opens a session
abbrev pub AcceptsNot : Machine_dispatch → Type 0
AcceptsNot (Of_one_served x client stages.Accepts) = ⊥
AcceptsNot x = Unit {0}

-- which it is
abbrev pub Accepting : Machine_dispatch → Type 0
Accepting x = AcceptsNot x ⊎ ((y : Subject) × (c : ℕ) × (x ≡ Of_one_served y c stages.Accepts))

accepting_or : (x : Machine_dispatch) → Accepting x
accepting_or x = grind arith

-- it is served on both sides, and all else stays
returned_plain : (p : Image) (fr : Frame) (s : State) (g : Gives) (a : ℕ) (ts : List Task) (q : Place) (x : Machine_dispatch) → AcceptsNot x →
    returned p fr (Trapped ∷ Dispatched (dispatch_of q x) ∷ ts) s g a
    (Trapped ∷ Dispatched (dispatch_of q x) ∷ ts) ≡ record s { tasks = Dispatched (dispatch_of q (ends.served x)) ∷ ts; items = below_top s.items }
returned_plain p fr s g a ts q x plain = grind arith

opened_plain : (n : ℕ) (x : Machine_dispatch) (us : List Machine_task) (k : kept_clients.ClientsState) → AcceptsNot x → opened_by n (Ends x ∷ us) k ≡ k
opened_plain n x us k plain = grind arith

-- `accept` gives an object, a session with its server
record Gives_session (p : Image) (s : State) (fr : Frame) (x : OwnedObject) : Type 0 where
  thing : Thing
  gives : gives_of p fr.method ≡ An_own thing
  object : is_object thing ≡ true
  lives : named s.cells x.object.name ≡ Some x.object

gives_session : (p : Image) (t : Typing) (s : State) (fr : Frame) (x : OwnedObject) (c : ℕ) (ts : List Task) →
    WellTyped p t s → s.tasks ≡ Run fr ∷ Trapped ∷ Dispatched (Of_server x c Accepts) ∷ ts → Gives_session p s fr x
gives_session p t s fr x c ts typed top =
    method_layer (Good p t s.cells) fr (Trapped ∷ Dispatched (Of_server x c Accepts) ∷ ts) typed.layers (sym typed.tasks ∙ top) typed.good (λ sh ls under good.
    mark_layer (λ ls. Good p t s.cells (Method fr sh ∷ ls)) (Dispatched (Of_server x c Accepts) ∷ ts) ls under good (λ gv ls under good.
    dispatch_layer (λ ls. Good p t s.cells (Method fr sh ∷ Mark gv ∷ ls)) (Of_server x c Accepts) ts ls under good (λ owned_chain ls _ good.
    let mark = good.stack.4 in
    let dispatch = mark.1 in
    record {
      thing = dispatch.0.0;
      gives = mark.0.0 ∙ dispatch.0.1;
      object = session_is (session_class p x.object.thing) dispatch.0.0 dispatch.0.2;
      lives = sits_lives s.cells owned_chain x dispatch.2 dispatch.3;
    })))
  where
    session_is : (o : Option ℕ) (y : Thing) → of_class o ≡ Some y → is_object y ≡ true
    session_is o y e = grind arith

-- the number of what a register owns then is that of a cell
owned_number : (p : Image) (m : Parts) (s : State) → p.header.cells ≤ 4096 → Agrees p m s → (r : Place) (n : ℕ) (y : Thing) →
    is_object y ≡ true → NoDuplicates s.cells → is_some (held s.cells r) ≡ true → is_thing p y (held s.cells r) ≡ true → Represents n None (held s.cells r) → n < 4096
owned_number p m s few agrees r n y object no_duplicates some thing shows = go (held s.cells r) refl some thing shows
  where
    go : (o : Option Object) → held s.cells r ≡ o → is_some o ≡ true → is_thing p y o ≡ true → Represents n None o → n < 4096
    go None e some thing shows = absurd (false≢true some)
    go (Some o) e some thing shows =
        let lives = held_lives s.cells r o no_duplicates e in
        let is : is_object o.thing ≡ true = stands_object p o.thing y thing ∙ object in
        subst (λ k. k < 4096) (sym shows) (some_given (λ c. IsSome c) (cell_at m.cells o.name)
        (object_lives_at p m s agrees o lives is) (λ none. cc) (λ c there some. cell_small p m.cells s.cells agrees.cells few o.name c there))

-- and below that of cells
pub lives_within : (p : Image) (m : Parts) (s : State) → Agrees p m s → (o : Object) → named s.cells o.name ≡ Some o →
    is_object o.thing ≡ true → o.name < p.header.cells
lives_within p m s agrees o lives object = some_given (λ c. IsSome c) (cell_at m.cells o.name)
    (object_lives_at p m s agrees o lives object) (λ none. cc) (λ c there some. subst (λ k. o.name < k) agrees.cells.limit (agrees.cells.below o.name c there))

-- ---- a dispatch that has asked hears the answer

observed_same : (answer answer' : ℤ) (x : Machine_dispatch) (d : Dispatch) → answer ≡ answer' → SameDispatch x d → SameDispatch (observed answer x) (answered_by answer' d)
observed_same answer answer' x d e same = (same.0, subst (λ d. dispatch_of same.0 (observed answer x) ≡ answered_by answer' d) same.1 (go same.0 x))
  where
    go : (q : Place) (x : Machine_dispatch) → dispatch_of q (observed answer x) ≡ answered_by answer' (dispatch_of q x)
    go q y = grind arith

-- a dispatch has no place of its own
redispatched : (p : Image) (m : Parts) (s : State) (x y : Machine_dispatch) (ms : List Machine_task) (d e : Dispatch) (ts : List Task) → SameDispatch y e
    → Agrees p (with_tasks (Ends x ∷ ms) m) (record s { tasks = Dispatched d ∷ ts }) → Agrees p (with_tasks (Ends y ∷ ms) m) (record s { tasks = Dispatched e ∷ ts })
redispatched p m s x y ms d e ts same agrees =
    retasked p (with_tasks (Ends x ∷ ms) m) (record s { tasks = Dispatched d ∷ ts }) (Ends y ∷ ms) (Dispatched e ∷ ts) agrees (same, agrees.tasks.1) values
  where
    values : (r : Place) → Represents (value_in (Ends y ∷ ms) m.cells m.entries.items (others m) r) (word_at (Dispatched e ∷ ts) r) (held s.cells r)
    values (Register k i) = agrees.values (Register k i)
    values (Entry k) = agrees.values (Entry k)
    values (Field n g) = agrees.values (Field n g)
    values (Going k) = agrees.values (Going k)
    values (Elsewhere o) = agrees.values (Elsewhere o)

-- what the machine tells is the word that the method gives
reported_same : (p : Image) (m : Parts) (h : CurrentFrame p m) (g : Gives) (a : ℕ) → AllTrue (result_needs p h.frame h.below h.state g a)
    → reported_by g (register_here m.stack.tasks a) ≡ reported_answer g h.frame a
reported_same p m h A_word a met = word_read p m h a met.0
reported_same p m h _ a met = refl

-- ---- the return, once the cancel that the method may have ended is over

-- what a return does where its needs are met
pub return_does : (p : Image) (m new : Parts) (refused : List ℕ) (i : Instr) (a : ℕ) → transfer_of i ≡ transfer.Return a →
    ((h : CurrentFrame p m) → AllTrue (needs_return p h.frame h.below h.state a) → (let over = record h.state { cells = ended_cells p h.frame h.state.cells } in
    WellTyped p h.typing (returned p h.frame h.below over (gives_of p h.frame.method) a h.below) →
    Agrees p new (returned p h.frame h.below over (gives_of p h.frame.method) a h.below))) → DoesIn p refused i m new
return_does p m new refused i a is act =
    subst (λ j. DoesIn p refused j m new) (sym (return_is i a is)) (plain_in p m new refused _ refl (λ h c needs typed. act h needs typed))

module _ (p : Image) (m : Parts) (refused : List ℕ) (i : Instr) (a : ℕ) (is_return : transfer_of i ≡ transfer.Return a) (act : Active)
    (is_over : IsOver p m act) where
  -- the machine then, the state that it stands for, and that once the method is gone
  abbrev mid : Parts
  mid = record m { active = act }

  abbrev past : CurrentFrame p m → State
  past h = record h.state { cells = ended_cells p h.frame h.state.cells }

  abbrev after : (h : CurrentFrame p m) → List Task → State
  after h ts = returned p h.frame ts (past h) (gives_of p h.frame.method) a ts

  agree : (h : CurrentFrame p m) → Agrees p mid (past h)
  agree h = ended_agrees p m h act is_over

  still : (h : CurrentFrame p m) (q : Place) → held (past h).cells q ≡ held h.state.cells q
  still h q = (ended_alike p h.frame h.state.cells).held_so q

  top_over : (h : CurrentFrame p m) (ts : List Task) (f : Machine_frame) (ms : List Machine_task) → Top m h.state h.frame ts f ms → Top mid (past h) h.frame ts f ms
  top_over h ts f ms top = record { frame = top.frame; below = top.below; deep = top.deep; values = grind (arith, nat_tests, still h) }

  -- what holds of the machine's tasks tells what is below its method
  by_return : (P : List Machine_task → Type 0) (G : List Machine_task → Parts) → P m.stack.tasks
      → ((h : CurrentFrame p m) (f : Machine_frame) (ms : List Machine_task) → Top mid (past h) h.frame h.below f ms → Alike ms h.below → AllTrue
      (result_needs p h.frame h.below h.state (gives_of p h.frame.method) a) → AllTrue (end_needs p h.frame h.below h.state h.below) → WellTyped p h.typing
      (after h h.below) → P (Runs_frame f ∷ ms) → Agrees p (G (Runs_frame f ∷ ms)) (after h h.below)) → DoesIn p refused i m (G m.stack.tasks)
  by_return P G has each = return_does p m (G m.stack.tasks) refused i a is_return (λ h needs typed.
      let met = all_parts (result_needs p h.frame h.below h.state (gives_of p h.frame.method) a) _ needs in
      by_top p m h (λ us. P us → Agrees p (G us) (after h h.below))
      (λ f ms top has. each h f ms (top_over h h.below f ms top) (alike ms h.below top.below) met.0 met.1.1.1.1 typed has) has)

  pub return_to_method : (x : ℕ) → TopFrameIs (below_first m.stack.tasks) → x < 16 →
      x ≡ result_register (instr_at p (method_here (below_first m.stack.tasks)) (place_here (below_first m.stack.tasks))) → DoesIn p refused i m
      (places.next (resulted (gives_of p (method_here m.stack.tasks)) x (register_here m.stack.tasks a) (with_tasks (below_first m.stack.tasks) mid)))
  return_to_method x runs small is = by_return
      (λ us. TopFrameIs (below_first us) × (x ≡ result_register (instr_at p (method_here (below_first us)) (place_here (below_first us))))) (λ us. places.next
      (resulted (gives_of p (method_here us)) x (register_here us a) (with_tasks (below_first us) mid))) (runs, is) (λ h f ms top same met last typed has. go h
      f ms h.below h.top top (top_matches A_method ms has.0) same has.1 (wordless p h.frame h.below h.state (gives_of p h.frame.method) a met) typed)
    where
      go : (h : CurrentFrame p m) (f : Machine_frame) (ms : List Machine_task) (ts : List Task) → h.state.tasks ≡ Run h.frame ∷ ts → Top mid (past h) h.frame ts f ms
          → TopMatches A_method ms → Alike ms ts → x ≡ result_register (instr_at p (method_here ms) (place_here ms))
          → Wordless (gives_of p h.frame.method) (word h.frame a) → WellTyped p h.typing (after h ts)
          → Agrees p (places.next (resulted (gives_of p f.method) x (slice_index_or f.registers a null) (with_tasks ms mid))) (after h ts)
      go h f _ _ e top (method_on_top g ms) (both_run _ caller _ ts frame _ _) is wordless typed =
          let at : x ≡ result_register (instr_at p caller.method caller.place) =
          is ∙ ap (λ k. result_register (instr_at p k g.place)) frame.method ∙ ap (λ k. result_register (instr_at p caller.method k)) frame.place in
          subst (λ k. Agrees p (places.next (resulted (gives_of p k) x (slice_index_or f.registers a null) (with_tasks (Runs_frame g ∷ ms) mid)))
          (after h (Run caller ∷ ts))) (sym top.frame.method)
          (subst (λ k. Agrees p (places.next (resulted (gives_of p h.frame.method) k (slice_index_or f.registers a null) (with_tasks (Runs_frame g ∷ ms) mid)))
          (after h (Run caller ∷ ts))) (sym at) (to_method p mid h.typing (past h) h.frame (agree h) f a g ms caller ts top (λ some. still h _
          ∙ awaited p h.typing h.state h.frame caller ts h.typed e some) (subst (λ k. k < 16) at small) (gives_of p h.frame.method) wordless refl typed))

  pub return_through : (es : Machine_items) (x : ℕ) → IsTrapped (below_first m.stack.tasks) → TopFrameIs (below_first (below_first m.stack.tasks)) → m.entries
      ≡ record es { items = Is_mark ∷ es.items } → suc x < 16 → x ≡ result_register (instr_at p (method_here (below_first (below_first m.stack.tasks)))
      (place_here (below_first (below_first m.stack.tasks)))) → DoesIn p refused i m (places.next (places.set_register (suc x) 0 (resulted (gives_of p
      (method_here m.stack.tasks)) x (register_here m.stack.tasks a) (record (with_tasks (below_first (below_first m.stack.tasks)) mid) { entries = es }))))
  return_through es x trapped runs marked small is = by_return (λ us. IsTrapped (below_first us) × TopFrameIs (below_first (below_first us))
      × (x ≡ result_register (instr_at p (method_here (below_first (below_first us))) (place_here (below_first (below_first us))))))
      (λ us. places.next (places.set_register (suc x) 0 (resulted (gives_of p (method_here us)) x (register_here us a)
      (record (with_tasks (below_first (below_first us)) mid) { entries = es })))) (trapped, runs, is) (λ h f ms top same met last typed has. go h f ms h.below
      h.top top (top_matches A_catcher ms (has.0, has.1)) same has.2 (wordless p h.frame h.below h.state (gives_of p h.frame.method) a met) typed)
    where
      go : (h : CurrentFrame p m) (f : Machine_frame) (ms : List Machine_task) (ts : List Task) → h.state.tasks ≡ Run h.frame ∷ ts → Top mid (past h) h.frame ts f ms
          → TopMatches A_catcher ms → Alike ms ts → x ≡ result_register (instr_at p (method_here (below_first ms)) (place_here (below_first ms)))
          → Wordless (gives_of p h.frame.method) (word h.frame a) → WellTyped p h.typing (after h ts)
          → Agrees p (places.next (places.set_register (suc x) 0
          (resulted (gives_of p f.method) x (slice_index_or f.registers a null) (record (with_tasks (below_first ms) mid) { entries = es })))) (after h ts)
      go h f _ _ e top (catcher_on_top g ms) (both_trapped _ _ _ (both_run _ caller _ ts frame _ _)) is wordless typed =
          let at : x ≡ result_register (instr_at p caller.method caller.place) =
          is ∙ ap (λ k. result_register (instr_at p k g.place)) frame.method ∙ ap (λ k. result_register (instr_at p caller.method k)) frame.place in
          subst (λ k. Agrees p (places.next (places.set_register (suc x) 0 (resulted (gives_of p k) x (slice_index_or f.registers a null)
          (record (with_tasks (Runs_frame g ∷ ms) mid) { entries = es })))) (after h (Trapped ∷ Run caller ∷ ts))) (sym top.frame.method)
          (subst (λ k. Agrees p (places.next (places.set_register (suc k) 0 (resulted (gives_of p h.frame.method) k (slice_index_or f.registers a null)
          (record (with_tasks (Runs_frame g ∷ ms) mid) { entries = es })))) (after h (Trapped ∷ Run caller ∷ ts))) (sym at)
          (through p mid h.typing (past h) h.frame (agree h) f a es marked g ms caller ts top (λ some. still h _ ∙ awaited_trapped p h.typing h.state h.frame
          caller ts h.typed e some) (subst (λ k. suc k < 16) at small) (gives_of p h.frame.method) wordless refl typed))

  -- to what waits: nothing goes over
  to_waits : (P : List Machine_task → Type 0) → ((ms : List Machine_task) (ts : List Task) → P ms → Alike ms ts → (h : CurrentFrame p m) →
      after h ts ≡ record (past h) { tasks = ts }) → P (below_first m.stack.tasks) → DoesIn p refused i m (with_tasks (below_first m.stack.tasks) mid)
  to_waits P waits has = by_return (λ us. P (below_first us)) (λ us. with_tasks (below_first us) mid) has (λ h f ms top same met last typed has.
      let is = waits ms h.below has same h in
      subst (Agrees p (with_tasks ms mid)) (sym is)
      (to_waiting p mid h.typing (past h) h.frame (agree h) f a ms h.below top
      (λ i. none_above p h.typing (record (past h) { tasks = h.below }) _ i (subst (WellTyped p h.typing) is typed) (omega arith))))

  pub return_to_unwinding : IsUnwinding (below_first m.stack.tasks) → DoesIn p refused i m (with_tasks (below_first m.stack.tasks) mid)
  return_to_unwinding = to_waits IsUnwinding (λ ms ts has same h. go h (top_matches A_leave ms has) same)
    where
      go : (h : CurrentFrame p m) {ms : List Machine_task} {ts : List Task} → TopMatches A_leave ms → Alike ms ts → after h ts ≡ record (past h) { tasks = ts }
      go h (leave_on_top code ms) (both_unwind _ c _ ts _ _ _) = refl

  pub return_to_dispatch : (g : Gives) (d : Machine_dispatch) → gives_of p (method_here m.stack.tasks) ≡ g → ending_here (below_first m.stack.tasks) ≡ Some d
      → DoesIn p refused i m (with_tasks (Ends (observed (reported_by g (register_here m.stack.tasks a)) d) ∷ below_first (below_first m.stack.tasks)) mid)
  return_to_dispatch g d gives ending = by_return (λ us. ending_here (below_first us) ≡ Some d)
      (λ us. with_tasks (Ends (observed answer d) ∷ below_first (below_first us)) mid) ending (λ h f ms top same met last typed has.
      let reported = ap (λ k. reported_by k (register_here m.stack.tasks a)) (sym gives ∙ ap (gives_of p) (method_is p m h))
      ∙ reported_same p m h (gives_of p h.frame.method) a met in
      go h f ms h.below top (top_matches An_end ms (ending_of ms has)) same has reported typed)
    where
      answer : ℤ
      answer = reported_by g (register_here m.stack.tasks a)

      go : (h : CurrentFrame p m) (f : Machine_frame) (ms : List Machine_task) (ts : List Task) → Top mid (past h) h.frame ts f ms → TopMatches An_end ms →
          Alike ms ts → ending_here ms ≡ Some d → answer ≡ reported_answer (gives_of p h.frame.method) h.frame a → WellTyped p h.typing (after h ts) →
          Agrees p (with_tasks (Ends (observed answer d) ∷ below_first ms) mid) (after h ts)
      go h f _ _ top (end_on_top x ms) (both_end _ e _ ts same below _) is reported typed =
          let at : x ≡ d = cc in
          let waits = to_waiting p mid h.typing (past h) h.frame (agree h) f a (Ends x ∷ ms) (Dispatched e ∷ ts) top
          (λ i. none_above p h.typing (after h (Dispatched e ∷ ts)) _ i typed (omega arith)) in
          redispatched p mid (past h) x (observed answer d) ms e _ ts (observed_same answer _ d e reported (subst (λ x. SameDispatch x e) at same)) waits

  pub return_to_end : (es : Machine_items) → IsEnding (below_first (below_first m.stack.tasks)) →
      IsTrapped (below_first m.stack.tasks) → m.entries ≡ record es { items = Is_mark ∷ es.items } → DoesIn p refused i m
      (served (register_here m.stack.tasks a) (record (with_tasks (below_first (below_first m.stack.tasks)) mid) { entries = es }))
  return_to_end es ending trapped marked = by_return (λ us. IsTrapped (below_first us) × IsEnding (below_first (below_first us)))
      (λ us. served (register_here us a) (record (with_tasks (below_first (below_first us)) mid) { entries = es })) (trapped, ending)
      (λ h f ms top same met last typed has. go h f ms h.below top h.top (top_matches A_last_trap ms has) same met last typed)
    where
      -- the dispatch on top, and the machine with it
      Ended : CurrentFrame p m → Machine_frame → Machine_dispatch → List Machine_task → Dispatch → List Task → Type 0
      Ended h f x ms d ts = Top mid (past h) h.frame (Trapped ∷ Dispatched d ∷ ts) f (Is_trap ∷ Ends x ∷ ms) → h.state.tasks ≡ Run h.frame ∷ Trapped
          ∷ Dispatched d ∷ ts → AllTrue (result_needs p h.frame (Trapped ∷ Dispatched d ∷ ts) h.state (gives_of p h.frame.method) a) → AllTrue (end_needs
          p h.frame (Trapped ∷ Dispatched d ∷ ts) h.state (Trapped ∷ Dispatched d ∷ ts)) → WellTyped p h.typing (after h (Trapped ∷ Dispatched d ∷ ts)) →
          Agrees p (served (slice_index_or f.registers a null) (record (with_tasks (Ends x ∷ ms) mid) { entries = es })) (after h (Trapped ∷ Dispatched d ∷ ts))

      plainly : (h : CurrentFrame p m) (f : Machine_frame) (x : Machine_dispatch) (q : Place) → AcceptsNot x → Ended h f x [] (dispatch_of q x) []
      plainly h f x q plain top tasks met last typed =
          let is = returned_plain p h.frame (past h) (gives_of p h.frame.method) a [] q x plain in
          let shut = closing p h.typing _ (dispatch_of q (ends.served x)) (subst (λ v. WellTyped p h.typing v) is typed) refl in
          subst (λ v. Agrees p (served (slice_index_or f.registers a null) (record (with_tasks (Ends x ∷ []) mid) { entries = es })) v) (sym is)
          (subst (λ k. Agrees p (record (with_tasks (Ends (ends.served x) ∷ []) mid) { entries = es; clients = k })
          (record (past h) { tasks = Dispatched (dispatch_of q (ends.served x)) ∷ []; items = below_top h.state.items }))
          (sym (opened_plain (slice_index_or f.registers a null) x [] m.clients plain))
          (ended p mid es (past h) (ends.served x) (dispatch_of q (ends.served x)) (agree h) marked (q, refl) shut))

      opens : (h : CurrentFrame p m) (f : Machine_frame) (y : Subject) (c : ℕ) (q : Place) →
          Ended h f (Of_one_served y c stages.Accepts) [] (Of_server (owned_object_of q y) c Accepts) []
      opens h f y c q top tasks met last typed =
          let n = slice_index_or f.registers a null in
          let from = Register 2 a in
          let over = ended_alike p h.frame h.state.cells in
          let g = gives_session p h.typing h.state h.frame (owned_object_of q y) c [] h.typed tasks in
          let owned = subst (λ g. AllTrue (result_needs p h.frame (Trapped ∷ Dispatched (Of_server (owned_object_of q y) c Accepts) ∷ []) h.state g a)) g.gives met in
          let wordless : word h.frame a ≡ None = no_word _ owned.0 in
          let no_duplicates = over.no_duplicates h.typed.good.no_duplicates in
          let still = steady_ended p h.frame h.state.cells in
          let fit = fit_steady p h.state.clients h.state.cells (past h).cells still h.kept.fit in
          let stage = subst (λ us. TasksKept p h.state.clients h.state.cells us) tasks h.kept.stage in
          let connects : StageKept p h.state.clients (past h).cells (subject_of y) c Accepts =
          tasks_steady p h.state.clients h.state.cells (past h).cells still (Dispatched (Of_server (owned_object_of q y) c Accepts) ∷ []) stage in
          let there = over.named_so y.number ∙ g.lives in
          let few = h.formed.header.cells in
          let shows : Represents n None (held (past h).cells from) = subst (λ w. Represents n w (held (past h).cells from)) wordless (register_shows mid (past
          h) h.frame (Trapped ∷ Dispatched (Of_server (owned_object_of q y) c Accepts) ∷ []) f (Is_trap ∷ Ends (Of_one_served y c stages.Accepts) ∷ []) top a) in
          let small = owned_number p mid (past h) few (agree h) from n g.thing g.object no_duplicates
          (ap is_some (over.held_so from) ∙ owned.1.0) (ap (is_thing p g.thing) (over.held_so from) ∙ owned.1.1.0) shows in
          let empty : held (past h).cells (Elsewhere (Session y.number c)) ≡ None = over.held_so (Elsewhere (Session y.number c)) ∙ free _ last.1.0 in
          accepts p few mid (past h) no_duplicates fit (agree h) y q c there (lives_within p mid (past h) (agree h) (subject_of y) there refl) connects 2 a n
          (omega arith) shows empty es marked (closing p h.typing _ (Of_server (owned_object_of q y) c Accepted) typed refl)

      by_kind : (h : CurrentFrame p m) (f : Machine_frame) (x : Machine_dispatch) (q : Place) → Accepting x → Ended h f x [] (dispatch_of q x) []
      by_kind h f x q (inl plain) = plainly h f x q plain
      by_kind h f x q (inr y) = subst (λ x. Ended h f x [] (dispatch_of q x) []) (sym y.2) (opens h f y.0 y.1 q)

      go : (h : CurrentFrame p m) (f : Machine_frame) (ms : List Machine_task) (ts : List Task) → Top mid (past h) h.frame ts f ms →
          h.state.tasks ≡ Run h.frame ∷ ts → TopMatches A_last_trap ms → Alike ms ts → AllTrue (result_needs p h.frame ts h.state (gives_of p h.frame.method) a) →
          AllTrue (end_needs p h.frame ts h.state ts) → WellTyped p h.typing (after h ts) →
          Agrees p (served (slice_index_or f.registers a null) (record (with_tasks (below_first ms) mid) { entries = es })) (after h ts)
      go h f _ _ top tasks (last_trap_on_top x ms) (both_trapped _ _ _ (both_end _ d _ ts same below _)) met last typed =
          let none = under_dispatch p h.typing (after h (Trapped ∷ Dispatched d ∷ ts)) (ended_well d) ts typed refl in
          (subst (λ us. Ended h f x us d ts) (sym (none_alike ms ts below none)) (subst (λ us. Ended h f x [] d us)
          (sym none) (subst (λ e. Ended h f x [] e []) same.1 (by_kind h f x same.0 (accepting_or x))))) top tasks met last typed

-- ---- what `accept` gives is the number of a cell, and its client is one

can_plain : (n : ℕ) (x : Machine_dispatch) (us : List Machine_task) → AcceptsNot x → CanServe n (Ends x ∷ us)
can_plain n x us plain = grind arith

module _ (p : Image) (m : Parts) (h : CurrentFrame p m) (a : ℕ) where
  abbrev Can : Machine_frame → Machine_dispatch → List Machine_task → Dispatch → List Task → Type 0
  Can f x ms d ts = Top m h.state h.frame (Trapped ∷ Dispatched d ∷ ts) f (Is_trap ∷ Ends x ∷ ms) → h.state.tasks ≡ Run h.frame ∷ Trapped ∷ Dispatched d ∷ ts →
      AllTrue (result_needs p h.frame (Trapped ∷ Dispatched d ∷ ts) h.state (gives_of p h.frame.method) a) →
      CanServe (slice_index_or f.registers a null) (Ends x ∷ ms)

  accepts_one : (f : Machine_frame) (y : Subject) (c : ℕ) (ms : List Machine_task) (q : Place) (ts : List Task) →
      Can f (Of_one_served y c stages.Accepts) ms (Of_server (owned_object_of q y) c Accepts) ts
  accepts_one f y c ms q ts top tasks met =
      let d = suc (length ts) in
      let from = Register (suc d) a in
      let n = slice_index_or f.registers a null in
      let g = gives_session p h.typing h.state h.frame (owned_object_of q y) c ts h.typed tasks in
      let owned = subst (λ g. AllTrue (result_needs p h.frame (Trapped ∷ Dispatched (Of_server (owned_object_of q y) c Accepts) ∷ ts) h.state g a)) g.gives met in
      let wordless : word h.frame a ≡ None = no_word _ owned.0 in
      let shows : Represents n None (held h.state.cells from) = subst (λ w. Represents n w (held h.state.cells from)) wordless (register_shows m h.state h.frame
      (Trapped ∷ Dispatched (Of_server (owned_object_of q y) c Accepts) ∷ ts) f (Is_trap ∷ Ends (Of_one_served y c stages.Accepts) ∷ ms) top a) in
      let small = owned_number p m h.state h.formed.header.cells h.agrees from n g.thing g.object h.typed.good.no_duplicates owned.1.0 owned.1.1.0 shows in
      let connects = subst (λ us. TasksKept p h.state.clients h.state.cells us) tasks h.kept.stage in
      (connecting_below h.state.cells h.state.clients m.clients h.agrees.services.clients c y.number connects.0, omega (arith, small))

  can_by_kind : (f : Machine_frame) (x : Machine_dispatch) (ms : List Machine_task) (q : Place) (ts : List Task) → Accepting x → Can f x ms (dispatch_of q x) ts
  can_by_kind f x ms q ts (inl plain) = λ top tasks met. can_plain (slice_index_or f.registers a null) x ms plain
  can_by_kind f x ms q ts (inr y) = subst (λ x. Can f x ms (dispatch_of q x) ts) (sym y.2) (accepts_one f y.0 y.1 ms q ts)

  can_give : AllTrue (result_needs p h.frame h.below h.state (gives_of p h.frame.method) a) → IsTrapped (below_first m.stack.tasks) →
      IsEnding (below_first (below_first m.stack.tasks)) → CanServe (register_here m.stack.tasks a) (below_first (below_first m.stack.tasks))
  can_give met trapped ending =
      by_top p m h (λ us. (IsTrapped (below_first us) × IsEnding (below_first (below_first us))) → CanServe (register_here us a) (below_first (below_first us)))
      (λ f ms top has. go f ms h.below top h.top (top_matches A_last_trap ms has) (alike ms h.below top.below) met) (trapped, ending)
    where
      go : (f : Machine_frame) (ms : List Machine_task) (ts : List Task) → Top m h.state h.frame ts f ms →
          h.state.tasks ≡ Run h.frame ∷ ts → TopMatches A_last_trap ms → Alike ms ts → AllTrue (result_needs p h.frame ts h.state (gives_of p h.frame.method) a) →
          CanServe (slice_index_or f.registers a null) (below_first ms)
      go f _ _ top tasks (last_trap_on_top x ms) (both_trapped _ _ _ (both_end _ d _ ts same below _)) met =
          (subst (λ e. Can f x ms e ts) same.1 (can_by_kind f x ms same.0 ts (accepting_or x))) top tasks met

pub can_serve : (p : Image) (m : Parts) (i : Instr) (a : ℕ) → IsNext p i m → transfer_of i ≡ transfer.Return a → IsTrapped (below_first m.stack.tasks) →
    IsEnding (below_first (below_first m.stack.tasks)) → CanServe (register_here m.stack.tasks a) (below_first (below_first m.stack.tasks))
can_serve p m i a next is trapped ending =
    let k = counting next.counts m in
    let h = has_task p k next.stands next.runs in
    let n = return_needs p m i a next is in
    can_give p k h a (all_parts (result_needs p h.frame h.below (counted i (at_step h.state)) (gives_of p h.frame.method) a) _ n).0 trapped ending
