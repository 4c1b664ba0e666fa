-- The end of a dispatch.
use Rattle.std.proofs.lemmas.Bool.Decides.{nat_tests}
use Rattle.std.proofs.Common.{◌≡◌, ◌+◌, ◌<◌, ◌&&◌, ◌==◌, ℕ, ℤ, pos, Bool, true, false, not, cond, length, List, [], ◌∷◌}
use Rattle.std.proofs.Common.{◌++◌, Option, Some, None, slice_set, refl, sym, ap, ◌∙◌, subst, append-nil, arith}
use Rattle.std.specs.Int.{w32, cast_unsigned}
use Rattle.std.specs.Ordering.{int_eq}
use Rattle.std.proofs.Common.{FitsSigned}
use Rattle.std.proofs.lemmas.Bool.{eq-eqb, ne_eqb}
use Rattle.std.proofs.lemmas.Int.{to_z-of_z}
use Rattle.std.proofs.lemmas.List.{length-replicate, length-set}
use Rattle.aom_image.specs.Image.{Image}
use Rattle.aom_image.specs.declared.method.Role.TheVariants.{Error as Answers}
use Rattle.aom_cells.specs.Heap.{null}
use Rattle.aom_link_conditions.specs.Roles.{role_of}
use Rattle.aom_typing_rules.specs.Typing.{Typing}
use Rattle.aom_machine_instructions.proofs.SafetyLemmas.{dispatch_layer, sits_lives, under_dispatch}
use Rattle.aom_semantics.specs.Places.{Cell, Place, Register, Elsewhere, Root, Object, changed, held}
use Rattle.aom_transcript.specs.declared.line.Ending.TheVariants.{Stopped, MainLeft as Left_with}
use Rattle.aom_semantics.specs.State.{Dispatch, guarded, Receiver, Inside, Frame, frame_of, OwnedObject, Asks, Task, Run, Dispatched, Counters, State, Choice, raised}
use Rattle.aom_semantics.specs.Lines.{dispatch_lines}
use Rattle.aom_semantics.specs.Moves.{needs_end, answered, asked, asking, is_counted, closed, error_frame, failed}
use Rattle.aom_semantics.specs.Moves.{main_ends, object_ends, dispatch_ends, step, step_task, written_task}
use Rattle.aom_safety.specs.WellTyped.{WellTyped}
use Rattle.aom_machine_state.specs.LineBuffer.{LineBuffer}
use Rattle.aom_frames.specs.Tasks.{below_first, fresh, with_register}
use Rattle.aom_frames.specs.declared.frame.Frame.{Frame as Machine_frame}
use Rattle.aom_frames.specs.declared.task.Task.{Task as Machine_task}
use Rattle.aom_frames.specs.declared.task.Task.TheVariants.{Run as Runs_frame, Dispatched as Ends}
use Rattle.aom_frames.specs.declared.dispatch.Dispatch.{Dispatch as Machine_dispatch}
use Rattle.aom_frames.specs.declared.dispatch.Dispatch.TheVariants.{Answered as One_answered, Asks as One_asks, Main, MainLeft, Object as Of_one}
use Rattle.aom_frames.specs.declared.dispatch.Dispatch.TheVariants.{ObjectLeft as One_left, Root as End_of_run, Server as Of_one_served}
use Rattle.aom_frames.specs.declared.dispatch.Subject.{Subject}
use Rattle.aom_machine_state.specs.declared.parts.Parts.{Parts}
use Rattle.aom_machine_instructions.specs.Ends as ends
use Rattle.aom_machine_instructions.specs.Ends.{CanEnd, closed_counts, ended_answered, ended_dispatch, failed_counts, handled_counts}
use Rattle.aom_machine_state.specs.Places.{others, value_in, with_tasks, IsEnding}
use Rattle.aom_machine_instructions.specs.Going.{ending_here, root_removed}
use Rattle.aom_machine_state.specs.Agrees.{word_at, Represents, dispatch_of, number, owned_object_of, Agrees}
use Rattle.aom_machine_state.specs.Stands.{Stands}
use Rattle.aom_machine_instructions.specs.Moves.{Moves}
use Rattle.aom_machine_instructions.proofs.MachineStateLemmas.{Alike, An_end, TopMatches, alike, both_end, end_on_top, kept, none_alike, top_matches, value_written}
use Rattle.aom_machine_instructions.proofs.MachineStateLemmas.{word_written, writes}
use Rattle.aom_machine_instructions.proofs.Finding.{class_fits, root_lives}
use Rattle.aom_machine_instructions.proofs.Running.{object_small}
use Rattle.aom_safety.specs.WellTyped.{Good, OwnedFirst}
use Rattle.aom_safety.specs.WellTyped.{owned_object_of as checked_owned_object}
use Rattle.aom_semantics.specs.State.{Object_left}
use Rattle.aom_machine_state.specs.Agrees.{subject_of}
use Rattle.aom_semantics.specs.Places.{named}
use Rattle.aom_machine_instructions.proofs.Running.{agrees_with, an_open, aside_counted, aside_of, begun_frame, not_null, reframed}
use Rattle.aom_machine_instructions.proofs.CallActs.{Closing, closing, shows_null}
use Rattle.aom_machine_instructions.proofs.OnTop.{ending_of}
use Rattle.aom_machine_instructions.proofs.GoingActs.{end_value, end_word, fresh_value, fresh_word, removes_root}
use Rattle.aom_machine_instructions.proofs.Stepping.{counted_by, moved_so}
use Rattle.aom_image.specs.WellFormed.{WellFormed}

-- a dispatch that is at its end, on both sides
pub record AtEnd (m : Parts) (s : State) : Type 0 where
  pub dispatch : Machine_dispatch
  pub place : Place
  pub held : m.stack.tasks ≡ Ends dispatch ∷ []
  pub state : s.tasks ≡ Dispatched (dispatch_of place dispatch) ∷ []

pub at_end : (p : Image) (t : Typing) (m : Parts) (s : State) → WellTyped p t s → Agrees p m s → IsEnding m.stack.tasks → AtEnd m s
at_end p t m s typed agrees ending = go refl refl (top_matches An_end m.stack.tasks ending) (alike m.stack.tasks s.tasks agrees.tasks)
  where
    go : {ms : List Machine_task} {us : List Task} → m.stack.tasks ≡ ms → s.tasks ≡ us → TopMatches An_end ms → Alike ms us → AtEnd m s
    go e f (end_on_top x _) (both_end _ d ms ts same rest _) =
        let below = under_dispatch p t s d ts typed f in
        record {
          dispatch = x;
          place = same.0;
          held = e ∙ ap (λ us. Ends x ∷ us) (none_alike ms ts rest below);
          state = f ∙ ap (λ us. Dispatched d ∷ us) below ∙ ap (λ y. Dispatched y ∷ []) (sym same.1);
        }

-- who is dispatched lives
pub owned_object_lives : (p : Image) (t : Typing) (s : State) →
    WellTyped p t s → (d : Dispatch) (x : OwnedObject) → s.tasks ≡ Dispatched d ∷ [] → checked_owned_object d ≡ Some x → named s.cells x.object.name ≡ Some x.object
owned_object_lives p t s typed d x top is = dispatch_layer (Good p t s.cells) d [] typed.layers
    (sym typed.tasks ∙ top) typed.good (λ owned_chain ls _ good. sits_lives s.cells owned_chain x good.stack.2 (subst (λ y. OwnedFirst s.cells y owned_chain) is good.stack.3))

-- the root's destruction and its destructor find room there
pub remove_root_room : (p : Image) (m : Parts) → Stands (record { image = p; parts = m }) → IsEnding m.stack.tasks →
    length (below_first m.stack.tasks) + 2 < m.stack.depth
remove_root_room p m st ending = grind (arith, nat_tests, at_end p st.1.typing m st.0 st.1.typed st.1.agrees ending)

pub can_end : (p : Image) (m : Parts) → Stands (record { image = p; parts = m }) → IsEnding m.stack.tasks → CanEnd m
can_end p m st ending = record { lives = root_lives p m st; small = class_fits p m st.0 st.1.agrees m.root; room = remove_root_room p m st ending }

-- which dispatch that is
pub which : (m : Parts) (s : State) (e : AtEnd m s) (x : Machine_dispatch) → ending_here m.stack.tasks ≡ Some x → e.dispatch ≡ x
which m s e x is = let both : Some e.dispatch ≡ Some x = sym (ap ending_here e.held) ∙ is in cc

-- nothing is left at hand
emptied : (p : Image) (m : Parts) (s : State) (r r' : Counters) →
    Agrees p m s → Closing s → r ≡ r' → Agrees p (record m { stack = record m.stack { tasks = [] }; rest = r }) (record s { tasks = []; rest = r' })
emptied p m s r r' agrees shut same =
    grind (arith, nat_tests, agrees_with p, aside_counted p m s r r' (aside_of p m s agrees) same, aside_of p m s agrees, held s.cells, shows_null)

-- the state as the end of a dispatch finds it
abbrev pub at_close : State → State
at_close s = record s { rest = record s.rest { announced = true } }

-- it is no server's
abbrev pub IsPlain : Machine_dispatch → Type 0
IsPlain (Of_one_served x client stage) = ⊥
IsPlain x = Unit {0}

-- the end of such a dispatch needs nothing
needs_none : (q : Place) (x : Machine_dispatch) (cs : List Cell) → IsPlain x → needs_end (dispatch_of q x) cs ≡ []
needs_none q x cs plain = grind arith

-- and writes nothing
reports_none : (q : Place) (x : Machine_dispatch) (cs : List Cell) → IsPlain x → dispatch_lines cs (dispatch_of q x) ≡ []
reports_none q x cs plain = grind arith

pub step_of_end : (p : Image) (c : Choice) (s : State) (d : Dispatch) → s.tasks ≡ Dispatched d ∷ [] →
    step p c s ≡ guarded (needs_end d s.cells) (dispatch_ends p d (at_close s))
step_of_end p c s d top = ap (λ us. step_task p c (counted_by s (asked p us) (is_counted us)) us) top

-- the counts of both sides
abbrev over_counts : Counters → Counters
over_counts r = record r { ended = Some Stopped }

abbrev left_counts : ℤ → Counters → Counters
left_counts code r = record r { clock = raised r.clock; ended = Some (Left_with code) }

abbrev root_removed_counts : Counters → Counters
root_removed_counts r = record r { clock = raised r.clock }

-- what is left of a dispatch at its end, on both sides
module _ (p : Image) (formed : WellFormed p) (m : Parts) (announced : m.rest.announced ≡ true) (t : Typing) (s : State) (typed : WellTyped p t s)
    (agrees : Agrees p m s) (e : AtEnd m s) where
  abbrev now : Counters
  now = record s.rest { announced = true }

  shut : Closing s
  shut = closing p t s (dispatch_of e.place e.dispatch) typed e.state

  same_counts : (f : Counters → Counters) → f m.rest ≡ f now
  same_counts f = grind (arith, nat_tests)

  -- nothing
  left_alone : (r r' : Counters) → r ≡ r' →
      Agrees p (record m { stack = record m.stack { tasks = below_first m.stack.tasks }; rest = r }) (record s { tasks = []; rest = r' })
  left_alone r r' same = subst (λ us. Agrees p (record m { stack = record m.stack { tasks = us }; rest = r }) (record s { tasks = []; rest = r' }))
      (sym (ap below_first e.held)) (emptied p m s r r' agrees shut same)

  -- but for the root, where there is one and `stop` was run
  ends_alike : (r r' : Counters) → r ≡ r' →
      Agrees p (ended_dispatch p (record m { rest = r })) (main_ends p r'.stopped (held s.cells (Elsewhere Root)) (record s { rest = r' }))
  ends_alike r r' same = subst (λ b. Agrees p (ended_dispatch p old) (main_ends p b (held s.cells (Elsewhere Root)) new))
      (ap (λ (q : Counters). q.stopped) same) (go r.stopped (held s.cells (Elsewhere Root)) refl)
    where
      old : Parts
      old = record m { rest = r }

      new : State
      new = record s { rest = r' }

      alone : Agrees p (ends.closed old) (closed new)
      alone = left_alone (closed_counts r) (closed_counts r') (ap closed_counts same)

      go : (stopped : Bool) (root : Option Object) → held s.cells (Elsewhere Root) ≡ root →
          Agrees p (cond (stopped && not (m.root == null)) (root_removed p old) (ends.closed old)) (main_ends p stopped root new)
      go false root is = alone
      go true None is = subst (λ b. Agrees p (cond (not b) (root_removed p old) (ends.closed old)) (closed new))
          (sym (eq-eqb m.root null (agrees.values (Elsewhere Root) ∙ ap number is))) alone
      go true (Some o) is =
          let name : m.root ≡ o.name = agrees.values (Elsewhere Root) ∙ ap number is in
          let rooted : m.root ≡ null → ⊥ = λ n. not_null p m t s typed agrees (Elsewhere Root) o is (sym name ∙ n) in
          subst (λ b. Agrees p (cond (not b) (root_removed p old) (ends.closed old)) (main_ends p true (Some o) new)) (sym (ne_eqb m.root null rooted))
          (removes_root p formed m t s e.dispatch (dispatch_of e.place e.dispatch) o r (root_removed_counts r') typed agrees e.held e.state is (ap root_removed_counts same))

  -- the dispatch of an object counts
  object_alike : Agrees p (ended_dispatch p (ends.handled m)) (object_ends p (at_close s))
  object_alike = ends_alike (handled_counts m.rest) (handled_counts now) (same_counts handled_counts)

  -- its answer ends it, or the run
  answered_alike : (answer : ℤ) → Agrees p (ended_answered p answer m) (answered p answer (at_close s))
  answered_alike answer = go (int_eq answer (pos 0))
    where
      go : (b : Bool) →
          Agrees p (cond b (ended_dispatch p (ends.handled m)) (ends.failed answer m)) (cond b (object_ends p (at_close s)) (failed answer (at_close s)))
      go true = object_alike
      go false = left_alone (failed_counts answer m.rest) (failed_counts answer now) (same_counts (failed_counts answer))

  -- its `error` method runs on the code
  module _ (x : Subject) (is_owned_chain : named s.cells x.number ≡ Some (subject_of x)) (code : ℤ) (k : ℕ) where
    abbrev asked_owned_object : OwnedObject
    asked_owned_object = owned_object_of e.place x

    abbrev receiver : Receiver
    receiver = Inside asked_owned_object.object asked_owned_object.place

    abbrev f : Machine_frame
    f = fresh k x.number

    abbrev fr : Frame
    fr = frame_of k receiver (length s.items)

    abbrev us : List Machine_task
    us = Ends (One_asks x) ∷ []

    abbrev ts : List Task
    ts = Dispatched (Asks asked_owned_object) ∷ []

    at_rest : (q : Place) → Represents (value_in (Ends e.dispatch ∷ []) m.cells m.entries.items (others m) q)
        (word_at (Dispatched (dispatch_of e.place e.dispatch) ∷ []) q) (held s.cells q)
    at_rest q = grind (arith, nat_tests, held s.cells q)

    base : (q : Place) → Represents (value_in (Runs_frame f ∷ us) m.cells m.entries.items (others m) q) (word_at (Run fr ∷ ts) q) (held s.cells q)
    base q = grind (
      arith,
      nat_tests,
      held s.cells q,
      fresh_value k x.number,
      end_value (One_asks x) e.dispatch m.cells m.entries.items,
      fresh_word k,
      end_word,
      at_rest q,
    )

    error_runs : FitsSigned w32 code → Agrees p (with_tasks (Runs_frame (with_register 0 (cast_unsigned w32 code) f) ∷ us) m)
        (record (at_close s) { tasks = Run (error_frame k asked_owned_object code (length s.items)) ∷ ts })
    error_runs fits =
        let n = cast_unsigned w32 code in
        let here = Register 1 0 in
        agrees_with p m (at_close s) (Runs_frame (with_register 0 n f) ∷ us) (Run (error_frame k asked_owned_object code (length s.items)) ∷ ts)
        (aside_counted p m s m.rest (at_close s).rest (aside_of p m s agrees) (same_counts (λ r. r))) (
          reframed f fr (slice_set f.registers 0 n) (Some code ∷ []) 0 0 (begun_frame k x.number receiver (length s.items) refl
              (λ there. object_small p m s formed agrees (subject_of x) is_owned_chain refl)) (length-set f.registers 0 n ∙ length-replicate 16 null) refl,
          ((e.place, refl), tt),
        )
        (writes _ _ _ _ (held s.cells) _ here n (Some code) None base (to_z-of_z w32 code fits)
        (value_written f us m.cells m.entries.items (others m) 1 0 n 0 refl (let wide = length-replicate 16 null in omega arith))
        (word_written fr ts 0 0 (Some code)) (λ q. kept (held s.cells) here q ∙ ap (λ o. changed (held s.cells) here o q) (shut.registers 1 0)))

  asking_alike : (method : Option ℕ) (x : Subject) (code : ℤ) → named s.cells x.number ≡ Some (subject_of x) →
      FitsSigned w32 code → Agrees p (ends.asking p method x code m) (asking p method (owned_object_of e.place x) code (at_close s))
  asking_alike None x code is_owned_chain fits = answered_alike code
  asking_alike (Some k) x code is_owned_chain fits = grind (arith, nat_tests, error_runs x is_owned_chain code k fits)

module _ (p : Image) (m : Parts) (reported : LineBuffer) (announced : m.rest.announced ≡ true) where
  -- the end of a dispatch writes nothing
  by_end : (new : Parts) (x : Machine_dispatch) → IsPlain x → ending_here m.stack.tasks ≡ Some x → ((t : Typing) (s : State) → WellFormed p →
      WellTyped p t s → Agrees p m s → (e : AtEnd m s) → Agrees p new (dispatch_ends p (dispatch_of e.place x) (at_close s))) → Moves p m reported reported new
  by_end new x plain ending ends t s sound typed kept agrees =
      let e = at_end p t m s typed agrees (ending_of m.stack.tasks ending) in
      let c = an_open p reported.refused m s agrees in
      let after = dispatch_ends p (dispatch_of e.place e.dispatch) (at_close s) in
      let is = step_of_end p c.0 s (dispatch_of e.place e.dispatch) e.state
      ∙ ap (λ ns. guarded ns after) (needs_none e.place e.dispatch s.cells (subst IsPlain (sym (which m s e x ending)) plain)) in (
        grind (arith, nat_tests, moved_so p m new reported.refused t s after sound typed c is, which m s e x ending),
        ap (λ ls. record reported { lines = ls }) (sym (ap (λ us. reported.lines ++ written_task p s us) e.state
            ∙ ap (λ ls. reported.lines ++ ls) (reports_none e.place e.dispatch s.cells (subst IsPlain (sym (which m s e x ending)) plain)) ∙ append-nil reported.lines)),
      )

  pub main_moves : ending_here m.stack.tasks ≡ Some Main → Moves p m reported reported (ended_dispatch p m)
  main_moves is = by_end _ Main tt is (λ t s formed typed agrees e. ends_alike p formed m announced t s typed agrees e m.rest
      (now p formed m announced t s typed agrees e) (same_counts p formed m announced t s typed agrees e (λ r. r)))

  pub over_moves : ending_here m.stack.tasks ≡ Some End_of_run →
      Moves p m reported reported (record m { stack = record m.stack { tasks = below_first m.stack.tasks }; rest = over_counts m.rest })
  over_moves is = by_end _ End_of_run tt is (λ t s formed typed agrees e. left_alone p formed m announced t s typed agrees e
      (over_counts m.rest) _ (same_counts p formed m announced t s typed agrees e over_counts))

  pub left_moves : (code : ℤ) → ending_here m.stack.tasks ≡ Some (MainLeft code) →
      Moves p m reported reported (record m { stack = record m.stack { tasks = below_first m.stack.tasks }; rest = left_counts code m.rest })
  left_moves code is = by_end _ (MainLeft code) tt is (λ t s formed typed agrees e. left_alone p formed m announced t s typed agrees e
      (left_counts code m.rest) _ (same_counts p formed m announced t s typed agrees e (left_counts code)))

  pub object_moves : (x : Subject) → ending_here m.stack.tasks ≡ Some (Of_one x) → Moves p m reported reported (ended_dispatch p (ends.handled m))
  object_moves x is = by_end _ (Of_one x) tt is (λ t s formed. object_alike p formed m announced t s)

  pub asks_moves : (x : Subject) → ending_here m.stack.tasks ≡ Some (One_asks x) → Moves p m reported reported (ended_dispatch p (ends.handled m))
  asks_moves x is = by_end _ (One_asks x) tt is (λ t s formed. object_alike p formed m announced t s)

  pub object_left_moves : (x : Subject) (code : ℤ) → FitsSigned w32 code → ending_here m.stack.tasks ≡ Some (One_left x code) →
      Moves p m reported reported (ends.asking p (role_of p x.class Answers) x code m)
  object_left_moves x code fits is = by_end _ (One_left x code) tt is (λ t s formed typed agrees e.
      let at : s.tasks ≡ Dispatched (Object_left (owned_object_of e.place x) code) ∷ [] =
      e.state ∙ ap (λ y. Dispatched (dispatch_of e.place y) ∷ []) (which m s e (One_left x code) is) in
      asking_alike p formed m announced t s typed agrees e (role_of p x.class Answers) x code
      (owned_object_lives p t s typed (Object_left (owned_object_of e.place x) code) (owned_object_of e.place x) at refl) fits)

  pub answered_moves : (x : Subject) (answer : ℤ) → ending_here m.stack.tasks ≡ Some (One_answered x answer) → Moves p m reported reported (ended_answered p answer m)
  answered_moves x answer is = by_end _ (One_answered x answer) tt is (λ t s formed typed agrees e. answered_alike p formed m announced t s typed agrees e answer)
