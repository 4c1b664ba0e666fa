-- The laws of a call and of a trap: what is asked of them holds, and the method that begins and the one that waits for it are well typed.
use Rattle.std.proofs.lemmas.Bool.Decides.{nat_tests}
use Rattle.std.proofs.Common.{[], IsTrue, List, None, Option, Some, ap, arith, false, inl, length, refl, subst, suc, sym, true, ℕ, ◌<◌, ◌∙◌, ◌∷◌, ◌≡◌}
use Rattle.aom_image.specs.Image.{Image}
use Rattle.aom_image.specs.Views.{action_in, arguments_of, gives_of, has, instr_at, is_quiet, method_class, method_role}
use Rattle.aom_instructions.specs.declared.instr.Instr.TheVariants.{Call, Trap}
use Rattle.aom_instructions.specs.declared.instr.Target.{Target}
use Rattle.aom_image.specs.declared.method.Gives.{Gives}
use Rattle.aom_typing_rules.specs.Calls.{caught, each_argument, rule_target, while_called}
use Rattle.aom_typing_rules.specs.Requests.{resting, unissued}
use Rattle.aom_abstract_state.specs.Arguments.{after_of, arguments_moved}
use Rattle.aom_abstract_state.specs.Kinds.{is_unowning, register}
use Rattle.aom_abstract_state.specs.AbstractState.{AbstractState}
use Rattle.aom_typing_rules.specs.Typing.{IsTyped, Leads, Typing}
use Rattle.aom_safety.proofs.Claimed.{mark_claims}
use Rattle.aom_safety.proofs.Finishing.{all_join, all_parts, none_owns_at}
use Rattle.aom_safety.proofs.Items.{length_forms}
use Rattle.aom_safety.proofs.Passing.{all_passed, each_met, none_passed}
use Rattle.aom_safety.proofs.Straight.{At, Law}
use Rattle.aom_semantics.specs.Calls.{called, given_cells, needs_each, needs_result, needs_target, over_trap, result_register, run_by, target_receiver, target_view}
use Rattle.aom_safety.specs.Claims.{Layer, Mark, Mark_form, Method, tasks_of}
use Rattle.aom_safety.specs.Laws.{IsCalled, IsWired}
use Rattle.aom_semantics.specs.Moves.{does}
use Rattle.aom_semantics.specs.Places.{Cell, Object, Place}
use Rattle.aom_semantics.specs.State.{Choice, Frame, Receiver, Inside, State, receiver_holder}
use Rattle.aom_safety.specs.WellTyped.{Awaits, Caught, EndsWell, IsApart, ReceiverIsHeld, Returns, Stands}
use Rattle.aom_safety.proofs.Callees.{only_then}
use Rattle.aom_safety.specs.Requests.{rests_in, thing_kind, works_at}
use Rattle.aom_roles.specs.Shapes.{kind_of}
use Rattle.aom_safety.proofs.AbstractStateLemmas.{has_itself}
use Rattle.aom_safety.proofs.Calling.{answer, awaited, caller, cancels_not, enter, kind_begun, result_free, result_met, same_high}
use Rattle.aom_safety.proofs.Leaving.{here_is}
use Rattle.aom_safety.proofs.Overriders.{runs_for}
use Rattle.aom_instructions.specs.declared.instr.Instr.{Instr}
use Rattle.aom_roles.specs.Roles.{is_cancel, is_construct}
use Rattle.aom_safety.proofs.TypingRulesLemmas.{none_from}

-- what the caller finds its own object in is no issued request, where neither before nor at the end there is one
called_unissued : (target : Target) (class : Option ℕ) (ended : ℕ) (sh : AbstractState) → unissued sh.states ≡ true → unissued ended ≡ true →
    unissued (while_called target class ended sh).states ≡ true
called_unissued x class ended sh u e = grind arith

-- under a trap it rests
rests_under : (p : Image) (m : ℕ) (fr : Frame) (sh : AbstractState) (receiver : Receiver) → ((o : Object) (from : Place) → receiver ≡ Inside o from → thing_kind p o.thing
    ≡ kind_of p (method_class p m)) → ((o : Object) (from : Place) → receiver ≡ Inside o from → works_at o.name fr.receiver ≡ true → sh.states ≡ resting p
    (method_class p m)) → (o : Object) (from : Place) → receiver ≡ Inside o from → works_at o.name fr.receiver ≡ true → IsTrue (has sh.states (rests_in p o))
rests_under p m fr sh receiver kind settles o from e w = grind (arith, nat_tests, has_itself sh.states)

-- the caller finds its object in a state in which what ran may leave it
ends_well : (p : Image) (m k : ℕ) (fr : Frame) (sh : AbstractState) (receiver : Receiver) → is_cancel (method_role p k) ≡ false → IsTrue (has (after_of p m) (after_of p k)) →
    ((o : Object) (from : Place) → receiver ≡ Inside o from → works_at o.name fr.receiver ≡ true → sh.states ≡ after_of p m) → EndsWell p k receiver fr sh
ends_well p m k fr sh x plain after e = grind arith

module _ (p : Image) (t : Typing) (wired : IsWired p) (typed : IsTyped p t) (c : Choice) (s : State) (fr : Frame) (sh : AbstractState) (ls : List Layer)
    (has_task : At p t s fr sh ls) where
  pub law_call : (target : Target) (m first x : ℕ) → instr_at p fr.method fr.place ≡ Some (Call target m first x) →
      Law p t c s fr sh ls has_task (Call target m first x)
  law_call target m first x here n leads =
      let ended = after_of p m in
      let called_so = wired.called fr.method fr.place target m first x (ap action_in here) in
      let parts = all_parts (rule_target p fr.method sh target m (method_class p m) (is_construct (method_role p m)) first (length (arguments_of p m))) _ n in
      let more = all_parts (each_argument p sh (arguments_of p m) first) _ parts.1.1 in
      let deep : length (tasks_of ls) < suc (length (tasks_of ls)) = omega arith in
      let passed = all_passed p t fr ls depth deep s (arguments_of p m) first 0 s.cells sh [] [] refl more.0
      (none_passed p t fr ls depth deep s.cells sh has_task.good) in
      let answered = answer p t wired typed c s fr sh ls has_task m first depth height deep called_so passed ended target parts.0 more.1.0 in
      let a = answered.0 in
      let view = target_view p fr (tasks_of ls) s target (method_class p m) in
      let k = run_by p fr (tasks_of ls) s target m in
      let sh' = while_called target (method_class p m) ended (arguments_moved (arguments_of p m) first sh) in
      let at_x : result_register (instr_at p fr.method fr.place) ≡ x = ap result_register here in
      let receiver = target_receiver p fr (tasks_of ls) s target (method_class p m) in
      let runs = runs_for p wired m view (receiver_holder receiver) called_so a.1.holder answered.1 in
      let stands : Stands p t (Returns k receiver) fr sh' = (
        grind (arith, nat_tests, only_then, none_from sh'.registers, none_owns_at, called_unissued target, here_is),
        rw runs.gives
            (rw at_x (awaited p t wired typed c s fr sh ls has_task m first depth height deep called_so passed (gives_of p m) x sh' a.1.owning more.1.1.1.0)),
        grind (arith, nat_tests),
        grind (arith, nat_tests, ends_well, cancels_not),
        λ q. runs.quiet (only_then (is_quiet p fr.method) (is_quiet p m) more.1.1.0 q),
      ) in
      let high = same_high p t wired typed c s fr sh ls has_task m first depth height deep called_so passed receiver sh' a.1 in (
        all_join (needs_target p fr (tasks_of ls) s target m (method_class p m) first (length (arguments_of p m))) _ a.0 (
          parts.1.0,
          all_join _ _ (each_met p t c s fr sh ls has_task (arguments_of p m) first more.0)
              (result_met p t wired typed c s fr sh ls has_task m first depth height deep called_so passed (gives_of p m) x more.1.1.1.0),
        ),
        enter p t wired typed c s fr sh ls has_task m first depth height deep called_so passed receiver sh'
            (Method fr sh' ∷ ls) k view runs (λ x. x) a.1 refl (ap length (sym high) ∙ length_forms s.items) (λ d r. refl) (λ o. refl) a.1.receiver_held
            (a.1.apart k) (caller p t wired typed c s fr sh ls has_task m first depth height deep called_so passed receiver sh' (Returns k receiver) a.1 stands)
            (does p c fr (tasks_of ls) s (Call target m first x)) refl refl high has_task.undo_operations,
      )
    where
      depth : ℕ
      depth = suc (length (tasks_of ls))

      height : ℕ
      height = length s.items

-- over a trap's mark
receiver_held_mark : (p : Image) (cs : List Cell) (receiver : Receiver) (gv : Gives) (ls : List Layer) → ReceiverIsHeld p cs ls receiver → ReceiverIsHeld p cs (Mark gv ∷ ls) receiver
receiver_held_mark p _ x gv ls h = grind (arith, nat_tests, mark_claims p)

apart_mark : (p : Image) (view : Option ℕ) (k : ℕ) (receiver : Receiver) (gv : Gives) (fr : Frame) (sh : AbstractState) (ls : List Layer) → IsApart p view k receiver
    (Method fr sh ∷ ls) → ((o : Object) (from : Place) → receiver ≡ Inside o from → works_at o.name fr.receiver ≡ true → IsTrue (has sh.states (rests_in p o))) →
    IsApart p view k receiver (Mark gv ∷ Method fr sh ∷ ls)
apart_mark p view k x gv fr sh ls a r = grind arith

module _ (p : Image) (t : Typing) (wired : IsWired p) (typed : IsTyped p t) (c : Choice) (s : State) (fr : Frame) (sh : AbstractState) (ls : List Layer)
    (has_task : At p t s fr sh ls) where
  pub law_trap : (target : Target) (m first x : ℕ) → instr_at p fr.method fr.place ≡ Some (Trap target m first x) →
      Law p t c s fr sh ls has_task (Trap target m first x)
  law_trap target m first x here n leads =
      let ended = resting p (method_class p m) in
      let trapped = wired.trapped fr.method fr.place target m first x (ap action_in here) in
      let called_so : IsCalled p m = record { there = trapped.there; role = inl trapped.role; ends = trapped.ends; begins = grind (arith, nat_tests) } in
      let parts = all_parts (rule_target p fr.method sh target m (method_class p m) (is_construct (method_role p m)) first (length (arguments_of p m))) _ n.1 in
      let more = all_parts (each_argument p sh (arguments_of p m) first) _ parts.1.1 in
      let deep : length (tasks_of ls) < suc (suc (length (tasks_of ls))) = omega arith in
      let passed = all_passed p t fr ls depth deep s (arguments_of p m) first 0 s.cells sh [] [] refl more.0
      (none_passed p t fr ls depth deep s.cells sh has_task.good) in
      let answered = answer p t wired typed c s fr sh ls has_task m first depth height deep called_so passed ended target parts.0 more.1.0 in
      let a = answered.0 in
      let view = target_view p fr (tasks_of ls) s target (method_class p m) in
      let k = run_by p fr (tasks_of ls) s target m in
      let sh' = while_called target (method_class p m) ended (arguments_moved (arguments_of p m) first sh) in
      let gv = gives_of p m in
      let at_x : result_register (instr_at p fr.method fr.place) ≡ x = ap result_register here in
      let receiver = target_receiver p fr (tasks_of ls) s target (method_class p m) in
      let runs = runs_for p wired m view (receiver_holder receiver) called_so a.1.holder answered.1 in
      let over = Mark gv ∷ Method fr sh' ∷ ls in
      let stands : Stands p t (Caught gv) fr sh' = (
        ap (λ i. called p i) here,
        subst (λ y. is_unowning (register sh' (suc y)) ≡ true) (sym at_x) (a.1.owning (suc x) ∙ more.1.1.1.0),
        subst (λ y. Awaits gv y sh') (sym at_x)
            (awaited p t wired typed c s fr sh ls has_task m first depth height deep called_so passed gv x sh' a.1.owning more.1.1.0),
        subst (λ y. Leads t fr.method (suc fr.place) (caught gv y sh')) (sym at_x) leads.0,
        grind arith,
      ) in
      let high = same_high p t wired typed c s fr sh ls has_task m first depth height deep called_so passed receiver sh' a.1 in
      let below = caller p t wired typed c s fr sh ls has_task m first depth height deep called_so passed receiver sh' (Caught gv) a.1 stands in
      let free = result_free p t wired typed c s fr sh ls has_task m first depth height deep called_so passed (suc x) more.1.1.1.0 in (
        all_join (needs_target p fr (tasks_of ls) s target m (method_class p m) first (length (arguments_of p m))) _ a.0 (
          parts.1.0,
          all_join (needs_each p fr (tasks_of ls) s (arguments_of p m) first) _ (each_met p t c s fr sh ls has_task (arguments_of p m) first more.0)
              (all_join (needs_result p fr (tasks_of ls) s gv (given_cells p fr (tasks_of ls) s (over_trap p fr (tasks_of ls) s) m first) x) _
              (result_met p t wired typed c s fr sh ls has_task m first depth height deep called_so passed gv x more.1.1.0) (free, tt)),
        ),
        enter p t wired typed c s fr sh ls has_task m first depth height deep called_so passed receiver sh' over k view runs
            (λ x. x) a.1 refl (ap suc (ap length (sym high) ∙ length_forms s.items)) (λ d r. mark_claims p d gv (Method fr sh' ∷ ls) r) (λ o. refl)
            (receiver_held_mark p (given_cells p fr (tasks_of ls) s (over_trap p fr (tasks_of ls) s) m first) receiver gv (Method fr sh' ∷ ls) a.1.receiver_held)
            (apart_mark p view k receiver gv fr sh' ls (a.1.apart k) (rests_under p m fr sh' receiver (grind (arith, nat_tests, kind_begun)) a.1.settles))
            (grind (arith, nat_tests), below) (does p c fr (tasks_of ls) s (Trap target m first x)) refl refl (ap (λ fs. Mark_form ∷ fs) high) has_task.undo_operations,
      )
    where
      depth : ℕ
      depth = suc (suc (length (tasks_of ls)))

      height : ℕ
      height = suc (length s.items)

  -- each instruction of this file by its law
  abbrev pub of_calls : (i : Instr) → instr_at p fr.method fr.place ≡ Some i → Option (Law p t c s fr sh ls has_task i)
  of_calls (Call target m first x) here = Some (law_call p t wired typed c s fr sh ls has_task target m first x here)
  of_calls (Trap target m first x) here = Some (law_trap target m first x here)
  of_calls _ here = None
