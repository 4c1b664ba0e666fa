-- A destructor returns to the going of its cell: the next of the line begins, if there is one.
use Rattle.std.proofs.lemmas.Bool.Decides.{nat_tests}
use Rattle.std.proofs.Common.{IsSome, List, None, Some, ap, arith, cond, length, subst, sym, true, ℕ, ◌<◌, ◌∙◌, ◌∷◌, ◌≡◌}
use Rattle.std.specs.Prelude.{is_some}
use Rattle.std.proofs.lemmas.Bool.{eq-eqb}
use Rattle.aom_machine_instructions.proofs.ImageLemmas.{some_given}
use Rattle.aom_image.specs.Image.{Image}
use Rattle.aom_image.specs.Views.{class_in, gives_of, method_at, method_class}
use Rattle.aom_image.specs.declared.method.Gives.TheVariants.{Nothing}
use Rattle.aom_image.specs.declared.method.Role.TheVariants.{Destruct}
use Rattle.aom_instructions.specs.Table.{transfer_of}
use Rattle.aom_instructions.specs.declared.instr.Instr.{Instr}
use Rattle.aom_instructions.specs.declared.transfer.Transfer.TheVariants as transfer
use Rattle.aom_roles.specs.Families.{parent_above}
use Rattle.aom_active_objects.specs.Agrees.{Active}
use Rattle.aom_machine_instructions.proofs.InheritanceLemmas.{families_inherit}
use Rattle.aom_frames.specs.Tasks.{below_first, method_here}
use Rattle.aom_frames.specs.declared.frame.Frame.{Frame as Machine_frame}
use Rattle.aom_frames.specs.declared.task.Task.{Task as Machine_task}
use Rattle.aom_frames.specs.declared.task.Task.TheVariants.{Destroy as Destroys, Run as Runs_frame}
use Rattle.aom_machine_instructions.proofs.SafetyLemmas.{all_parts, ended_alike, going_layer, method_layer}
use Rattle.aom_semantics.specs.Calls.{none_owns_but, result_needs, result_source, returned}
use Rattle.aom_safety.specs.Claims.{Method}
use Rattle.aom_semantics.specs.Destruction.{class_destructor, line_on, next_destructor}
use Rattle.aom_semantics.specs.Requests.{ended_cells}
use Rattle.aom_semantics.specs.Places.{Going, Object, Place, Register, held}
use Rattle.aom_semantics.specs.State.{Destroy, Inside, Run, State, Task}
use Rattle.aom_safety.specs.WellTyped.{Good}
use Rattle.aom_machine_instructions.proofs.MachineStateLemmas.{A_going, Alike, TopMatches, alike, both_go, going_on_top, top_matches}
use Rattle.aom_machine_state.specs.Agrees.{Agrees, SameTasks, Represents, number, word_at}
use Rattle.aom_machine_state.specs.Places.{IsDestroying, going_here, going_in, others, value_in, with_tasks}
use Rattle.aom_machine_state.specs.declared.parts.Parts.{Parts}
use Rattle.aom_machine_instructions.specs.Acts.{CurrentFrame, DoesIn}
use Rattle.aom_machine_instructions.specs.Going.{destructed}
use Rattle.aom_machine_instructions.specs.Requests.{IsOver}
use Rattle.aom_machine_instructions.proofs.CancelEnds.{ended_agrees}
use Rattle.aom_machine_instructions.proofs.GoingActs.{destructs}
use Rattle.aom_machine_instructions.proofs.LeavingActs.{none_owned}
use Rattle.aom_machine_instructions.proofs.ReturnActs.{return_does, to_waiting}
use Rattle.aom_machine_instructions.proofs.Running.{Top, aside_of, by_top}

-- what follows in a line is of a class
next_class : (p : Image) (k m : ℕ) → next_destructor p m ≡ Some k → (c : ℕ) × (method_class p k ≡ Some c)
unfolding class_in
next_class p k m e = some_given (λ q. class_destructor p q ≡ Some k) (parent_above p m) e (λ none. cc) (λ c at role.
    let w = families_inherit.roles p c k Destruct role in (w.class, ap class_in w.there ∙ w.of))

-- and is a method
pub next_there : (p : Image) (k m : ℕ) → next_destructor p m ≡ Some k → IsSome (method_at p k)
next_there p k m e = some_given (λ q. class_destructor p q ≡ Some k) (parent_above p m) e (λ none. cc)
    (λ c at role. ap is_some (families_inherit.roles p c k Destruct role).there)

module _ (p : Image) (m : Parts) (refused : List ℕ) (i : Instr) (a : ℕ) (is_return : transfer_of i ≡ transfer.Return a) (act : Active)
    (is_over : IsOver p m act) where
  abbrev mid : Parts
  mid = record m { active = act }

  abbrev past : CurrentFrame p m → State
  past h = record h.state { cells = ended_cells p h.frame h.state.cells }

  abbrev after : (h : CurrentFrame p m) → List Task → State
  after h ts = returned p h.frame ts (past h) (gives_of p h.frame.method) a ts

  still : (h : CurrentFrame p m) (q : Place) → held (past h).cells q ≡ held h.state.cells q
  still h q = (ended_alike p h.frame h.state.cells).held_so q

  -- over a cell that goes stands a destructor of its line, which works on it and gives nothing
  line_here : (h : CurrentFrame p m) (ts : List Task) → h.state.tasks ≡ Run h.frame ∷ Destroy ∷ ts →
      (o : Object) × (held h.state.cells (Going (length ts)) ≡ Some o) × (h.frame.receiver ≡ Inside o (Going (length ts))) × (gives_of p h.frame.method ≡ Nothing)
  line_here h ts at = method_layer (λ ls. Good p h.typing h.state.cells ls) h.frame (Destroy ∷ ts) h.typed.layers (sym h.typed.tasks ∙ at) h.typed.good
      (λ sh ls under good. going_layer (λ ls. Good p h.typing h.state.cells (Method h.frame sh ∷ ls)) ts ls under good (λ o below rest good.
      let d = good.stack.4 in
      (o, subst (λ us. held h.state.cells (Going (length us)) ≡ Some o) rest d.0.1, subst (λ us. h.frame.receiver ≡ Inside o (Going (length us))) rest d.1.1, d.1.3)))

  goes_up : (h : CurrentFrame p m) (f : Machine_frame) (x : ℕ) (us : List Machine_task) (ts : List Task) → x < 4096 → SameTasks us ts → h.state.tasks ≡ Run
      h.frame ∷ Destroy ∷ ts → Top mid (past h) h.frame (Destroy ∷ ts) f (Destroys x ∷ us) → none_owns_but h.state.cells (length (Destroy ∷ ts)) (result_source
      (gives_of p h.frame.method) a) ≡ true → Agrees p (with_tasks (destructed p (next_destructor p f.method) x (Destroys x ∷ us)) mid) (after h (Destroy ∷ ts))
  goes_up h f x us ts small same at top free =
      let line = line_here h ts at in
      let agree = ended_agrees p m h act is_over in
      let alone : (i : ℕ) → held (past h).cells (Register (length (Destroy ∷ ts)) i) ≡ None = grind (arith, nat_tests, still h, none_owned h.state.cells) in
      let waits = to_waiting p mid h.typing (past h) h.frame agree f a (Destroys x ∷ us) (Destroy ∷ ts) top alone in
      let deep : length us ≡ length ts = omega (arith, top.deep) in
      let there : value_in (Destroys x ∷ us) m.cells m.entries.items (others m) (Going (length ts)) ≡ x =
      ap (λ b. cond b x (going_in us (length ts))) (eq-eqb (length us) (length ts) deep) in
      let name : x ≡ line.0.name = sym there ∙ waits.values (Going (length ts)) ∙ ap number (still h (Going (length ts)) ∙ line.1) in
      let pushed = destructs p mid (past h) us ts x (next_destructor p h.frame.method) line.0 h.frame.height
      (λ k e. next_class p k h.frame.method e) name small same (aside_of p mid (past h) agree) waits.values in
      subst (λ k. Agrees p (with_tasks (destructed p (next_destructor p k) x (Destroys x ∷ us)) mid) (after h (Destroy ∷ ts))) (sym top.frame.method)
      (subst (λ receiver. Agrees p (with_tasks (destructed p (next_destructor p h.frame.method) x (Destroys x ∷ us)) mid)
      (record (past h) { tasks = line_on p h.frame.method receiver h.frame.height ts })) (sym line.2) pushed)

  abbrev pub goes : List Machine_task → Parts
  goes us = with_tasks (destructed p (next_destructor p (method_here us)) (going_here (below_first us)) (below_first us)) mid

  pub return_to_going : IsDestroying (below_first m.stack.tasks) → DoesIn p refused i m (goes m.stack.tasks)
  return_to_going going = return_does p m (goes m.stack.tasks) refused i a is_return (λ h needs typed.
      let met = all_parts (result_needs p h.frame h.below h.state (gives_of p h.frame.method) a) _ needs in
      by_top p m h (λ us. IsDestroying (below_first us) → Agrees p (goes us) (after h h.below))
      (λ f ms top has. go h f ms h.below h.top (top_over h h.below f ms top) (top_matches A_going ms has) (alike ms h.below top.below) met.1.1.0) going)
    where
      top_over : (h : CurrentFrame p m) (ts : List Task) (f : Machine_frame) (ms : List Machine_task) → Top m h.state h.frame ts f ms → Top mid (past h) h.frame ts f ms
      top_over h ts f ms top = record {
        frame = top.frame;
        below = top.below;
        deep = top.deep;
        values = λ r. subst (Represents (value_in (Runs_frame f ∷ ms) m.cells m.entries.items (others m) r) (word_at (Run h.frame ∷ ts) r))
            (sym (still h r)) (top.values r);
      }

      go : (h : CurrentFrame p m) (f : Machine_frame) (ms : List Machine_task) (ts : List Task) →
          h.state.tasks ≡ Run h.frame ∷ ts → Top mid (past h) h.frame ts f ms → TopMatches A_going ms → Alike ms ts →
          none_owns_but h.state.cells (length ts) (result_source (gives_of p h.frame.method) a) ≡ true → Agrees p (goes (Runs_frame f ∷ ms)) (after h ts)
      go h f _ _ at top (going_on_top x us) (both_go _ _ ts small same _) free = goes_up h f x us ts small same at top free
