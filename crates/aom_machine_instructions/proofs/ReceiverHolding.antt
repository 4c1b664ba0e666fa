-- The cell of the method that runs lives; the needs of the instruction that is next are met; and where it reads or writes words of its method there is a cell.
use Rattle.std.proofs.lemmas.Bool.Decides.{nat_tests}
use Rattle.std.proofs.Common.{arith, List, ◌≡◌, ℕ, true, [], Some, subst}
use Rattle.std.specs.Prelude.{nat_lt}
use Rattle.aom_image.specs.Image.{Image}
use Rattle.aom_image.specs.Views.{instr_at}
use Rattle.aom_instructions.specs.Table.{action_of, transfer_of}
use Rattle.aom_instructions.specs.declared.action.Action.TheVariants as action
use Rattle.aom_instructions.specs.declared.instr.Instr.{Instr}
use Rattle.aom_instructions.specs.declared.transfer.Transfer.TheVariants as transfer
use Rattle.aom_roles.specs.Tests.{AllTrue}
use Rattle.aom_roles.specs.Things.{holder_of, word_count}
use Rattle.aom_cells.specs.Heap.{Lives}
use Rattle.aom_semantics.specs.Calls.{needs_return}
use Rattle.aom_semantics.specs.State.{Choice, Frame, State, Task}
use Rattle.aom_semantics.specs.Moves.{needs}
use Rattle.aom_semantics.specs.Objects.{needs_delete}
use Rattle.aom_safety.specs.WellTyped.{PreservesTyping}
use Rattle.aom_frames.specs.Tasks.{TopFrameIs}
use Rattle.aom_machine_state.specs.declared.parts.Parts.{Parts}
use Rattle.aom_machine_instructions.specs.Acts.{CurrentFrame, requested}
use Rattle.aom_machine_state.specs.Fields.{this, ThisLives}
use Rattle.aom_machine_instructions.specs.Next.{IsNext, counting}
use Rattle.aom_machine_state.specs.Stands.{Stands}
use Rattle.aom_machine_instructions.proofs.InstructionsLemmas.{delete_is, return_is}
use Rattle.aom_machine_instructions.proofs.Running.{an_open}
use Rattle.aom_machine_instructions.proofs.Stepping.{met, frame_of, at_step, step_of_instr}
use Rattle.aom_machine_instructions.proofs.FieldActs.{is_receiver_held, has_cell}

module _ (p : Image) (m : Parts) (st : Stands (record { image = p; parts = m })) (runs : TopFrameIs m.stack.tasks) where
  unfoldable pub has_task : CurrentFrame p m
  has_task =
      let f = frame_of m.stack.tasks st.0.tasks runs st.1.agrees.tasks in
      record {
        typing = st.1.typing;
        state = st.0;
        frame = f.0;
        below = f.1;
        top = f.2;
        formed = st.1.sound.formed;
        linked = st.1.sound.linked;
        wired = st.1.sound.wired;
        typed = st.1.typed;
        kept = st.1.kept;
        agrees = st.1.agrees;
      }

  pub finds_receiver : ThisLives m
  finds_receiver = is_receiver_held p m has_task

module _ (p : Image) (m : Parts) where
  -- the needs of the instruction that is next are met
  pub needs_met : (i : Instr) (next : IsNext p i m) →
      (c : Choice) × (let h = has_task p (counting next.counts m) next.stands next.runs in AllTrue (needs p c h.frame h.below (requested i (at_step h.state)) i))
  unfolding has_task
  needs_met i next =
      let st = next.stands in
      let f = frame_of m.stack.tasks st.0.tasks next.runs st.1.agrees.tasks in
      let e : instr_at p f.0.method f.0.place ≡ Some i = grind (arith, nat_tests) in
      let c = an_open p [] (counting next.counts m) st.0 st.1.agrees in
      let k = met p st.1.typing _ _ (subst (PreservesTyping p st.1.typing) (step_of_instr p c.0 st.0 f.0 f.1 i f.2 e) (st.1.sound.keeps c.0 st.0 st.1.typed c.1.name)) in (
        c.0,
        k.0,
      )

  -- those of one that returns
  pub return_needs : (i : Instr) (a : ℕ) (next : IsNext p i m) → transfer_of i ≡ transfer.Return a →
      (let h = has_task p (counting next.counts m) next.stands next.runs in AllTrue (needs_return p h.frame h.below (requested i (at_step h.state)) a))
  return_needs i a next is =
      let h = has_task p (counting next.counts m) next.stands next.runs in
      let n = needs_met i next in
      subst (λ j. AllTrue (needs p n.0 h.frame h.below (requested i (at_step h.state)) j)) (return_is i a is) n.1

  -- those of one that destroys
  pub destroy_needs : (i : Instr) (a : ℕ) (next : IsNext p i m) → action_of i ≡ action.Destroy a → (c : Choice) ×
      (let h = has_task p (counting next.counts m) next.stands next.runs in AllTrue (needs_delete p c h.frame h.below (requested i (at_step h.state)) a))
  destroy_needs i a next is =
      let h = has_task p (counting next.counts m) next.stands next.runs in
      let n = needs_met i next in
      (n.0, subst (λ j. AllTrue (needs p n.0 h.frame h.below (requested i (at_step h.state)) j)) (delete_is i a is) n.1)

  -- so is what they say
  pub needs_say : (i : Instr) (Q : Type 0) → ((c : Choice) (fr : Frame) (ts : List Task) (s : State) → AllTrue (needs p c fr ts s i) → Q) → IsNext p i m → Q
  needs_say i Q says next =
      let h = has_task p (counting next.counts m) next.stands next.runs in
      let n = needs_met i next in
      says n.0 h.frame h.below (requested i (at_step h.state)) n.1

  -- an instruction that needs a word of its method's cell finds the cell
  pub finds_words : (i : Instr) (w : ℕ) → IsNext p i m →
      ((c : Choice) (fr : Frame) (ts : List Task) (s : State) → AllTrue (needs p c fr ts s i) → nat_lt w (word_count p (holder_of p fr.method)) ≡ true) →
      Lives m.cells (this m)
  finds_words i w next says =
      let h = has_task p (counting next.counts m) next.stands next.runs in
      let n = needs_met i next in
      next.receiver_held (has_cell p (counting next.counts m) h w (says n.0 h.frame h.below (requested i (at_step h.state)) n.1))
