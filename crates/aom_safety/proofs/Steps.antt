-- Every move from a well-typed state.
use Rattle.std.proofs.Common.{arith, List, None, Some, [], cond, refl, subst, sym, ℕ, ℤ, ◌∙◌, ◌∷◌, ◌≡◌, Option}
use Rattle.aom_image.specs.Image.{Image}
use Rattle.aom_image.specs.Views.{instr_at}
use Rattle.aom_instructions.specs.declared.instr.Instr.{Instr}
use Rattle.aom_instructions.specs.declared.instr.Instr.TheVariants.{Return, Stop}
use Rattle.aom_abstract_state.specs.AbstractState.{AbstractState}
use Rattle.aom_typing_rules.specs.Typing.{IsTyped, Typing}
use Rattle.aom_safety.proofs.Calls.{of_calls}
use Rattle.aom_safety.proofs.Creation.{of_creation}
use Rattle.aom_safety.proofs.Destroying.{of_destruction}
use Rattle.aom_safety.proofs.Destructors.{law_destructor}
use Rattle.aom_safety.proofs.Closing.{dispatch_keeps}
use Rattle.aom_safety.proofs.Entries.{of_entries}
use Rattle.aom_safety.proofs.Finishing.{ReturnLaw, returnable}
use Rattle.aom_safety.proofs.Going.{going_keeps}
use Rattle.aom_safety.proofs.Handing.{of_tokens}
use Rattle.aom_safety.proofs.Jumps.{of_jumps}
use Rattle.aom_safety.proofs.Words.{of_words}
use Rattle.aom_safety.proofs.Leaving.{of_leaves}
use Rattle.aom_safety.proofs.Messages.{of_messages}
use Rattle.aom_safety.proofs.Moves.{of_moves}
use Rattle.aom_safety.proofs.Requests.{main_of_none, of_requests}
use Rattle.aom_safety.proofs.Returning.{law_answer, law_return, law_return_caught, law_return_main, law_return_object, law_return_served, law_return_unwound}
use Rattle.aom_safety.proofs.Straight.{At, Law, fitted, settle, stepped, well}
use Rattle.aom_safety.proofs.Unwinding.{unwinds}
use Rattle.aom_safety.specs.Claims.{Dispatching, Dying, Layer, Mark, Method, Unwinding, forms, items_of, tasks_of}
use Rattle.aom_safety.specs.Laws.{IsWired}
use Rattle.aom_semantics.specs.Moves.{counted, does, needs, step, step_instr, step_task}
use Rattle.aom_semantics.specs.Places.{named}
use Rattle.aom_semantics.specs.State.{Closing, Of_server, Serves, Of_main, Of_object, Accepts, Asks, Choice, Destroy}
use Rattle.aom_semantics.specs.State.{Dispatch, Dispatched, Frame, IsStuck, Need, Run, State, Task, Trapped, Unwind, guarded, next}
use Rattle.aom_safety.specs.WellTyped.{Caught, Good, PreservesTyping, Now, Returns, WellTyped}
use Rattle.aom_safety.proofs.Layers.{closing_layer, dispatch_layer, going_layer, leave_layer, mark_layer, method_layer}
use Rattle.aom_safety.proofs.Cancelling.{of_cancel}
use Rattle.aom_safety.proofs.Serving.{of_natives}
use Rattle.aom_safety.proofs.Accepting.{law_return_accepted}
use Rattle.aom_safety.proofs.Emptying.{closing_keeps}
use Rattle.std.specs.Prelude.{IsSome}
use Rattle.aom_roles.specs.Tests.{AllTrue}

-- a state goes on where all needs are met
kept : (p : Image) (t : Typing) (needs : List Need) (s : State) → AllTrue needs → WellTyped p t s → PreservesTyping p t (guarded needs s)
kept p t [] s n w = w
kept p t (need ∷ needs) s n w = subst (λ b. PreservesTyping p t (cond b (guarded needs s) (IsStuck need.1))) (sym n.0) (kept p t needs s n.1 w)

module _ (p : Image) (t : Typing) (wired : IsWired p) (typed : IsTyped p t)
    (c : Choice) (s : State) (fr : Frame) (sh : AbstractState) (ls : List Layer) (has_task : At p t s fr sh ls) (unused : named s.cells c.name ≡ None) where
  law_stop : Law p t c s fr sh ls has_task Stop
  law_stop n leads = (
    tt,
    well p t c s fr sh ls has_task _ (next fr) sh refl has_task.items has_task.undo_operations
        (settle p t s.cells (next fr) sh ls (stepped p t s.cells fr sh ls (fitted p t s.cells fr sh ls has_task.good)) leads.0),
  )

  -- those of this file
  abbrev of_others : (i : Instr) → ((a : ℕ) → ReturnLaw p t s fr sh ls a) → Option (Law p t c s fr sh ls has_task i)
  of_others (Return a) back = Some (λ n leads. back a (returnable p fr sh a n))
  of_others Stop back = Some law_stop
  of_others _ back = None

  abbrev first : {A : Type 0} → List (Option A) → Option A
  first [] = None
  first (None ∷ laws) = first laws
  first (Some law ∷ laws) = Some law

  -- what each file of laws tells of an instruction
  abbrev laws : (i : Instr) → instr_at p fr.method fr.place ≡ Some i → ((a : ℕ) → ReturnLaw p t s fr sh ls a) →
      List (Option (Law p t c s fr sh ls has_task i))
  laws i here back = of_words p t c s fr sh ls has_task i ∷ of_jumps p t c s fr sh ls has_task i ∷ of_moves p t c s fr sh ls has_task i ∷ of_calls p t wired typed
      c s fr sh ls has_task i here ∷ of_entries p t c s fr sh ls has_task wired typed unused i here ∷ of_leaves p t wired c s fr sh ls has_task i ∷ of_requests p t
      (main_of_none p wired) c s fr sh ls has_task i ∷ of_natives p t (main_of_none p wired) c s fr sh ls has_task i ∷ of_messages p t c s fr sh ls has_task
      i ∷ of_tokens p t (main_of_none p wired) c s fr sh ls has_task unused i ∷ of_creation p t c s fr sh ls has_task unused i ∷ of_destruction p t c s fr sh ls
      has_task wired typed i ∷ of_cancel p t wired typed c s fr sh ls has_task i ∷ of_others i back ∷ []

  -- some file has its law
  some : (i : Instr) (here : instr_at p fr.method fr.place ≡ Some i) (back : (a : ℕ) → ReturnLaw p t s fr sh ls a) → IsSome (first (laws i here back))
  some (Return a) here back = refl
  some _ here back = refl

  -- each instruction by its law
  law : (i : Instr) → instr_at p fr.method fr.place ≡ Some i → ((a : ℕ) → ReturnLaw p t s fr sh ls a) → Law p t c s fr sh ls has_task i
  law i here back = go (first (laws i here back)) (some i here back)
    where
      go : (o : Option (Law p t c s fr sh ls has_task i)) → IsSome o → Law p t c s fr sh ls has_task i
      go o h = grind arith

-- a method returns to what stands below it
returns : (p : Image) (t : Typing) → IsWired p → IsTyped p t →
    (c : Choice) (s : State) (fr : Frame) (sh : AbstractState) (ls : List Layer) → At p t s fr sh ls → (a : ℕ) → ReturnLaw p t s fr sh ls a
returns p t wired typed c s fr sh [] h a = let clash : Returns fr.method fr.receiver ≡ Now = h.good.stack.4 in cc
returns p t wired typed c s fr sh (Method fr2 sh2 ∷ ls) h a = law_return p t wired c s fr fr2 sh sh2 ls h a
returns p t wired typed c s fr sh (Dying o ∷ ls) h a = law_destructor p t c s fr sh o ls h wired typed a
returns p t wired typed c s fr sh (Unwinding code es ∷ ls) h a = law_return_unwound p t c s fr sh code es ls h a
returns p t wired typed c s fr sh (Mark gv ∷ []) h a = let clash : Caught gv ≡ Now = h.good.stack.4.1 in cc
returns p t wired typed c s fr sh (Mark gv ∷ Method fr2 sh2 ∷ ls) h a = law_return_caught p t wired c s fr fr2 sh sh2 gv ls h a
returns p t wired typed c s fr sh (Mark gv ∷ Dispatching Of_main owned_chain ∷ ls) h a = law_return_main p t c s fr sh gv owned_chain ls h a
returns p t wired typed c s fr sh (Mark gv ∷ Dispatching (Of_object x) owned_chain ∷ ls) h a = law_return_object p t c s fr sh gv x owned_chain ls h a
returns p t wired typed c s fr sh (Mark gv ∷ Dispatching (Of_server x client (Serves o)) owned_chain ∷ ls) h a = law_return_served p t c s fr sh gv x client o owned_chain ls h a
returns p t wired typed c s fr sh (Dispatching (Asks x) owned_chain ∷ ls) h a = law_answer p t c s fr sh x owned_chain ls h a
returns p t wired typed c s fr sh (Mark gv ∷ Dispatching (Of_server x client Accepts) owned_chain ∷ ls) h a = law_return_accepted p t c s fr sh gv x client owned_chain ls h a
returns p t wired typed c s fr sh (Dispatching (Of_server x client stage) owned_chain ∷ ls) h a = absurd (grind arith)
returns p t wired typed c s fr sh _ h a = absurd (assumption tt)

-- an instruction of a well-typed state
pub instruction_keeps : (p : Image) (t : Typing) → IsWired p → IsTyped p t → (c : Choice) (s : State) (fr : Frame) (sh : AbstractState) (ls : List Layer) →
    At p t s fr sh ls → named s.cells c.name ≡ None → PreservesTyping p t (step_instr p c fr (tasks_of ls) s (instr_at p fr.method fr.place))
instruction_keeps p t wired typed c s fr sh ls has_task unused =
    let x = typed.each fr.method fr.place sh has_task.good.stack.0 in
    let l = law p t wired typed c s fr sh ls has_task unused x.instr x.stands (λ a. returns p t wired typed c s fr sh ls has_task a) x.needs x.flows in
    rw x.stands (kept p t (needs p c fr (tasks_of ls) s x.instr) (does p c fr (tasks_of ls) s x.instr) l.0 l.1)

-- the counts of a move are no concern of the typing
pub counted_well : (p : Image) (t : Typing) (s : State) → WellTyped p t s → WellTyped p t (counted p s)
counted_well p t s w = record { layers = w.layers; tasks = w.tasks; items = w.items; undo_operations = w.undo_operations; good = w.good }

-- each kind of task at hand
module _ (p : Image) (t : Typing) (c : Choice) (s : State) where
  abbrev Stacked : List Layer → Type 0
  Stacked ls = (s.tasks ≡ tasks_of ls) × (forms s.items ≡ items_of ls) × Good p t s.cells ls

  of_method : IsWired p → IsTyped p t → named s.cells c.name ≡ None → (fr : Frame) (ts : List Task) → s.tasks ≡ Run fr ∷ ts → WellTyped p t s →
      PreservesTyping p t (step_task p c s s.tasks)
  of_method wired typed unused fr ts e w =
      method_layer Stacked fr ts w.layers (sym w.tasks ∙ e) (w.tasks, w.items, w.good) (λ sh ls rest h. subst (λ l. PreservesTyping p t (step_task p c s l))
      (sym h.0) (instruction_keeps p t wired typed c s fr sh ls (record { tasks = h.0; items = h.1; undo_operations = w.undo_operations; good = h.2 }) unused))

  of_going : (ts : List Task) → s.tasks ≡ Destroy ∷ ts → WellTyped p t s → PreservesTyping p t (step_task p c s s.tasks)
  of_going ts e w = going_layer Stacked ts w.layers (sym w.tasks ∙ e) (w.tasks, w.items, w.good) (λ o ls rest h.
      subst (λ l. PreservesTyping p t (step_task p c s l)) (sym h.0) (going_keeps p t s o ls h.2 h.1 w.undo_operations))

  of_closing : IsWired p → IsTyped p t → (ts : List Task) → s.tasks ≡ Closing ∷ ts → WellTyped p t s → PreservesTyping p t (step_task p c s s.tasks)
  of_closing wired typed ts e w = closing_layer Stacked ts w.layers (sym w.tasks ∙ e) (w.tasks, w.items, w.good) (λ o left ls rest h.
      subst (λ l. PreservesTyping p t (step_task p c s l)) (sym h.0) (closing_keeps p t wired typed s o left ls h.2 h.1 w.undo_operations))

  of_dispatch : IsWired p → IsTyped p t → (d : Dispatch) (ts : List Task) → s.tasks ≡ Dispatched d ∷ ts → WellTyped p t s → PreservesTyping p t (step_task p c s s.tasks)
  of_dispatch wired typed d ts e w = dispatch_layer Stacked d ts w.layers (sym w.tasks ∙ e) (w.tasks, w.items, w.good) (λ owned_chain ls rest h.
      subst (λ l. PreservesTyping p t (step_task p c s l)) (sym h.0) (dispatch_keeps p t wired typed s d owned_chain ls h.2 h.1))

  of_unwinding : IsWired p → IsTyped p t → (code : ℤ) (ts : List Task) → s.tasks ≡ Unwind code ∷ ts → WellTyped p t s → PreservesTyping p t (step_task p c s s.tasks)
  of_unwinding wired typed code ts e w = leave_layer Stacked code ts w.layers (sym w.tasks ∙ e) (w.tasks, w.items, w.good) (λ es ls rest h.
      subst (λ l. PreservesTyping p t (step_task p c s l)) (sym h.0) (unwinds p t wired typed s code es ls h.1 w.undo_operations h.2))

  -- any task
  of_any : IsWired p → IsTyped p t → named s.cells c.name ≡ None → (ts : List Task) → s.tasks ≡ ts → WellTyped p t s → PreservesTyping p t (step_task p c s s.tasks)
  of_any wired typed unused [] e w = subst (λ l. PreservesTyping p t (step_task p c s l)) (sym e) w
  of_any wired typed unused (Run fr ∷ ts) e w = of_method wired typed unused fr ts e w
  of_any wired typed unused (Destroy ∷ ts) e w = of_going ts e w
  of_any wired typed unused (Closing ∷ ts) e w = of_closing wired typed ts e w
  of_any wired typed unused (Unwind code ∷ ts) e w = of_unwinding wired typed code ts e w
  of_any wired typed unused (Dispatched d ∷ ts) e w = of_dispatch wired typed d ts e w
  of_any wired typed unused (Trapped ∷ ts) e w = mark_layer (λ ls. Good p t s.cells ls) ts w.layers (sym w.tasks ∙ e) w.good (λ gv ls rest good. absurd good.stack.0)

pub move_keeps : (p : Image) (t : Typing) → IsWired p → IsTyped p t →
    (c : Choice) (s : State) (fr : Frame) (ts : List Task) → WellTyped p t s → s.tasks ≡ Run fr ∷ ts → named s.cells c.name ≡ None → PreservesTyping p t (step p c s)
move_keeps p t wired typed c s fr ts w e unused = of_method p t c (counted p s) wired typed unused fr ts e (counted_well p t s w)

pub destruction_keeps : (p : Image) (t : Typing) (c : Choice) (s : State) (ts : List Task) → WellTyped p t s → s.tasks ≡ Destroy ∷ ts → PreservesTyping p t (step p c s)
destruction_keeps p t c s ts w e = of_going p t c (counted p s) ts e (counted_well p t s w)

pub unwinding_keeps : (p : Image) (t : Typing) → IsWired p → IsTyped p t → (c : Choice) (s : State) (code : ℤ) (ts : List Task) → WellTyped p t s →
    s.tasks ≡ Unwind code ∷ ts → PreservesTyping p t (step p c s)
unwinding_keeps p t wired typed c s code ts w e = of_unwinding p t c (counted p s) wired typed code ts e (counted_well p t s w)

pub turn_keeps : (p : Image) (t : Typing) → IsWired p → IsTyped p t → (c : Choice) (s : State) (d : Dispatch) (ts : List Task) → WellTyped p t s →
    s.tasks ≡ Dispatched d ∷ ts → PreservesTyping p t (step p c s)
turn_keeps p t wired typed c s d ts w e = of_dispatch p t c (counted p s) wired typed d ts e (counted_well p t s w)

pub step_keeps : (p : Image) (t : Typing) → IsWired p → IsTyped p t → (c : Choice) (s : State) → WellTyped p t s →
    named s.cells c.name ≡ None → PreservesTyping p t (step p c s)
step_keeps p t wired typed c s w unused = of_any p t c (counted p s) wired typed unused s.tasks refl (counted_well p t s w)
