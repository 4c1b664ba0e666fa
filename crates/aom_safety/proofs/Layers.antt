-- The layer on top of a stack of layers, read off the task on top of its tasks.
use Rattle.std.proofs.Common.{arith, ℕ, List, ◌∷◌, ◌≡◌, ℤ, subst}
use Rattle.aom_safety.proofs.ImageLemmas.{cons_given}
use Rattle.aom_image.specs.declared.method.Gives.{Gives}
use Rattle.aom_abstract_state.specs.AbstractState.{AbstractState}
use Rattle.aom_abstract_state.specs.declared.kind.CleanupEntry.{CleanupEntry}
use Rattle.aom_safety.specs.Claims.{Ending, Dispatching, Dying, Layer, Mark, Method, Unwinding, task_of, tasks_of}
use Rattle.aom_semantics.specs.Places.{Object}
use Rattle.aom_semantics.specs.State.{Closing, Destroy, Dispatch, Dispatched, Frame, Run, OwnedObject, Task, Trapped, Unwind}

-- the layer of a task
method_of : (l : Layer) (fr : Frame) → task_of l ≡ Run fr → (sh : AbstractState) × (l ≡ Method fr sh)
method_of l fr e = grind arith

going_of : (l : Layer) → task_of l ≡ Destroy → (o : Object) × (l ≡ Dying o)
going_of l e = grind arith

closing_of : (l : Layer) → task_of l ≡ Closing → (o : Object) × (left : List ℕ) × (l ≡ Ending o left)
closing_of x e = grind arith

leave_of : (l : Layer) (code : ℤ) → task_of l ≡ Unwind code → (es : List CleanupEntry) × (l ≡ Unwinding code es)
leave_of l code e = grind arith

dispatch_of : (l : Layer) (d : Dispatch) → task_of l ≡ Dispatched d → (owned_chain : List OwnedObject) × (l ≡ Dispatching d owned_chain)
dispatch_of l d e = grind arith

mark_of : (l : Layer) → task_of l ≡ Trapped → (gv : Gives) × (l ≡ Mark gv)
mark_of l e = grind arith

module _ {G : Type 0} (P : List Layer → Type 0) where
  top_layer : (x : Task) (ts : List Task) (ls : List Layer) → tasks_of ls ≡ x ∷ ts → P ls →
      ((l : Layer) (below : List Layer) → task_of l ≡ x → tasks_of below ≡ ts → P (l ∷ below) → G) → G
  top_layer x ts ls e h gives =
      cons_given (λ ls. (tasks_of ls ≡ x ∷ ts) × P ls) ls (e, h) (λ h. let clash = h.0 in cc) (λ l below is h. let e = h.0 in gives l below (cc) (cc) h.1)

  pub method_layer : (fr : Frame) (ts : List Task) (ls : List Layer) → tasks_of ls ≡ Run fr ∷ ts → P ls →
      ((sh : AbstractState) (below : List Layer) → tasks_of below ≡ ts → P (Method fr sh ∷ below) → G) → G
  method_layer fr ts ls e h gives =
      top_layer (Run fr) ts ls e h (λ l below task rest h. let f = method_of l fr task in gives f.0 below rest (subst (λ l. P (l ∷ below)) f.1 h))

  pub going_layer : (ts : List Task) (ls : List Layer) → tasks_of ls ≡ Destroy ∷ ts → P ls →
      ((o : Object) (below : List Layer) → tasks_of below ≡ ts → P (Dying o ∷ below) → G) → G
  going_layer ts ls e h gives =
      top_layer Destroy ts ls e h (λ l below task rest h. let f = going_of l task in gives f.0 below rest (subst (λ l. P (l ∷ below)) f.1 h))

  pub closing_layer : (ts : List Task) (ls : List Layer) →
      tasks_of ls ≡ Closing ∷ ts → P ls → ((o : Object) (left : List ℕ) (below : List Layer) → tasks_of below ≡ ts → P (Ending o left ∷ below) → G) → G
  closing_layer ts ls e h gives =
      top_layer Closing ts ls e h (λ l below task rest h. let f = closing_of l task in gives f.0 f.1 below rest (subst (λ l. P (l ∷ below)) f.2 h))

  pub leave_layer : (code : ℤ) (ts : List Task) (ls : List Layer) → tasks_of ls ≡ Unwind code ∷ ts → P ls →
      ((es : List CleanupEntry) (below : List Layer) → tasks_of below ≡ ts → P (Unwinding code es ∷ below) → G) → G
  leave_layer code ts ls e h gives =
      top_layer (Unwind code) ts ls e h (λ l below task rest h. let f = leave_of l code task in gives f.0 below rest (subst (λ l. P (l ∷ below)) f.1 h))

  pub dispatch_layer : (d : Dispatch) (ts : List Task) (ls : List Layer) → tasks_of ls ≡ Dispatched d ∷ ts → P ls →
      ((owned_chain : List OwnedObject) (below : List Layer) → tasks_of below ≡ ts → P (Dispatching d owned_chain ∷ below) → G) → G
  dispatch_layer d ts ls e h gives =
      top_layer (Dispatched d) ts ls e h (λ l below task rest h. let f = dispatch_of l d task in gives f.0 below rest (subst (λ l. P (l ∷ below)) f.1 h))

  pub mark_layer : (ts : List Task) (ls : List Layer) → tasks_of ls ≡ Trapped ∷ ts → P ls →
      ((gv : Gives) (below : List Layer) → tasks_of below ≡ ts → P (Mark gv ∷ below) → G) → G
  mark_layer ts ls e h gives = top_layer Trapped ts ls e h (λ l below task rest h. let f = mark_of l task in gives f.0 below rest (subst (λ l. P (l ∷ below)) f.1 h))
