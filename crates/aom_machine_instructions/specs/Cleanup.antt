-- What is on top of the cleanup stack, and how it is dealt with.
use Rattle.std.specs.Prelude.{ℕ, suc, ℤ, ◌≡◌, ◌<◌, ◌++◌, List, [], ◌∷◌, Option, IfSome}
use Rattle.std.specs.Int.{w32, cast_unsigned}
use Rattle.aom_image.specs.Image.{Image}
use Rattle.aom_image.specs.WellFormed.{WellFormed}
use Rattle.aom_instructions.specs.declared.instr.Instr.{Instr}
use Rattle.aom_image.specs.declared.method.Gives.{Gives}
use Rattle.aom_image.specs.declared.method.Gives.TheVariants.{Nothing, Word as A_word, Own as An_own, Maybe as A_maybe, Left}
use Rattle.aom_cells.specs.Heap.{Heap, null, Lives, class_at}
use Rattle.aom_frames.specs.declared.item.Item.{Item}
use Rattle.aom_frames.specs.declared.item.Item.TheVariants.{Object, Operation, Mark}
use Rattle.aom_typing_rules.specs.Typing.{Typing}
use Rattle.aom_semantics.specs.Calls.{called, result_register}
use Rattle.aom_semantics.specs.Cleanup.{arrival, unwound}
use Rattle.aom_semantics.specs.State.{State, Task, Unwind, Goes}
use Rattle.aom_safety.specs.Kept.{StateInvariant}
use Rattle.aom_safety.specs.WellTyped.{WellTyped}
use Rattle.aom_machine_state.specs.LineBuffer.{LineBuffer}
use Rattle.aom_frames.specs.Tasks.{fresh, with_register}
use Rattle.aom_frames.specs.declared.task.Task.TheVariants.{Run}
use Rattle.aom_machine_state.specs.declared.parts.Parts.{Parts}
use Rattle.aom_machine_instructions.specs.Going.{dying}
use Rattle.aom_machine_state.specs.Places.{with_items, with_tasks, next, set_register}
use Rattle.aom_machine_state.specs.Agrees.{Agrees}

-- an object is last
abbrev pub TopMatchesObject : List Item → Type 0
TopMatchesObject [] = ⊥
TopMatchesObject (Object n ∷ items) = Unit {0}
TopMatchesObject (Operation m w ∷ items) = ⊥
TopMatchesObject (Mark ∷ items) = ⊥

-- what is last lives, with its class, if it is an object
abbrev pub ItemLives : Heap → List Item → Type 0
ItemLives h [] = Unit {0}
ItemLives h (Object n ∷ items) = Lives h n × IfSome (class_at h n) (λ class. class < 256)
ItemLives h (Operation m w ∷ items) = Unit {0}
ItemLives h (Mark ∷ items) = Unit {0}

abbrev pub TopLives : Parts → Type 0
TopLives m = ItemLives m.cells m.entries.items

-- a static method is called on a word
abbrev pub operating : ℕ → ℕ → Parts → Parts
operating method word m = with_tasks (Run (with_register 0 word (fresh method null)) ∷ m.stack.tasks) m

-- the last item is dealt with over the tasks at hand: an object is destroyed, and an operation is run
abbrev pub dealing : Image → List Item → Parts → Parts
dealing p [] m = m
dealing p (Object n ∷ items) m = with_tasks (dying p m.cells n m.stack.tasks) (with_items items m)
dealing p (Operation k w ∷ items) m = operating k w (with_items items m)
dealing p (Mark ∷ items) m = m

abbrev pub dealt_with : Image → Parts → Parts
dealt_with p m = dealing p m.entries.items m

-- where a result does not come, its register has null, or 0 for a word
abbrev pub lost : Gives → ℕ → Parts → Parts
lost Nothing to m = m
lost A_word to m = set_register to 0 m
lost (An_own t) to m = set_register to null m
lost (A_maybe t) to m = set_register to null m
lost (Left x) to m = m

-- the method that called goes on with the code, in the register after the result's
abbrev pub reported : Image → Option Instr → ℤ → Parts → Parts
reported p i code m = next (set_register (suc (result_register i)) (cast_unsigned w32 code) (lost (called p i) (result_register i) m))

-- a machine that stands for a well-typed state in which a leave unwinds
pub record In_unwinding (p : Image) (m : Parts) : Type 0 where
  pub typing : Typing
  pub state : State
  pub code : ℤ
  pub below : List Task
  pub top : state.tasks ≡ Unwind code ∷ below
  pub formed : WellFormed p
  pub typed : WellTyped p typing state
  pub kept : StateInvariant p state
  pub agrees : Agrees p m state

-- one move of it, with its line
abbrev pub Unwinds : Image → Parts → Parts → LineBuffer → LineBuffer → Type 0
Unwinds p old new reported now =
    (h : In_unwinding p old) (u : State)
    → unwound p h.code h.below h.state h.state.items ≡ Goes u
    → WellTyped p h.typing u
    → Agrees p new u × (now ≡ record reported { lines = reported.lines ++ arrival h.code h.state.items })
