-- What the typing says of the methods that wait: of their registers, once the operands of their instructions have moved.
use Rattle.std.specs.Prelude.{ℕ, ℤ, ◌≡◌, true, IsSome, IfSome, List, [], ◌∷◌, length, Option, Some, None}
use Rattle.aom_image.specs.Image.{Image}
use Rattle.aom_image.specs.Views.{arguments_of, instr_at, method_class}
use Rattle.aom_instructions.specs.declared.instr.Instr.{Instr}
use Rattle.aom_abstract_state.specs.Arguments.{after_of, arguments_moved}
use Rattle.aom_typing_rules.specs.Calls.{while_called}
use Rattle.aom_typing_rules.specs.Requests.{after_cancel, resting}
use Rattle.aom_abstract_state.specs.Entries.{without_entry}
use Rattle.aom_abstract_state.specs.Kinds.{register, set_register}
use Rattle.aom_typing_rules.specs.Rules.{ways_of}
use Rattle.aom_abstract_state.specs.AbstractState.{AbstractState}
use Rattle.aom_roles.specs.Things.{is_subtype}
use Rattle.aom_typing_rules.specs.Typing.{Typing, shape_at}
use Rattle.aom_typing_rules.specs.Ways.{As_before, Branches, Branches_in, Branches_on_empty, Branches_on_null, Called, Cancelled, Caught, Dropped, Ends, Filled, Goes_back, Goes_on, Goes_to, Holding, Left_in, Moved, News, Popped, Pushed, Pushed_operation, Taken, Taken_message, Handed, Ways}
use Rattle.aom_abstract_state.specs.declared.kind.Kind.{Kind}
use Rattle.aom_abstract_state.specs.declared.kind.Kind.TheVariants.{Maybe, Null, Own, Unset, Word}
use Rattle.aom_semantics.specs.Places.{Cell, Object, Register, held}
use Rattle.aom_semantics.specs.State.{Closing, Destroy, Dispatched, Frame, Run, Task, Trapped, Unwind, word}

-- what a kind says of the word that a register has, and of what it owns
abbrev pub KindSays : Image → Kind → Option ℤ → Option Object → Type 0
KindSays p Unset w o = o ≡ None
KindSays p Word w o = IsSome w × (o ≡ None)
KindSays p Null w o = (w ≡ None) × (o ≡ None)
KindSays p (Own t a) w o = (w ≡ None) × IsSome o × IfSome o (λ x. is_subtype p x.thing t ≡ true)
KindSays p (Maybe t a) w o = (w ≡ None) × IfSome o (λ x. is_subtype p x.thing t ≡ true)

-- what is known while what is called, or lets go, is at hand: the operands have moved, and no result is there
abbrev pub waiting_for : Image → News → AbstractState → AbstractState
waiting_for p (Called target m first c) sh = while_called target (method_class p m) (after_of p m) (arguments_moved (arguments_of p m) first sh)
waiting_for p (Caught target m first c) sh = while_called target (method_class p m) (resting p (method_class p m)) (arguments_moved (arguments_of p m) first sh)
waiting_for p (Holding a Null) sh = set_register sh a Null
waiting_for p (Holding a kind) sh = sh
waiting_for p Dropped sh = without_entry sh
-- nothing is called or let go
waiting_for p As_before sh = sh
waiting_for p (Moved a b) sh = sh
waiting_for p (Taken a f) sh = sh
waiting_for p (Taken_message a) sh = sh
waiting_for p (Handed a) sh = sh
waiting_for p (Filled f a) sh = sh
waiting_for p (Pushed a) sh = sh
waiting_for p Pushed_operation sh = sh
waiting_for p (Popped a) sh = sh
waiting_for p (Left_in states) sh = sh
waiting_for p Cancelled sh = after_cancel sh

abbrev pub waiting_by : Image → Ways → AbstractState → AbstractState
waiting_by p (Goes_on news) sh = waiting_for p news sh
waiting_by p Ends sh = sh
waiting_by p (Goes_to to) sh = sh
waiting_by p (Branches to) sh = sh
waiting_by p (Goes_back to) sh = sh
waiting_by p (Branches_on_null a to) sh = sh
waiting_by p (Branches_on_empty f to) sh = sh
waiting_by p (Branches_in there here to) sh = sh

-- the state of a method while what its instruction has called, or lets go, is at hand
abbrev pub while_waiting : Image → Option Instr → AbstractState → AbstractState
while_waiting p (Some i) sh = waiting_by p (ways_of p i) sh
while_waiting p None sh = sh

-- so are the registers of a method that waits at that depth
pub record Waits (p : Image) (t : Typing) (cs : List Cell) (depth : ℕ) (fr : Frame) : Type 0 where
  pub shape : AbstractState
  pub typed : shape_at t fr.method fr.place ≡ Some shape
  pub says : (i : ℕ) → KindSays p (register (while_waiting p (instr_at p fr.method fr.place) shape) i) (word fr i) (held cs (Register depth i))

abbrev pub AllWait : Image → Typing → List Cell → List Task → Type 0
AllWait p t cs [] = Unit {0}
AllWait p t cs (Run fr ∷ ts) = Waits p t cs (length ts) fr × AllWait p t cs ts
AllWait p t cs (Trapped ∷ ts) = AllWait p t cs ts
AllWait p t cs (Destroy ∷ ts) = AllWait p t cs ts
AllWait p t cs (Closing ∷ ts) = AllWait p t cs ts
AllWait p t cs (Unwind code ∷ ts) = AllWait p t cs ts
AllWait p t cs (Dispatched d ∷ ts) = AllWait p t cs ts

-- each method at hand waits for what stands over it, but for the one that runs
abbrev pub OthersWait : Image → Typing → List Cell → List Task → Type 0
OthersWait p t cs [] = Unit {0}
OthersWait p t cs (task ∷ ts) = AllWait p t cs ts
