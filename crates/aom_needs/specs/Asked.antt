-- What each instruction needs, in the order in which it is looked at.
use Rattle.std.specs.Prelude.{ℕ, suc, List, [], ◌∷◌, ◌++◌, Option, Some, None}
use Rattle.aom_image.specs.Image.{Image}
use Rattle.aom_image.specs.Views.{arguments_of, gives_of, method_class}
use Rattle.aom_image.specs.declared.method.Argument.{Argument}
use Rattle.aom_image.specs.declared.method.Argument.TheVariants as argument
use Rattle.aom_image.specs.declared.method.Gives.{Gives}
use Rattle.aom_image.specs.declared.method.Gives.TheVariants as gives
use Rattle.aom_image.specs.declared.method.Thing.{Thing}
use Rattle.aom_image.specs.declared.method.Thing.TheVariants.{Object, Message}
use Rattle.aom_instructions.specs.declared.instr.Instr.{Instr}
use Rattle.aom_instructions.specs.declared.instr.Instr.TheVariants.{Const, Copy, Move, Add, Sub, Mul, And, Or, Xor, Jump, JumpEqual, JumpLess, JumpNull, JumpEmpty, JumpActive, JumpAdded, Loop, Next, Print, Load, Store, Take, Put, New, NewOrLeave, Delete, Push, PushOperation, Pop, PopOperation, PopDelete, Call, Trap, Return, Leave, LeaveIf, Enlist, Issue, SetActive, Cancel, Abort, Status, Connect, Ask, Close, TakeMessage, Reply, Stop, Hand}
use Rattle.aom_instructions.specs.declared.instr.Target.{Target}
use Rattle.aom_instructions.specs.declared.instr.Target.TheVariants.{This, Register, Field, Entry as On_entry}
use Rattle.aom_roles.specs.Things.{field_thing, holder_of}
use Rattle.aom_abstract_state.specs.AbstractState.{AbstractState}
use Rattle.aom_abstract_state.specs.Arguments.{arguments_moved}
use Rattle.aom_needs.specs.declared.wanted.ClassNeed.TheVariants as classes
use Rattle.aom_needs.specs.declared.wanted.Operand.{Operand}
use Rattle.aom_needs.specs.declared.wanted.Operand.TheVariants as operands
use Rattle.aom_needs.specs.declared.wanted.Wanted.{Wanted}
use Rattle.aom_needs.specs.declared.wanted.Wanted.TheVariants as want

-- what comes into a field that is declared for that thing, from a register
abbrev pub put_wanted : Option Thing → (field register : ℕ) → Wanted
put_wanted None f b = want.Field f
put_wanted (Some t) f b = want.OwnerOrNull b t

-- what a method of that class is called on
abbrev pub owner_wanted : Option ℕ → Operand → (method : ℕ) → Wanted
owner_wanted None x m' = want.MethodOfObjects m'
owner_wanted (Some c) x m' = want.Owner x (Object c)

abbrev pub target_wanted : Target → Option ℕ → (method first : ℕ) → List Wanted
target_wanted This class m' first = want.OwnObject m' ∷ []
target_wanted (Register r) class m' first = owner_wanted class (operands.Register r) m' ∷ want.NoArgument r first m' ∷ []
target_wanted (Field f) class m' first = owner_wanted class (operands.Field f) m' ∷ []
target_wanted (On_entry k) class m' first = owner_wanted class (operands.Entry k) m' ∷ []

abbrev pub argument_wanted : Argument → (register : ℕ) → Wanted
argument_wanted argument.Word r = want.Word r
argument_wanted (argument.Own t) r = want.Owner (operands.Register r) t

-- each argument in its register, from that one on
abbrev pub each_wanted : List Argument → (first : ℕ) → List Wanted
each_wanted [] first = []
each_wanted (x ∷ xs) first = argument_wanted x first ∷ each_wanted xs (suc first)

-- what the method gives back
abbrev pub result_wanted : Gives → (register : ℕ) → Wanted
result_wanted gives.Nothing a = want.NoResult a
result_wanted gives.Word a = want.Word a
result_wanted (gives.Own t) a = want.Owner (operands.Register a) t
result_wanted (gives.Maybe t) a = want.OwnerOrNull a t
result_wanted (gives.Left c) a = want.NoResult a

module _ (p : Image) (m : ℕ) where
  -- before the arguments move
  abbrev pub given_wanted : Target → (method first : ℕ) → List Wanted
  given_wanted target m' first = target_wanted target (method_class p m') m' first ++ (want.Arguments m' first ∷ each_wanted (arguments_of p m') first)

  -- in the state in which the instruction is
  abbrev pub wanted : Instr → List Wanted
  wanted (Const a w) = want.Unowning a ∷ []
  wanted (Copy a b) = want.Word b ∷ want.Unowning a ∷ []
  wanted (Add a b c) = want.Word b ∷ want.Word c ∷ want.Unowning a ∷ []
  wanted (Sub a b c) = want.Word b ∷ want.Word c ∷ want.Unowning a ∷ []
  wanted (Mul a b c) = want.Word b ∷ want.Word c ∷ want.Unowning a ∷ []
  wanted (And a b c) = want.Word b ∷ want.Word c ∷ want.Unowning a ∷ []
  wanted (Or a b c) = want.Word b ∷ want.Word c ∷ want.Unowning a ∷ []
  wanted (Xor a b c) = want.Word b ∷ want.Word c ∷ want.Unowning a ∷ []
  wanted (Jump to) = []
  wanted (JumpEqual a b to) = want.Word a ∷ want.Word b ∷ []
  wanted (JumpLess a b to) = want.Word a ∷ want.Word b ∷ []
  wanted (Loop depth rounds) = []
  wanted (Next depth to) = []
  wanted (Print a) = want.Word a ∷ []
  wanted (Load a w) = want.Unowning a ∷ want.ObjectWord w ∷ []
  wanted (Store w b) = want.Word b ∷ want.ObjectWord w ∷ []
  wanted (Move a b) = want.ObjectOrNull b ∷ want.Unowning a ∷ []
  wanted (JumpNull a to) = want.ObjectOrNull a ∷ []
  wanted (JumpEmpty f to) = want.Field f ∷ []
  wanted (Take a f) = want.Unowning a ∷ want.Field f ∷ []
  wanted (Put f b) = put_wanted (field_thing p (holder_of p m) f) f b ∷ []
  wanted (New a c) = want.Unowning a ∷ []
  wanted (Delete a) = want.Deletable a ∷ []
  wanted (Call target m' first c) = given_wanted target m' first
  wanted (Trap target m' first c) = given_wanted target m' first
  wanted (NewOrLeave a c) = want.Unowning a ∷ []
  wanted (Push a) = want.Pushable a ∷ []
  wanted (PushOperation a m') = want.Word a ∷ []
  wanted (Pop a) = want.Unowning a ∷ want.LastObject ∷ []
  wanted PopOperation = want.LastOperation ∷ []
  wanted PopDelete = []
  wanted (Leave a) = want.Word a ∷ []
  wanted (LeaveIf a) = want.Word a ∷ []
  wanted (Return a) = result_wanted (gives_of p m) a ∷ want.Inactive ∷ want.End ∷ []
  wanted (JumpActive to) = want.OfClass classes.Active ∷ []
  wanted (JumpAdded to) = want.OfClass classes.Listed ∷ []
  wanted (Enlist priority) = want.OfClass classes.Listed ∷ []
  wanted (Issue a b) = want.Word a ∷ want.Word b ∷ want.OfClass classes.Issuing ∷ []
  wanted SetActive = want.OfClass classes.Active ∷ []
  wanted Cancel = want.OfClass classes.Active ∷ []
  wanted Abort = want.OfClass classes.Active ∷ want.Cancelling ∷ []
  wanted (Status a) = want.Unowning a ∷ want.OfClass classes.Active ∷ []
  wanted (Connect a) = want.Unowning a ∷ want.OfClass classes.Native ∷ []
  wanted (Ask a b x) = want.Word b ∷ want.Word x ∷ want.Unowning a ∷ want.OfClass classes.Native ∷ []
  wanted Close = want.OfClass classes.Native ∷ []
  wanted (TakeMessage a) = want.Unowning a ∷ want.Service ∷ want.Message ∷ []
  wanted (Reply a b) = want.Owner (operands.Register a) Message ∷ want.Word b ∷ []
  wanted Stop = []
  wanted (Hand a) = want.Unowning a ∷ want.OfClass classes.Token ∷ []

-- the state once the arguments of a method have moved
abbrev pub moved_by : Image → (method first : ℕ) → AbstractState → AbstractState
moved_by p m' first sh = arguments_moved (arguments_of p m') first sh

-- and of a call
abbrev pub moved : Image → Instr → AbstractState → AbstractState
moved p (Call target m' first c) sh = moved_by p m' first sh
moved p (Trap target m' first c) sh = moved_by p m' first sh
moved p _ sh = sh

abbrev pub moved_wanted : Instr → List Wanted
moved_wanted (Call target m' first c) = want.Begin m' target ∷ want.ResultRegister m' c ∷ []
moved_wanted (Trap target m' first c) = want.Begin m' target ∷ want.ResultRegister m' c ∷ want.Unowning (suc c) ∷ []
moved_wanted _ = []
