-- What a variable has in each state that a debugger's machine stands for, and what is told of it.
use Rattle.std.specs.Prelude.{◌≡◌, ℕ, true, false, List, Option, None, Err}
use Rattle.aom_static_bounds.specs.Strongest.{IsStrongest}
use Rattle.aom_typing_rules.specs.Typing.{Typing}
use Rattle.aom_semantics.specs.State.{State}
use Rattle.aom_machine_state.specs.Stands.{Refines}
use Rattle.aom_debug_stepping.specs.Calls.{RefinesWithNatives}
use Rattle.aom_debug_protocol.specs.declared.answer.Answer.{Answer as Told}
use Rattle.aom_debug_protocol.specs.declared.variable.Variable.{Variable}
use Rattle.aom_debug_protocol.specs.declared.fault.DebugFault.{DebugFault}
use Rattle.aom_debug_protocol.specs.declared.fault.DebugFault.TheVariants.{Ended, NotThere}
use Rattle.aom_debug_paths.specs.Variables.{variable_answer}
use Rattle.aom_debug.specs.Commands.{LacksVariable, ShowsVariable}
use Rattle.aom_debug.specs.Debugging.{Answer, Declined, Looks, Outgoing}
use Rattle.aom_debug.specs.declared.debugger.Debugger.{Debugger}

module _ {X : Type 0} {B : X → Type 0} where
  -- each state has that there, or nothing
  abbrev pub HasValue : Variable → Debugger X B → Option Told → Type 0
  HasValue v d x = (t : Typing) → IsStrongest d.runner.machine.core.image t → (s : State) → Refines d.runner.machine.core s → variable_answer t d.runner.machine.core.image s v ≡ x

  -- it is not there, or what was told before is not out
  abbrev pub HasNone : Variable → Debugger X B → DebugFault → Type 0
  HasNone v d NotThere = (d.has_failed ≡ false) × HasValue v d None
  HasNone v d Ended = d.has_failed ≡ true
  HasNone v d fault = ⊥

  abbrev pub SeesVariable : Variable → Debugger X B → State → List ℕ → Type 0
  SeesVariable v d s text = ShowsVariable d.names d.runner.machine.core.image s v text

  -- one that is not there is refused
  abbrev pub Prints : Variable → Debugger X B → Debugger X B → Outgoing → Answer → Type 0
  Prints v old new out (Err NotThere) = (old.has_failed ≡ false) × Declined old new out × ((s : State) → RefinesWithNatives old.runner.machine s → LacksVariable old.runner.machine.core.image s v)
  Prints v old new out answer = Looks (SeesVariable v) old new out answer
