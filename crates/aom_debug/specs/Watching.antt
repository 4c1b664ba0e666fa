-- How a debugger goes on until a variable has something else.
use Rattle.std.specs.Prelude.{◌≡◌, ◌⊎◌, true, false, length, Some, Err}
use Rattle.aom_static_bounds.specs.Strongest.{IsStrongest}
use Rattle.aom_typing_rules.specs.Typing.{Typing}
use Rattle.aom_semantics.specs.State.{State}
use Rattle.aom_debug_stepping.specs.Calls.{RefinesWithNatives}
use Rattle.aom_debug_stepping.specs.Runners.{outside_of}
use Rattle.aom_debug_stepping.specs.RunGoals.{RunGoals, run_goal_of}
use Rattle.aom_debug_stepping.specs.declared.run_goals.RunGoal.TheVariants.{Change}
use Rattle.aom_debug_protocol.specs.declared.answer.Answer.{Answer as Told}
use Rattle.aom_debug_protocol.specs.declared.variable.Variable.{Variable}
use Rattle.aom_debug_protocol.specs.declared.fault.DebugFault.TheVariants.{Ended, NotThere}
use Rattle.aom_debug_paths.specs.Variables.{variable_answer}
use Rattle.aom_debug.specs.Commands.{HasVariable, LacksVariable}
use Rattle.aom_debug.specs.Debugging.{Answer, Declined, Goes, Outgoing, has_ended}
use Rattle.aom_debug.specs.declared.debugger.Debugger.{Debugger}

module _ {X : Type 0} {B : X → Type 0} where
  -- from what it has by the strongest typing, with so many tasks at hand
  abbrev pub changes_of : Variable → Debugger X B → RunGoals
  changes_of v d old new s lines u = (t : Typing) × IsStrongest d.runner.machine.core.image t × (x : Told) × (variable_answer t d.runner.machine.core.image s v ≡ Some x)
      × run_goal_of d.runner.machine.core.image (outside_of d.runner) d.breakpoints (Change (record { variable = v; answer = x; depth = length s.tasks })) old new s lines u

  -- each state has it, or lacks it
  abbrev pub Has : Variable → Debugger X B → Type 0
  Has v d = (s : State) → RefinesWithNatives d.runner.machine s → HasVariable d.runner.machine.core.image s v

  abbrev pub Lacks : Variable → Debugger X B → Type 0
  Lacks v d = (s : State) → RefinesWithNatives d.runner.machine s → LacksVariable d.runner.machine.core.image s v

  -- one that is not there is refused
  abbrev pub Watches : Variable → Debugger X B → Debugger X B → Outgoing → Answer → Type 0
  Watches v old new out (Err NotThere) = (old.has_failed ≡ false) × Declined old new out × Lacks v old
  Watches v old new out (Err Ended) = ((old.has_failed ≡ true) ⊎ ((has_ended old ≡ true) × Has v old)) × Declined old new out
  Watches v old new out answer = Has v old × Goes (changes_of v) old new out answer
