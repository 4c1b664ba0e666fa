use Rattle.std.proofs.Common.{◌≡◌}
use Rattle.aom_machine.specs.Steps.{progress, rank}
use Rattle.aom_machine_state.specs.declared.progress.Progress.TheVariants.{Running}
use Rattle.aom_natives.specs.Slots.{AllAgree}
use Rattle.aom_static_bounds.specs.Strongest.{IsStrongest}
use Rattle.aom_typing_rules.specs.Typing.{Typing}
use Rattle.aom_debug_stepping.specs.Runners.{KeepsRunner}
use Rattle.aom_debug_stepping.specs.Sends.{Sends}
use Rattle.aom_debug_stepping.specs.RunGoals.{stays_at}
use Rattle.aom_debug_stepping.proofs.DebugSteps.{Underway}
use Rattle.aom_debug_stepping.proofs.walking.walk.Given as goal

abbrev pub invariant-loop-progress : goal.invariant-loop-progress
invariant-loop-progress g l = record {
  so_far : (t : Typing) → IsStrongest l.fn.runner.machine.core.image t → Sends (Underway l.fn.runner.machine.core.image l.fn.runner.lines.refused
      (λ s. stays_at t l.fn.runner.machine.core.image l.fn.until l.fn.breakpoints s) l.fn.runner.recent l.runner.recent) l.fn.runner.machine
      (g.W.Sink.out l.fn.out) (g.W.Sink.out l.out) l.runner.machine;
  running : progress l.runner.machine.core ≡ Running;
  keeps : KeepsRunner l.fn.runner l.runner;
  agree : AllAgree (λ x. x.ids) (λ x. (goal.Native-dyn g (x.native.vtable, x.native.value)).owed x.native.value) l.runner.machine.natives.slots.items;
}

abbrev pub decreases-loop-progress : goal.decreases-loop-progress
decreases-loop-progress g l = rank l.runner.machine.core
