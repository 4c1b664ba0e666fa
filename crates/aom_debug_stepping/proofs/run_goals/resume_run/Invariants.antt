use Rattle.std.proofs.Common.{◌≡◌}
use Rattle.aom_machine.specs.Steps.{progress}
use Rattle.aom_natives.specs.Slots.{AllAgree}
use Rattle.aom_static_bounds.specs.Strongest.{IsStrongest}
use Rattle.aom_typing_rules.specs.Typing.{Typing}
use Rattle.aom_debug_stepping.specs.Runners.{KeepsRunner, outside_of}
use Rattle.aom_debug_stepping.specs.Sends.{Sends}
use Rattle.aom_debug_stepping.proofs.Sending.{to_go}
use Rattle.aom_debug_stepping.specs.RunGoals.{stays_at}
use Rattle.aom_debug_stepping.proofs.Leaving.{left_in}
use Rattle.aom_debug_stepping.proofs.Passing.{GoesFar}
use Rattle.aom_debug_stepping.proofs.run_goals.resume_run.Given as goal

abbrev pub invariant-loop-progress : goal.invariant-loop-progress
invariant-loop-progress g l = record {
  so_far : (t : Typing) → IsStrongest l.fn.runner.machine.core.image t → Sends (GoesFar l.fn.runner.machine.core.image
      (outside_of l.fn.runner) (λ s. stays_at t l.fn.runner.machine.core.image l.fn.until l.fn.breakpoints s) l.fn.runner.recent l.runner.recent) l.fn.runner.machine
      (g.W.Sink.out l.fn.out) (g.W.Sink.out l.out) l.runner.machine;
  far : l.progress ≡ progress l.runner.machine.core;
  keeps : KeepsRunner l.fn.runner l.runner;
  agree : AllAgree (λ x. x.ids) (λ x. (goal.Native-dyn g (x.native.vtable, x.native.value)).owed x.native.value) l.runner.machine.natives.slots.items;
}

abbrev pub decreases-loop-progress : goal.decreases-loop-progress
decreases-loop-progress g l = to_go l.progress (left_in l.fn.runner.script.timed l.fn.runner.limit l.runner.machine.core.parts.rest)
