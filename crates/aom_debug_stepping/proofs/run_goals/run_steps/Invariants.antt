use Rattle.std.proofs.Common.{◌≤◌, ◌-◌}
use Rattle.aom_natives.specs.Slots.{AllAgree}
use Rattle.aom_debug_stepping.specs.Runners.{KeepsRunner, outside_of}
use Rattle.aom_debug_stepping.specs.Sends.{Sends}
use Rattle.aom_debug_stepping.proofs.Going.{GoesSo}
use Rattle.aom_debug_stepping.proofs.run_goals.run_steps.Given as goal

abbrev pub invariant-loop-done : goal.invariant-loop-done
invariant-loop-done g l = record {
  so_far : Sends (GoesSo l.fn.runner.machine.core.image (outside_of l.fn.runner) l.done l.fn.runner.recent l.runner.recent) l.fn.runner.machine
      (g.W.Sink.out l.fn.out) (g.W.Sink.out l.out) l.runner.machine;
  within : l.done ≤ l.steps;
  keeps : KeepsRunner l.fn.runner l.runner;
  agree : AllAgree (λ x. x.ids) (λ x. (goal.Native-dyn g (x.native.vtable, x.native.value)).owed x.native.value) l.runner.machine.natives.slots.items;
}

abbrev pub decreases-loop-done : goal.decreases-loop-done
decreases-loop-done g l = l.steps - l.done
