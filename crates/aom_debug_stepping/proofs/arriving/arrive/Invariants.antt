use Rattle.std.proofs.Common.{◌≡◌}
use Rattle.aom_machine.specs.Steps.{progress}
use Rattle.aom_natives.specs.Slots.{AllAgree}
use Rattle.aom_debug_stepping.proofs.RunLemmas.{left}
use Rattle.aom_debug_stepping.specs.Runners.{KeepsRunner, outside_of}
use Rattle.aom_debug_stepping.specs.Moves.{Arrives}
use Rattle.aom_debug_stepping.specs.Sends.{Sends}
use Rattle.aom_debug_stepping.proofs.Sending.{to_go}
use Rattle.aom_debug_stepping.proofs.arriving.arrive.Given as goal

abbrev pub invariant-loop-runner : goal.invariant-loop-runner
invariant-loop-runner g l = record {
  so_far : Sends (Arrives l.fn.runner.machine.core.image (outside_of l.fn.runner)) l.fn.runner.machine (g.W.Sink.out l.fn.out) (g.W.Sink.out l.out) l.runner.machine;
  keeps : KeepsRunner l.fn.runner l.runner;
  recent : l.runner.recent ≡ l.fn.runner.recent;
  agree : AllAgree (λ x. x.ids) (λ x. (goal.Native-dyn g (x.native.vtable, x.native.value)).owed x.native.value) l.runner.machine.natives.slots.items;
}

abbrev pub decreases-loop-runner : goal.decreases-loop-runner
decreases-loop-runner g l = to_go (progress l.runner.machine.core) (left l.fn.runner.script.timed l.fn.runner.limit l.runner.machine)
