use Rattle.std.proofs.Common.{◌≡◌, ◌<◌, length}
use Rattle.aom_machine.specs.Steps.{rank}
use Rattle.aom_run.specs.Beside.{KeepsUnnamed}
use Rattle.aom_run.specs.Calls.{Stands}
use Rattle.aom_natives.specs.Slots.{AllAgree}
use Rattle.aom_run.specs.Runs.{KeepsImage}
use Rattle.aom_transcript.specs.Naming.{named_by}
use Rattle.aom_run.proofs.Underway.{Underway}
use Rattle.aom_run.proofs.dispatches.run_dispatch.Given as goal

abbrev pub invariant-loop-progress : goal.invariant-loop-progress
invariant-loop-progress g l = record {
  underway : Underway (named_by l.fn.names) l.fn.machine l.fn.lines (g.W.Sink.out l.fn.out) (g.W.Sink.out l.out) l.lines l.machine;
  stands : Stands l.machine;
  agree : AllAgree (λ x. x.ids) (λ x. (goal.Native-dyn g (x.native.vtable, x.native.value)).owed x.native.value) l.machine.natives.slots.items;
  kept : KeepsImage l.fn.machine l.machine;
  unnamed : KeepsUnnamed l.fn.machine.core.image l.fn.machine.natives.slots.items l.machine.natives.slots.items;
  same : l.lines ≡ record l.fn.lines { lines = l.lines.lines };
  few : length l.lines.lines < 64;
}

abbrev pub decreases-loop-progress : goal.decreases-loop-progress
decreases-loop-progress g l = rank l.machine.core
