use Rattle.std.proofs.Common.{◌≡◌, ◌<◌, ◌≤◌, length}
use Rattle.aom_machine.specs.Steps.{rank}
use Rattle.aom_run.specs.Beside.{KeepsUnnamed}
use Rattle.aom_run.specs.Calls.{Stands}
use Rattle.aom_natives.specs.Slots.{AllAgree}
use Rattle.aom_run.specs.Runs.{KeepsImage}
use Rattle.aom_run.proofs.Reaching.{Went}
use Rattle.aom_run.proofs.dispatches.fill.Given as goal

abbrev pub invariant-loop-lines : goal.invariant-loop-lines
invariant-loop-lines g l = record {
  went : Went l.fn.machine l.fn.lines l.lines l.machine;
  stands : Stands l.machine;
  agree : AllAgree (λ x. x.ids) (λ x. (goal.Native-dyn g (x.native.vtable, x.native.value)).owed x.native.value) l.machine.natives.slots.items;
  kept : KeepsImage l.fn.machine l.machine;
  unnamed : KeepsUnnamed l.fn.machine.core.image l.fn.machine.natives.slots.items l.machine.natives.slots.items;
  room : l.lines.room ≡ l.fn.lines.room;
  few : length l.lines.lines < 64;
  lower : rank l.machine.core ≤ rank l.fn.machine.core;
}

abbrev pub decreases-loop-lines : goal.decreases-loop-lines
decreases-loop-lines g l = rank l.machine.core
