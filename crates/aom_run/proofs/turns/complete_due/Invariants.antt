use Rattle.std.proofs.Common.{◌≡◌, ◌⊎◌, ◌<◌}
use Rattle.aom_machine.specs.Steps.{timers}
use Rattle.aom_natives.specs.Slots.{AllAgree}
use Rattle.aom_run.specs.Turns.{CompletesDue, KeepsMachine}
use Rattle.aom_run.proofs.turns.complete_due.Given as goal

abbrev pub invariant-loop : goal.invariant-loop
invariant-loop g l = record {
  completed : CompletesDue l.fn.machine l.machine;
  keeps : KeepsMachine l.fn.machine l.machine;
  agree : AllAgree (λ x. x.ids) (λ x. (goal.Native-dyn g (x.native.vtable, x.native.value)).owed x.native.value) l.machine.natives.slots.items;
  natives : l.machine.natives ≡ l.fn.machine.natives;
  fewer : (l.machine ≡ l.fn.machine) ⊎ (timers l.machine.core < timers l.fn.machine.core);
}

abbrev pub decreases-loop : goal.decreases-loop
decreases-loop g l = timers l.machine.core
