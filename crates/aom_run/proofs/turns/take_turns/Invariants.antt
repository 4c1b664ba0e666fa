use Rattle.std.proofs.Common.{◌≡◌}
use Rattle.aom_natives.specs.Slots.{AllAgree}
use Rattle.aom_run.proofs.Resting.{Rests}
use Rattle.aom_run.specs.Turns.{waiting}
use Rattle.aom_run.proofs.turns.take_turns.Given as goal

abbrev pub invariant-loop-limit : goal.invariant-loop-limit
invariant-loop-limit g l = record {
  rests : Rests l.fn.machine l.fn.events l.fn.limit l.machine;
  agree : AllAgree (λ x. x.ids) (λ x. (goal.Native-dyn g (x.native.vtable, x.native.value)).owed x.native.value) l.machine.natives.slots.items;
  lines : l.lines ≡ l.fn.lines;
}

abbrev pub decreases-loop-limit : goal.decreases-loop-limit
decreases-loop-limit g l = waiting l.fn.events l.machine
