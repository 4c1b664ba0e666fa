use Rattle.std.proofs.Common.{◌≡◌, ◌⊎◌, ◌<◌, false, ℕ}
use Rattle.std.specs.Prelude.{All}
use Rattle.aom_natives.specs.Slots.{AllAgree, living_at}
use Rattle.aom_run.specs.Beside.{is_for_native}
use Rattle.aom_run.specs.Turns.{Settles, to_come}
use Rattle.aom_run.proofs.Keeping.{KeepsTimers}
use Rattle.aom_run.proofs.turns.observe_due.Given as goal

abbrev pub invariant-loop-event : goal.invariant-loop-event
invariant-loop-event g l = record {
  settled : Settles l.fn.events l.fn.machine l.machine;
  kept : KeepsTimers l.fn.machine l.machine;
  agree : AllAgree (λ x. x.ids) (λ x. (goal.Native-dyn g (x.native.vtable, x.native.value)).owed x.native.value) l.machine.natives.slots.items;
  unreported : (k : ℕ) → All (λ e. is_for_native e.event k ≡ false) l.fn.events →
      living_at l.machine.natives.slots.items k ≡ living_at l.fn.machine.natives.slots.items k;
  lines : l.lines ≡ l.fn.lines;
  fewer : (l.machine ≡ l.fn.machine) ⊎ (to_come l.fn.events l.machine < to_come l.fn.events l.fn.machine);
}

abbrev pub decreases-loop-event : goal.decreases-loop-event
decreases-loop-event g l = to_come l.fn.events l.machine
