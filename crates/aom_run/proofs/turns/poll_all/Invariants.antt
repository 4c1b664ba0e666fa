use Rattle.std.proofs.Common.{◌≡◌, List}
use Rattle.aom_run.specs.Calls.{to_poll}
use Rattle.aom_natives.specs.Slots.{AllAgree}
use Rattle.aom_transcript.specs.declared.event.TimedEvent.{TimedEvent}
use Rattle.aom_run.specs.Turns.{NoneHasCome, Settles}
use Rattle.aom_run.proofs.Keeping.{KeepsTimers}
use Rattle.aom_run.proofs.turns.poll_all.Given as goal

abbrev pub invariant-loop : goal.invariant-loop
invariant-loop g l = record {
  settled : (events : List TimedEvent) → NoneHasCome events l.fn.machine → Settles events l.fn.machine l.machine;
  kept : KeepsTimers l.fn.machine l.machine;
  agree : AllAgree (λ x. x.ids) (λ x. (goal.Native-dyn g (x.native.vtable, x.native.value)).owed x.native.value) l.machine.natives.slots.items;
  rest : l.machine.core.parts.rest ≡ record l.fn.machine.core.parts.rest { polled = l.machine.core.parts.rest.polled };
}

abbrev pub decreases-loop : goal.decreases-loop
decreases-loop g l = to_poll l.machine
