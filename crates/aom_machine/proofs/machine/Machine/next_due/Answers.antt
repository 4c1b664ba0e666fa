-- The first timer of the machine is that of the checked machine.
use Rattle.std.proofs.Common.{subst, ◌≡◌}
use Rattle.aom_semantics.specs.State.{State}
use Rattle.aom_semantics.specs.World.{due_of, first_due}
use Rattle.aom_machine_state.specs.Stands.{MachineModel, Refines}
use Rattle.aom_machine.proofs.Turning.{next_due_reported}
use Rattle.aom_machine.proofs.machine.Machine.next_due.Goals as goal

pub returns : goal.returns
returns c =
    let m : MachineModel = record { image = c.self.inside.accepted.now; parts = c.self.inside.parts } in
    subst (λ (n : MachineModel). (s : State) → Refines n s → c.next_due.result ≡ due_of (first_due s.cells)) c.self.view_is
    (λ s st. next_due_reported m c.next_due.result c.next_due.ensures.next s st)
