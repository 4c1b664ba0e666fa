-- The timer that is due first completes the request of its object.
use Rattle.std.proofs.Common.{subst}
use Rattle.aom_machine_state.specs.Stands.{MachineModel}
use Rattle.aom_machine.specs.Turns.{Completed}
use Rattle.aom_machine.proofs.Turning.{completed_again}
use Rattle.aom_machine.proofs.Agreeing.{agrees_in_all}
use Rattle.aom_machine.proofs.machine.Machine.due.Goals as goal

pub due-requires-clause-stands : goal.due-requires-clause-stands
due-requires-clause-stands c = (c.self.inside.accepted.now, c.self.invariant)

pub invariant_of-self : goal.invariant_of-self
invariant_of-self c =
    let p = c.self.inside.accepted.now in
    completed_again (record { image = p; parts = c.self.inside.parts }) (record { image = p; parts = c.due.new.parts }) c.due.result
    (c.due.ensures.completed p) c.self.invariant

pub returns-clause-completed : goal.returns-clause-completed
returns-clause-completed c =
    let p = c.self.inside.accepted.now in
    subst (λ (m : MachineModel). Completed m c.due.result (record { image = p; parts = c.due.new.parts })) c.self.view_is (c.due.ensures.completed p)

pub returns-clause-agrees : goal.returns-clause-agrees
returns-clause-agrees c = agrees_in_all _
