-- What a machine stands for is within what is declared of the dispatch.
use Rattle.std.proofs.Common.{◌≤◌, subst}
use Rattle.aom_semantics.specs.State.{State}
use Rattle.aom_termination.specs.BudgetOwners.{declared_of, budget_owner}
use Rattle.aom_machine_state.specs.Stands.{MachineModel, Refines}
use Rattle.aom_machine.proofs.Progressing.{steps_within}
use Rattle.aom_machine.proofs.machine.Machine.steps.Goals as goal

pub returns-clause-within : goal.returns-clause-within
returns-clause-within c =
    let m : MachineModel = record { image = c.self.inside.accepted.now; parts = c.self.inside.parts } in
    rw c.steps.ensures (subst (λ (n : MachineModel). (s : State) → Refines n s → m.parts.rest.steps ≤ declared_of n.image (budget_owner s.tasks)) c.self.view_is
    (λ s st. steps_within m s st))
