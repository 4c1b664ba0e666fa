-- An event comes.
use Rattle.aom_machine.proofs.Turning.{observes_one, stands_back}
use Rattle.aom_machine.proofs.Agreeing.{agrees_in_all}
use Rattle.aom_machine.proofs.machine.Machine.observe_event.Goals as goal

pub invariant_of-self : goal.invariant_of-self
invariant_of-self c = rw c.deliver.ensures (observes_one c.self.inside.accepted.now c.self.inside.parts _ c.self.view_is c.requires.between c.self.invariant).1

pub returns-clause-observed : goal.returns-clause-observed
returns-clause-observed c = rw c.deliver.ensures (observes_one c.self.inside.accepted.now c.self.inside.parts _ c.self.view_is c.requires.between c.self.invariant).0

pub returns-clause-back : goal.returns-clause-back
returns-clause-back c = rw c.deliver.ensures (stands_back c.self.inside.accepted.now c.self.inside.parts _ c.self.view_is c.requires.between c.self.invariant)

pub returns-clause-agrees : goal.returns-clause-agrees
returns-clause-agrees c = agrees_in_all _
