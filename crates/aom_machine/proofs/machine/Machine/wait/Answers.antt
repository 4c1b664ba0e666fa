-- Where nothing is due and nothing signals, the run is over.
use Rattle.aom_machine.proofs.Turning.{waits_ends}
use Rattle.aom_machine.proofs.Agreeing.{agrees_in_all}
use Rattle.aom_machine.proofs.machine.Machine.wait.Goals as goal

pub invariant_of-self : goal.invariant_of-self
invariant_of-self c = rw c.wait.ensures (waits_ends c.self.inside.accepted.now c.self.inside.parts _ c.self.view_is c.requires c.self.invariant).1

pub returns-clause-waited : goal.returns-clause-waited
returns-clause-waited c = rw c.wait.ensures (waits_ends c.self.inside.accepted.now c.self.inside.parts _ c.self.view_is c.requires c.self.invariant).0

pub returns-clause-agrees : goal.returns-clause-agrees
returns-clause-agrees c = agrees_in_all _
