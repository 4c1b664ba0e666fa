-- Where the limit is reached, the run is over.
use Rattle.aom_machine.proofs.Turning.{cut_ends}
use Rattle.aom_machine.proofs.Agreeing.{agrees_in_all}
use Rattle.aom_machine.proofs.machine.Machine.cut.Goals as goal

pub invariant_of-self : goal.invariant_of-self
invariant_of-self c = rw c.cut.ensures (cut_ends c.self.inside.accepted.now c.self.inside.parts _ c.self.view_is c.requires c.self.invariant).1

pub returns-clause-cut : goal.returns-clause-cut
returns-clause-cut c = rw c.cut.ensures (cut_ends c.self.inside.accepted.now c.self.inside.parts _ c.self.view_is c.requires c.self.invariant).0

pub returns-clause-agrees : goal.returns-clause-agrees
returns-clause-agrees c = agrees_in_all _
