use Rattle.aom_machine.proofs.Agreeing.{agrees_in_all}
use Rattle.aom_machine.proofs.machine.Machine.parts.Goals as goal

pub returns-clause-agrees : goal.returns-clause-agrees
returns-clause-agrees c = agrees_in_all _
