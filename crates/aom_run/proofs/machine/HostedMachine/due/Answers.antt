use Rattle.aom_run.proofs.Serving.{completed_so}
use Rattle.aom_run.proofs.machine.HostedMachine.due.Goals as goal

pub returns-clause-completed : goal.returns-clause-completed
returns-clause-completed g c = completed_so c.args.self.now c.due.new.self c.due.ensures.image c.due.result c.due.ensures.completed
