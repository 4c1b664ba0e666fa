use Rattle.aom_run.proofs.Serving.{passed_so}
use Rattle.aom_run.proofs.machine.HostedMachine.set_clock.Goals as goal

pub returns-clause-passed : goal.returns-clause-passed
returns-clause-passed g c = passed_so c.args.self.now c.set_clock.new.self c.set_clock.ensures.image c.args.time c.set_clock.ensures.passed
