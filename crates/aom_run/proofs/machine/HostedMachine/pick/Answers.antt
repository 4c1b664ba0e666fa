use Rattle.aom_run.proofs.Serving.{picked_so}
use Rattle.aom_run.proofs.machine.HostedMachine.pick.Goals as goal

pub returns-clause-picked : goal.returns-clause-picked
returns-clause-picked g c = picked_so c.args.self.now c.pick.new.self c.pick.ensures.image c.pick.result c.args.lines.now c.pick.new.lines c.pick.ensures.picked
