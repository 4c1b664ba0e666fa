use Rattle.std.proofs.Common.{◌<◌, ap, subst, refl}
use Rattle.aom_machine_state.specs.Agrees.{observed_by}
use Rattle.aom_machine_state.specs.Stands.{MachineModel as Core}
use Rattle.aom_machine.specs.Steps.{rank}
use Rattle.aom_run.proofs.Stepped.{stays_idle, stepped_on}
use Rattle.aom_run.proofs.machine.HostedMachine.step_on.Goals as goal

pub returns-clause-steps : goal.returns-clause-steps
returns-clause-steps g c = λ s st. (
  observed_by c.ask.new.self.core.parts,
  (c.ask.ensures.asked s st).0,
  stepped_on c.args.self.now s st (record { core = c.step_on.new.self; natives = c.ask.new.self.natives }) c.ask.new.self.core
      (observed_by c.ask.new.self.core.parts) c.step_on.result c.args.lines.now c.step_on.new.lines (ap (λ (m : Core). m.image) c.ask.ensures.core) refl
      (c.ask.ensures.stands s st.stands) c.step_on.ensures.image (c.ask.ensures.asked s st).1 c.step_on.ensures.steps,
)

pub returns-clause-falls : goal.returns-clause-falls
returns-clause-falls g c = λ running. subst (λ r. rank c.step_on.new.self < r) (ap rank c.ask.ensures.core) (c.step_on.ensures.falls running)

pub returns-clause-unasked : goal.returns-clause-unasked
returns-clause-unasked g c = λ s st. (c.ask.ensures.asked s st).1.unasked

pub returns-clause-idle : goal.returns-clause-idle
returns-clause-idle g c = stays_idle c.args.self.now c.ask.new.self _ c.args.lines.now c.step_on.new.lines c.ask.ensures.idle c.step_on.ensures.idle
