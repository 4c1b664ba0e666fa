use Rattle.std.proofs.Common.{◌<◌, ap, subst, refl}
use Rattle.aom_machine_state.specs.Agrees.{observed_by}
use Rattle.aom_machine_state.specs.Stands.{MachineModel as Core}
use Rattle.aom_machine.specs.Steps.{rank}
use Rattle.aom_run.proofs.Stepped.{stays_idle, stepped_once}
use Rattle.aom_run.proofs.machine.HostedMachine.step.Goals as goal

pub returns-clause-steps : goal.returns-clause-steps
returns-clause-steps g c = λ s st. (
  observed_by c.ask.new.self.core.parts,
  (c.ask.ensures.asked s st).0,
  stepped_once c.args.self.now s st
      (record { core = c.step.new.self; natives = c.ask.new.self.natives }) _ _ _ _ _ (ap (λ (m : Core). m.image) c.ask.ensures.core) refl
      (c.ask.ensures.stands s st.stands) c.step.ensures.image (c.ask.ensures.asked s st).1 c.step.ensures.steps,
)

pub returns-clause-falls : goal.returns-clause-falls
returns-clause-falls g c = λ running. subst (λ r. rank c.step.new.self < r) (ap rank c.ask.ensures.core) (c.step.ensures.falls running)

pub returns-clause-unasked : goal.returns-clause-unasked
returns-clause-unasked g c = λ s st. (c.ask.ensures.asked s st).1.unasked

pub returns-clause-idle : goal.returns-clause-idle
returns-clause-idle g c = stays_idle c.args.self.now c.ask.new.self c.step.new.self c.args.lines.now c.step.new.lines c.ask.ensures.idle c.step.ensures.idle
