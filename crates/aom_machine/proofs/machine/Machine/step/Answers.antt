use Rattle.std.proofs.Common.{refl, ◌<◌}
use Rattle.aom_machine_state.specs.Stands.{MachineModel}
use Rattle.aom_machine.specs.Steps.{StaysIdle, Stepped, rank}
use Rattle.aom_machine.proofs.Progressing.{stands_again}
use Rattle.aom_machine.proofs.Seen.{seen_as}
use Rattle.aom_image.specs.Image.{Image}
use Rattle.aom_machine.proofs.Agreeing.{agrees_in_all}
use Rattle.aom_machine.proofs.machine.Machine.step.Goals as goal

pub invariant_of-self : goal.invariant_of-self
invariant_of-self c = stands_again _ _ c.step.result c.args.lines.now c.step.new.lines (seen_as (λ (old : MachineModel) (p : Image). Stepped old c.step.result
    c.args.lines.now c.step.new.lines (record { image = p; parts = c.step.new.parts })) c.linked.ensures refl (c.step.ensures.one refl)) c.self.invariant

pub returns-clause-steps : goal.returns-clause-steps
returns-clause-steps c = seen_as (λ (old : MachineModel) (p : Image). Stepped old c.step.result c.args.lines.now c.step.new.lines
    (record { image = p; parts = c.step.new.parts })) c.linked.ensures c.self.view_is (c.step.ensures.one refl)

pub returns-clause-falls : goal.returns-clause-falls
returns-clause-falls c = λ running. seen_as (λ (old : MachineModel) (p : Image). rank (record { image = p; parts = c.step.new.parts }) < rank old) c.linked.ensures
    c.self.view_is (c.step.ensures.falls running)

pub returns-clause-agrees : goal.returns-clause-agrees
returns-clause-agrees c = agrees_in_all _

pub returns-clause-idle : goal.returns-clause-idle
returns-clause-idle c = seen_as (λ (old : MachineModel) (p : Image). StaysIdle old c.args.lines.now c.step.new.lines
    (record { image = p; parts = c.step.new.parts })) c.linked.ensures c.self.view_is c.step.ensures.idle
