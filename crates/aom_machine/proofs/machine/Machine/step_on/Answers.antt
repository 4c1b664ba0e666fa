use Rattle.std.proofs.Common.{refl, length, ◌<◌, ◌⊎◌}
use Rattle.aom_machine_state.specs.Stands.{MachineModel}
use Rattle.aom_machine.specs.Steps.{StaysIdle, SteppedOn, Wants, rank}
use Rattle.aom_machine.proofs.Many.{stands_on}
use Rattle.aom_machine.proofs.Seen.{seen_as}
use Rattle.aom_image.specs.Image.{Image}
use Rattle.aom_machine.proofs.Agreeing.{agrees_in_all}
use Rattle.aom_machine.proofs.machine.Machine.step_on.Goals as goal

pub invariant_of-self : goal.invariant_of-self
invariant_of-self c = stands_on c.self.inside.accepted.now c.self.inside.parts c.step_on.new.parts c.args.lines.now c.step_on.new.lines
    c.step_on.result c.self.invariant (seen_as (λ (old : MachineModel) (p : Image). SteppedOn old c.step_on.result c.args.lines.now c.step_on.new.lines
    (record { image = p; parts = c.step_on.new.parts })) c.linked.ensures refl (c.step_on.ensures.steps))

pub returns-clause-steps : goal.returns-clause-steps
returns-clause-steps c = seen_as (λ (old : MachineModel) (p : Image). SteppedOn old c.step_on.result c.args.lines.now c.step_on.new.lines
    (record { image = p; parts = c.step_on.new.parts })) c.linked.ensures c.self.view_is (c.step_on.ensures.steps)

pub returns-clause-falls : goal.returns-clause-falls
returns-clause-falls c = λ running. seen_as (λ (old : MachineModel) (p : Image). rank (record { image = p; parts = c.step_on.new.parts }) < rank old)
    c.linked.ensures c.self.view_is (c.step_on.ensures.falls running)

pub returns-clause-agrees : goal.returns-clause-agrees
returns-clause-agrees c = agrees_in_all _

pub returns-clause-reported : goal.returns-clause-reported
returns-clause-reported c = λ running. seen_as (λ (old : MachineModel) (p : Image). (length c.args.lines.now.lines < length c.step_on.new.lines.lines) ⊎
    Wants (record { image = p; parts = c.step_on.new.parts })) c.linked.ensures c.self.view_is (c.step_on.ensures.reported running)

pub returns-clause-idle : goal.returns-clause-idle
returns-clause-idle c = seen_as (λ (old : MachineModel) (p : Image). StaysIdle old c.args.lines.now c.step_on.new.lines
    (record { image = p; parts = c.step_on.new.parts })) c.linked.ensures c.self.view_is c.step_on.ensures.idle
