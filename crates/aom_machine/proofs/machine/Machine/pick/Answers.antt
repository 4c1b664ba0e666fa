-- The ready object that goes before all others is dispatched.
use Rattle.std.proofs.Common.{refl}
use Rattle.aom_machine_state.specs.Stands.{MachineModel}
use Rattle.aom_machine.specs.Turns.{Picked}
use Rattle.aom_machine.proofs.Turning.{picked_again}
use Rattle.aom_machine.proofs.Seen.{seen_as}
use Rattle.aom_image.specs.Image.{Image}
use Rattle.aom_machine.proofs.Agreeing.{agrees_in_all}
use Rattle.aom_machine.proofs.machine.Machine.pick.Goals as goal

pub invariant_of-self : goal.invariant_of-self
invariant_of-self c = picked_again _ _ c.pick.result c.args.lines.now c.pick.new.lines (seen_as (λ (old : MachineModel) (p : Image). Picked
    old c.pick.result c.args.lines.now c.pick.new.lines (record { image = p; parts = c.pick.new.parts })) c.linked.ensures refl c.pick.ensures) c.self.invariant

pub returns-clause-picked : goal.returns-clause-picked
returns-clause-picked c = seen_as (λ (old : MachineModel) (p : Image). Picked old c.pick.result c.args.lines.now c.pick.new.lines
    (record { image = p; parts = c.pick.new.parts })) c.linked.ensures c.self.view_is c.pick.ensures

pub returns-clause-agrees : goal.returns-clause-agrees
returns-clause-agrees c = agrees_in_all _
