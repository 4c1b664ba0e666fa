-- A native is killed.
use Rattle.std.proofs.Common.{refl, ap, length, subst, ◌≡◌}
use Rattle.aom_semantics.specs.State.{State}
use Rattle.aom_semantics.specs.World.{Kills}
use Rattle.aom_machine_state.specs.Stands.{MachineModel, Refines}
use Rattle.aom_machine.specs.Steps.{timers}
use Rattle.aom_machine.specs.Turns.{Takes}
use Rattle.aom_machine.proofs.Seen.{seen_as}
use Rattle.aom_image.specs.Image.{Image}
use Rattle.aom_machine.proofs.Agreeing.{agrees_in_all}
use Rattle.aom_machine.proofs.machine.Machine.kill.Goals as goal

pub invariant_of-self : goal.invariant_of-self
invariant_of-self c = let killed = seen_as (λ (old : MachineModel) (p : Image). (s : State) → Refines old s → Takes old s
    (Kills c.args.native) c.args.lines.now c.kill.new.lines (record { image = p; parts = c.kill.new.parts })) c.linked.ensures refl c.kill.ensures.killed in
    let t = killed c.self.invariant.0 c.self.invariant.1 in
    (t.state, t.stands)

pub returns-clause-killed : goal.returns-clause-killed
returns-clause-killed c = seen_as (λ (old : MachineModel) (p : Image). (s : State) → Refines old s → Takes old s (Kills c.args.native)
    c.args.lines.now c.kill.new.lines (record { image = p; parts = c.kill.new.parts })) c.linked.ensures c.self.view_is c.kill.ensures.killed

pub returns-clause-timers : goal.returns-clause-timers
returns-clause-timers c = subst (λ (old : MachineModel). timers (record { image = c.self.inside.accepted.now; parts = c.kill.new.parts }) ≡ timers old)
    c.self.view_is (ap length c.kill.ensures.timers)

pub returns-clause-agrees : goal.returns-clause-agrees
returns-clause-agrees c = agrees_in_all _
