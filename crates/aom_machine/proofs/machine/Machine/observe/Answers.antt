use Rattle.std.proofs.Common.{ap, subst, sym}
use Rattle.std.specs.Int.{w32}
use Rattle.std.proofs.lemmas.Int.{to_z-of_z}
use Rattle.aom_machine_state.specs.Stands.{MachineModel, Refines}
use Rattle.aom_machine.proofs.Wanting.{observed_stands}
use Rattle.aom_machine.proofs.Agreeing.{agrees_in_all}
use Rattle.aom_machine.proofs.machine.Machine.observe.Goals as goal

pub invariant_of-self : goal.invariant_of-self
invariant_of-self c = rw (to_z-of_z w32 c.args.answer c.ranges.answer)
    (c.self.invariant.0, observed_stands c.self.inside.accepted.now c.self.inside.parts c.args.answer c.self.invariant.0 c.self.invariant.1)

pub returns-clause-stands : goal.returns-clause-stands
returns-clause-stands c = rw (to_z-of_z w32 c.args.answer c.ranges.answer)
    (λ s st. observed_stands c.self.inside.accepted.now c.self.inside.parts c.args.answer s (subst (λ (x : MachineModel). Refines x s) (sym c.self.view_is) st))

pub returns-clause-agrees : goal.returns-clause-agrees
returns-clause-agrees c = agrees_in_all _

pub returns-clause-observed : goal.returns-clause-observed
returns-clause-observed c =
    rw (to_z-of_z w32 c.args.answer c.ranges.answer) (ap (λ (x : MachineModel). record x { parts = record x.parts { observed = c.args.answer } }) c.self.view_is)
