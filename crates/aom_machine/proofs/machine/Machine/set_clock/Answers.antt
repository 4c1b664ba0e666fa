-- Time passes.
use Rattle.aom_machine.proofs.Turning.{passes_time}
use Rattle.aom_machine.proofs.Agreeing.{agrees_in_all}
use Rattle.aom_machine.proofs.machine.Machine.set_clock.Goals as goal

pub invariant_of-self : goal.invariant_of-self
invariant_of-self c = rw c.set_clock.ensures
    (passes_time c.self.inside.accepted.now c.self.inside.parts _ c.self.view_is c.requires.between c.self.invariant c.args.time).1

pub returns-clause-passed : goal.returns-clause-passed
returns-clause-passed c =
    rw c.set_clock.ensures (passes_time c.self.inside.accepted.now c.self.inside.parts _ c.self.view_is c.requires.between c.self.invariant c.args.time).0

pub returns-clause-agrees : goal.returns-clause-agrees
returns-clause-agrees c = agrees_in_all _
