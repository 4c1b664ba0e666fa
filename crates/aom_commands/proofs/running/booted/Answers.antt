-- A machine that boots has just the natives that it was given.
use Rattle.aom_commands.proofs.Tries.{fresh_so, given_all, has_enough}
use Rattle.aom_commands.proofs.running.booted.Goals as goal

pub returns-in-Ok-clause-fresh : goal.returns-in-Ok-clause-fresh
returns-in-Ok-clause-fresh g c = (c.in-Ok.ensures.image, fresh_so c.args.accepted.now c.in-Ok.machine c.in-Ok.ensures.image c.in-Ok.ensures.stands)

pub returns-in-Ok-clause-natives : goal.returns-in-Ok-clause-natives
returns-in-Ok-clause-natives g c = given_all (λ l. l.native) c.in-Ok.machine.natives.slots.items c.args.boxes.items c.in-Ok.ensures.boxes

pub returns-in-Ok-clause-enough : goal.returns-in-Ok-clause-enough
returns-in-Ok-clause-enough g c =
    let machine = c.in-Ok.machine in
    has_enough _ machine _ c.in-Ok.ensures.image (given_all (λ l. l.native) _ c.args.boxes.items c.in-Ok.ensures.boxes) c.in-Ok.ensures.stands
