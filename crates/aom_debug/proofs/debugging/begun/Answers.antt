-- A machine that has booted is as fresh as its debugger.
use Rattle.std.proofs.Common.{arith, ap, refl, ◌+◌}
use Rattle.aom_image.specs.Image.{Image}
use Rattle.aom_machine_state.specs.LineBuffer.{step_lines}
use Rattle.aom_run.specs.Calls.{natives_of}
use Rattle.aom_semantics.specs.World.{boot_state}
use Rattle.aom_debug.proofs.Starting.{begun_of}
use Rattle.aom_debug.proofs.debugging.begun.Goals as goal

pub new-requires-clause-agree : goal.new-requires-clause-agree
new-requires-clause-agree g c = c.requires.agree

pub new-requires-clause-stands : goal.new-requires-clause-stands
new-requires-clause-stands g c = (boot_state c.args.accepted.now, c.requires.stands)

pub new-requires-clause-timely : goal.new-requires-clause-timely
new-requires-clause-timely g c = c.requires.timely

pub new-requires-clause-lines : goal.new-requires-clause-lines
new-requires-clause-lines g c =
    let room = c.in-Ok.ensures.room in
    let same = ap (λ (q : Image). 64 + step_lines q.header.messages) c.requires.image in
    (c.in-Ok.ensures.lines, omega (arith, room, same))

pub returns-in-Ok-new-clause-agree : goal.returns-in-Ok-new-clause-agree
returns-in-Ok-new-clause-agree g c = c.in-Ok-new.ensures.agree

pub returns-in-Ok-new-clause-ready : goal.returns-in-Ok-new-clause-ready
returns-in-Ok-new-clause-ready g c = c.in-Ok-new.ensures.ready

pub returns-in-Ok-new-clause-begun : goal.returns-in-Ok-new-clause-begun
returns-in-Ok-new-clause-begun g c =
    let machine = c.args.machine in
    let new = c.in-Ok-new.ensures in
    begun_of c.args.names c.args.accepted.now c.args.script c.args.limit (natives_of machine)
    machine c.requires.image c.requires.stands refl c.in-Ok-new.debugger _ new.machine new.given c.in-Ok.ensures.refused new.marks new.names
