-- A debugger is ready where its machine stands for a state, its buffer is empty and has room, and nothing is marked yet.
use Rattle.std.proofs.Common.{arith, refl}
use Rattle.aom_debug.proofs.debugger.Debugger.new.Goals as goal

pub returns-in-Ok-clause-agree : goal.returns-in-Ok-clause-agree
returns-in-Ok-clause-agree g c = c.requires.agree

pub returns-in-Ok-clause-ready : goal.returns-in-Ok-clause-ready
returns-in-Ok-clause-ready g c =
    let fits = c.ranges.limit.fits in
    record { stands = c.requires.stands; none = c.requires.lines.0; room = c.requires.lines.1; timely = c.requires.timely; few = omega (arith, fits) }

pub returns-in-Ok-clause-marks : goal.returns-in-Ok-clause-marks
returns-in-Ok-clause-marks g c = (c.new-in-Ok.ensures, c.in-Ok.ensures, refl)
