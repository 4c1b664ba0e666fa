-- The numbers are those of a place of the machine's image.
use Rattle.std.proofs.Common.{◌∙◌, sym}
use Rattle.aom_debug.proofs.debugger.Debugger.spot.Goals as goal

pub returns-in-Some-clause-ok : goal.returns-in-Some-clause-ok
returns-in-Some-clause-ok g c =
    let named = rw (c.linked.ensures, c.accepted.ensures) at c.spot_named.ensures in
    (c.if-self.false, sym named ∙ c.in-Some.is)

pub returns-in-None-clause-err : goal.returns-in-None-clause-err
returns-in-None-clause-err g c =
    let named = rw (c.linked.ensures, c.accepted.ensures) at c.spot_named.ensures in
    (c.if-self.false, sym named ∙ c.in-None.is)
