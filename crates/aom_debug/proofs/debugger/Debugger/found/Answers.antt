-- The parts that stand for a state agree with it in all.
use Rattle.aom_debug.proofs.debugger.Debugger.found.Goals as goal

pub object_at-requires-clause-agrees : goal.object_at-requires-clause-agrees
object_at-requires-clause-agrees g c = rw (c.parts.ensures.parts, c.accepted.ensures) c.parts.ensures.agrees

pub returns-in-Some-clause-ok : goal.returns-in-Some-clause-ok
returns-in-Some-clause-ok g c =
    let lives = rw c.parts.ensures.parts at c.in-Some.ensures.lives in
    let found = rw (c.parts.ensures.parts, c.accepted.ensures) at c.in-Some.ensures.found in
    (c.if-self.false, lives, found)

pub returns-in-None-clause-err : goal.returns-in-None-clause-err
returns-in-None-clause-err g c =
    let found = rw (c.parts.ensures.parts, c.accepted.ensures) at c.in-None.ensures.found in
    (c.if-self.false, found)
