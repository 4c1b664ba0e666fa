-- The parts that stand for a state agree with it in all.
use Rattle.std.proofs.Common.{sym}
use Rattle.aom_debug.proofs.debugger.Debugger.value_of.Goals as goal

pub variable_at-requires-clause-agrees : goal.variable_at-requires-clause-agrees
variable_at-requires-clause-agrees g c = rw (c.parts.ensures.parts, c.accepted.ensures) c.parts.ensures.agrees

pub returns-in-Some-clause-ok : goal.returns-in-Some-clause-ok
returns-in-Some-clause-ok g c =
    let has = rw (c.parts.ensures.parts, c.accepted.ensures) at c.in-Some.ensures in
    (c.if-self.false, λ t strongest s st. sym (has t strongest s st))

pub returns-in-None-clause-err : goal.returns-in-None-clause-err
returns-in-None-clause-err g c =
    let has = rw (c.parts.ensures.parts, c.accepted.ensures) at c.in-None.ensures in
    (c.if-self.false, λ t strongest s st. sym (has t strongest s st))
