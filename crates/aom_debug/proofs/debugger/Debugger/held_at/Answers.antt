-- The parts that stand for a state agree with it in all.
use Rattle.aom_debug.proofs.debugger.Debugger.held_at.Goals as goal

pub held_at-requires-clause-agrees : goal.held_at-requires-clause-agrees
held_at-requires-clause-agrees g c = rw (c.parts.ensures.parts, c.accepted.ensures) c.parts.ensures.agrees

pub returns : goal.returns
returns g c = rw (c.parts.ensures.parts, c.accepted.ensures) at c.held_at.ensures
