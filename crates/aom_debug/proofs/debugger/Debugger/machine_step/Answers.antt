-- It goes on by its course.
use Rattle.aom_debug.proofs.debugger.Debugger.machine_step.Goals as goal

pub count_on-requires-clause-agree : goal.count_on-requires-clause-agree
count_on-requires-clause-agree g c = c.requires.agree

pub count_on-requires-clause-ready : goal.count_on-requires-clause-ready
count_on-requires-clause-ready g c = c.requires.ready

pub returns-clause-agree : goal.returns-clause-agree
returns-clause-agree g c = c.count_on.ensures.agree

pub returns-clause-keeps : goal.returns-clause-keeps
returns-clause-keeps g c = c.count_on.ensures.keeps

pub returns-clause-answer : goal.returns-clause-answer
returns-clause-answer g c = c.count_on.ensures.answer
