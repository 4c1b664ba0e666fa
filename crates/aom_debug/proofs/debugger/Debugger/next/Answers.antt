-- It goes on by its course.
use Rattle.aom_debug.proofs.debugger.Debugger.next.Goals as goal

pub run_until-requires-clause-agree : goal.run_until-requires-clause-agree
run_until-requires-clause-agree g c = c.requires.agree

pub run_until-requires-clause-ready : goal.run_until-requires-clause-ready
run_until-requires-clause-ready g c = c.requires.ready

pub returns-clause-agree : goal.returns-clause-agree
returns-clause-agree g c = c.run_until.ensures.agree

pub returns-clause-keeps : goal.returns-clause-keeps
returns-clause-keeps g c = c.run_until.ensures.keeps

pub returns-clause-answer : goal.returns-clause-answer
returns-clause-answer g c = rw c.next_course-course.ensures at c.run_until.ensures.answer
