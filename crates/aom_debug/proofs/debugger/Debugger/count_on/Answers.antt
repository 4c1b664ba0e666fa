-- So many are asked for by their course, and no others.
use Rattle.std.proofs.Common.{arith}
use Rattle.aom_debug.proofs.DebugSteppingLemmas.{keeps_all}
use Rattle.aom_debug.proofs.Declining.{counts}
use Rattle.aom_debug.proofs.debugger.Debugger.count_on.Goals as goal

pub returns-then-self-clause-agree : goal.returns-then-self-clause-agree
returns-then-self-clause-agree g c = c.requires.agree

pub returns-then-self-clause-keeps : goal.returns-then-self-clause-keeps
returns-then-self-clause-keeps g c = keeps_all c.args.self.now.runner c.requires.ready

pub run_until-requires-clause-agree : goal.run_until-requires-clause-agree
run_until-requires-clause-agree g c = c.requires.agree

pub run_until-requires-clause-ready : goal.run_until-requires-clause-ready
run_until-requires-clause-ready g c = c.requires.ready

pub returns-clause-agree : goal.returns-clause-agree
returns-clause-agree g c = c.run_until.ensures.agree

pub returns-clause-keeps : goal.returns-clause-keeps
returns-clause-keeps g c = c.run_until.ensures.keeps

pub returns-clause-answer : goal.returns-clause-answer
returns-clause-answer g c = counts c.args.steps _ _ (omega arith) (omega arith) c.run_until.ensures.answer
