-- What was told is what each state shows.
use Rattle.aom_debug.specs.Debugging.{Sees}
use Rattle.aom_debug.proofs.DebugSteppingLemmas.{keeps_all}
use Rattle.aom_debug.proofs.Answering.{looked}
use Rattle.aom_debug.proofs.Declining.{kept_runner}
use Rattle.aom_debug.proofs.debugger.Debugger.inspect.Goals as goal

pub returns-clause-answer : goal.returns-clause-answer
returns-clause-answer g c = looked (Sees c.args.inspect) c.args.self.now c.kept.new.self
    (g.W.Sink.out c.args.out.now) (g.W.Sink.out c.show-reported.new.out) (g.W.Sink.failed c.show-reported.new.out) c.show-reported.result c.kept.result
    c.if-self.false c.kept.ensures.answer c.kept.ensures.ok c.kept.ensures.err c.show-reported.ensures.ok c.show-reported.ensures.err

pub returns-then-self-clause-agree : goal.returns-then-self-clause-agree
returns-then-self-clause-agree g c = c.requires.agree

pub returns-then-self-clause-keeps : goal.returns-then-self-clause-keeps
returns-then-self-clause-keeps g c = keeps_all c.args.self.now.runner c.requires.ready

pub returns-clause-agree : goal.returns-clause-agree
returns-clause-agree g c = rw (kept_runner c.args.self.now c.kept.new.self c.show-reported.result c.kept.ensures.ok c.kept.ensures.err) c.requires.agree

pub returns-clause-keeps : goal.returns-clause-keeps
returns-clause-keeps g c =
    rw (kept_runner c.args.self.now c.kept.new.self c.show-reported.result c.kept.ensures.ok c.kept.ensures.err) (keeps_all c.args.self.now.runner c.requires.ready)
