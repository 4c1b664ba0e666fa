-- What was told is what each state shows of the variable; where nothing was, each state lacks it.
use Rattle.std.proofs.lemmas.Result.{err_from_is_err_and}
use Rattle.aom_debug.proofs.DebugSteppingLemmas.{keeps_all}
use Rattle.aom_debug.specs.Printing.{SeesVariable}
use Rattle.aom_debug.proofs.Answering.{looked}
use Rattle.aom_debug.proofs.Declining.{kept_runner}
use Rattle.aom_debug.proofs.Printed.{prints_nothing, prints_so, value_part, value_seen}
use Rattle.aom_debug.proofs.debugger.Debugger.print.Goals as goal

pub returns-in_err-answer-clause-agree : goal.returns-in_err-answer-clause-agree
returns-in_err-answer-clause-agree g c = c.requires.agree

pub returns-in_err-answer-clause-keeps : goal.returns-in_err-answer-clause-keeps
returns-in_err-answer-clause-keeps g c = keeps_all c.args.self.now.runner c.requires.ready

pub returns-in_err-answer-clause-answer : goal.returns-in_err-answer-clause-answer
returns-in_err-answer-clause-answer g c =
    let e = err_from_is_err_and c.from_residual.result c.from_residual.ensures.1 in
    rw (e.1, e.2) (prints_nothing c.args.variable c.args.self.now _ _ _ c.in_err-answer.ensures.err)

pub returns-clause-agree : goal.returns-clause-agree
returns-clause-agree g c = rw (kept_runner c.args.self.now c.kept.new.self c.report_by-reported.result c.kept.ensures.ok c.kept.ensures.err) c.requires.agree

pub returns-clause-keeps : goal.returns-clause-keeps
returns-clause-keeps g c = rw (kept_runner c.args.self.now c.kept.new.self c.report_by-reported.result c.kept.ensures.ok c.kept.ensures.err)
    (keeps_all c.args.self.now.runner c.requires.ready)

pub returns-clause-answer : goal.returns-clause-answer
returns-clause-answer g c =
    let d = c.args.self.now in
    let v = c.args.variable in
    let x = c.in_ok-answer.answer in
    let has = c.in_ok-answer.ensures.ok.1 in
    let reported = c.report_by-reported in
    prints_so v d c.kept.new.self _ c.kept.result (looked (SeesVariable v) d c.kept.new.self (g.W.Sink.out c.args.out.now)
    (g.W.Sink.out reported.new.out) (g.W.Sink.failed reported.new.out) reported.result c.kept.result c.in_ok-answer.ensures.ok.0
    c.kept.ensures.answer c.kept.ensures.ok c.kept.ensures.err (value_seen v d x has _ _ reported.result reported.ensures.ok)
    (value_part v d x has _ _ _ reported.result reported.ensures.err))
