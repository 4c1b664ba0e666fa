-- What is there is gone on from; where nothing is, each state lacks it.
use Rattle.std.proofs.Common.{◌∙◌, ap, length}
use Rattle.std.proofs.lemmas.Result.{err_from_is_err_and}
use Rattle.aom_machine_state.specs.declared.parts.Parts.{Parts}
use Rattle.aom_debug.proofs.DebugSteppingLemmas.{keeps_all}
use Rattle.aom_debug.proofs.DebugViewsLemmas.{as_many_tasks}
use Rattle.aom_debug.proofs.Watched.{watches_nothing, watches_so}
use Rattle.aom_debug.proofs.debugger.Debugger.watch.Goals as goal

pub returns-in_err-answer-clause-agree : goal.returns-in_err-answer-clause-agree
returns-in_err-answer-clause-agree g c = c.requires.agree

pub returns-in_err-answer-clause-keeps : goal.returns-in_err-answer-clause-keeps
returns-in_err-answer-clause-keeps g c = keeps_all c.args.self.now.runner c.requires.ready

pub returns-in_err-answer-clause-answer : goal.returns-in_err-answer-clause-answer
returns-in_err-answer-clause-answer g c =
    let e = err_from_is_err_and c.from_residual.result c.from_residual.ensures.1 in
    rw (e.1, e.2) (watches_nothing c.args.variable c.args.self.now _ _ _ c.in_err-answer.ensures.err)

pub run_until-requires-clause-agree : goal.run_until-requires-clause-agree
run_until-requires-clause-agree g c = c.requires.agree

pub run_until-requires-clause-ready : goal.run_until-requires-clause-ready
run_until-requires-clause-ready g c = c.requires.ready

pub returns-clause-agree : goal.returns-clause-agree
returns-clause-agree g c = c.run_until.ensures.agree

pub returns-clause-keeps : goal.returns-clause-keeps
returns-clause-keeps g c = c.run_until.ensures.keeps

pub returns-clause-answer : goal.returns-clause-answer
returns-clause-answer g c =
    let d = c.args.self.now in
    let has = c.in_ok-answer.ensures.ok.1 in
    watches_so c.args.variable d c.run_until.new.self c.in_ok-answer.answer c.len-depth.result has
    (λ s st. c.len-depth.ensures ∙ ap (λ (m : Parts). length m.stack.tasks) c.parts.ensures.parts ∙ as_many_tasks d.runner.machine.core.image d.runner.machine.core.parts s st.stands)
    _ c.run_until.result c.run_until.ensures.answer
