-- A place that the numbers name is gone to, and where they name none nothing changes.
use Rattle.std.proofs.Common.{subst, sym}
use Rattle.std.proofs.lemmas.Result.{err_from_is_err_and}
use Rattle.aom_debug.proofs.DebugSteppingLemmas.{keeps_all}
use Rattle.aom_debug.specs.Debugging.{GoesNamed}
use Rattle.aom_debug.proofs.Declining.{no_untils}
use Rattle.aom_debug.proofs.debugger.Debugger.until.Goals as goal

pub returns-in_err-spot-clause-agree : goal.returns-in_err-spot-clause-agree
returns-in_err-spot-clause-agree g c = c.requires.agree

pub returns-in_err-spot-clause-keeps : goal.returns-in_err-spot-clause-keeps
returns-in_err-spot-clause-keeps g c = keeps_all c.args.self.now.runner c.requires.ready

pub returns-in_err-spot-clause-answer : goal.returns-in_err-spot-clause-answer
returns-in_err-spot-clause-answer g c =
    let e = err_from_is_err_and c.from_residual.result c.from_residual.ensures.1 in
    rw (e.1, e.2) (no_untils c.args.self.now _ _ c.args.method c.args.place _ c.in_err-spot.ensures.err)

pub run_until-requires-clause-agree : goal.run_until-requires-clause-agree
run_until-requires-clause-agree g c = c.requires.agree

pub run_until-requires-clause-ready : goal.run_until-requires-clause-ready
run_until-requires-clause-ready g c = c.requires.ready

pub returns-clause-agree : goal.returns-clause-agree
returns-clause-agree g c = c.run_until.ensures.agree

pub returns-clause-keeps : goal.returns-clause-keeps
returns-clause-keeps g c = c.run_until.ensures.keeps

pub returns-clause-answer : goal.returns-clause-answer
returns-clause-answer g c = subst (λ o. GoesNamed o c.args.self.now c.run_until.new.self
    (record { before = g.W.Sink.out c.args.out.now; now = g.W.Sink.out c.run_until.new.out; failed = g.W.Sink.failed c.run_until.new.out }) c.run_until.result)
    (sym c.in_ok-spot.ensures.ok.1) c.run_until.ensures.answer
