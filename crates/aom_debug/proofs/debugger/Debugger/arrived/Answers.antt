use Rattle.aom_debug.proofs.DebugSteppingLemmas.{if_any}
use Rattle.aom_debug.proofs.Answering.{shown}
use Rattle.aom_debug.proofs.debugger.Debugger.arrived.Goals as goal

pub returns-in-Some-clause-some : goal.returns-in-Some-clause-some
returns-in-Some-clause-some g c = if_any c.args.went (shown c.args.self.now c.kept.new.self
    (record { before = g.W.Sink.out c.args.out.now; now = g.W.Sink.out c.report_place-reported.new.out; failed = g.W.Sink.failed c.report_place-reported.new.out })
    c.report_place-reported.result c.kept.result c.kept.ensures.answer c.kept.ensures.ok c.kept.ensures.err
    c.report_place-reported.ensures.ok c.report_place-reported.ensures.err)
