-- A line without words, one that is bad, and a command.
use Rattle.std.proofs.lemmas.Result.{IfErr-weaker, IfOk-weaker}
use Rattle.aom_debug.proofs.ExecutingLines.{observed_fault, observed_fault_part, observed_nothing}
use Rattle.aom_debug.proofs.session_loop.execute.Goals as goal

pub returns-in-None-clause-ok : goal.returns-in-None-clause-ok
returns-in-None-clause-ok g c =
    rw (c.in-Ok.is, c.in-None.is) (observed_nothing c.args.debugger.now (g.W.Sink.out c.args.out.now) (g.W.Sink.failed c.args.out.now) c.requires.well)

pub returns-in-Some-clause-ok : goal.returns-in-Some-clause-ok
returns-in-Some-clause-ok g c = rw (c.in-Ok.is, c.in-Some.is) c.command_done.ensures.ok

pub returns-in-Some-clause-err : goal.returns-in-Some-clause-err
returns-in-Some-clause-err g c = rw (c.in-Ok.is, c.in-Some.is) c.command_done.ensures.err

pub returns-in-Err-clause-ok : goal.returns-in-Err-clause-ok
returns-in-Err-clause-ok g c = rw c.in-Err.is (IfOk-weaker c.report_fault.result _ _ (λ done out. observed_fault c.args.debugger.now c.in-Err.fault
    (g.W.Sink.out c.args.out.now) (g.W.Sink.out c.report_fault.new.out) (g.W.Sink.failed c.report_fault.new.out) c.requires.well out) c.report_fault.ensures.ok)

pub returns-in-Err-clause-err : goal.returns-in-Err-clause-err
returns-in-Err-clause-err g c = rw c.in-Err.is (IfErr-weaker c.report_fault.result _ _
    (λ why cut. (cut.0, observed_fault_part c.args.debugger.now c.in-Err.fault (g.W.Sink.out c.args.out.now) (g.W.Sink.out c.report_fault.new.out) (g.W.Sink.failed c.report_fault.new.out) cut.1))
    c.report_fault.ensures.err)
