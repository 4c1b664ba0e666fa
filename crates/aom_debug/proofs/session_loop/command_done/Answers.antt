-- A command that is done, refused or cut.
use Rattle.std.proofs.Common.{Err, refl, subst}
use Rattle.std.proofs.lemmas.Result.{IfErr-weaker, IfOk-weaker}
use Rattle.aom_debug.specs.Executing.{Executes}
use Rattle.aom_debug.proofs.ExecutingLines.{observed_cut, observed_done, observed_refused, observed_refused_part}
use Rattle.aom_debug.proofs.session_loop.command_done.Goals as goal

pub returns-in-Ok-clause-ok : goal.returns-in-Ok-clause-ok
returns-in-Ok-clause-ok g c = observed_done c.args.debugger.now c.execute.new.self c.args.command c.requires.well
    (g.W.Sink.out c.args.out.now) (g.W.Sink.out c.execute.new.out) (g.W.Sink.failed c.execute.new.out) c.in-Ok.ensures.answer

pub returns-in-WriteFault-clause-err : goal.returns-in-WriteFault-clause-err
returns-in-WriteFault-clause-err g c = (
  refl,
  observed_cut c.args.debugger.now c.execute.new.self c.args.command c.requires.well (g.W.Sink.out c.args.out.now)
      (g.W.Sink.out c.execute.new.out) (g.W.Sink.failed c.execute.new.out) (subst (λ f. Executes c.args.command c.args.debugger.now c.execute.new.self
      (record { before = g.W.Sink.out c.args.out.now; now = g.W.Sink.out c.execute.new.out; failed = g.W.Sink.failed c.execute.new.out }) (Err f)) c.in-WriteFault.is
      c.in-Err.ensures.answer),
)

pub returns-in_default-clause-ok : goal.returns-in_default-clause-ok
returns-in_default-clause-ok g c =
    let before = g.W.Sink.out c.args.out.now in
    let mid = g.W.Sink.out c.execute.new.out in
    let now = g.W.Sink.out c.report_fault.new.out in
    IfOk-weaker c.report_fault.result _ _ (λ done out.
    observed_refused c.args.debugger.now c.execute.new.self c.args.command c.requires.well before mid
    (g.W.Sink.failed c.execute.new.out) c.in-Err.fault c.in_default.not-WriteFault c.in-Err.ensures.answer now (g.W.Sink.failed c.report_fault.new.out)
    out)
    c.report_fault.ensures.ok

pub returns-in_default-clause-err : goal.returns-in_default-clause-err
returns-in_default-clause-err g c =
    let before = g.W.Sink.out c.args.out.now in
    let mid = g.W.Sink.out c.execute.new.out in
    let now = g.W.Sink.out c.report_fault.new.out in
    let then = g.W.Sink.failed c.report_fault.new.out in
    IfErr-weaker c.report_fault.result _ _ (λ why cut. (
      cut.0,
      observed_refused_part c.args.debugger.now c.execute.new.self c.args.command c.requires.well before mid
          (g.W.Sink.failed c.execute.new.out) c.in-Err.fault c.in_default.not-WriteFault c.in-Err.ensures.answer now then cut.1,
    )) c.report_fault.ensures.err
