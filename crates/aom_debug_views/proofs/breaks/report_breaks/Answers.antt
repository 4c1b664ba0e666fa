-- The lines of all breakpoints are those of the list.
use Rattle.std.proofs.Common.{arith}
use Rattle.std.proofs.lemmas.Result.{err_from_is_err_and}
use Rattle.aom_debug_protocol.specs.declared.answer.Answer.TheVariants.{Break}
use Rattle.aom_debug_views.proofs.Reporting.{item_more, items_all, items_cut}
use Rattle.aom_debug_views.proofs.breaks.report_breaks.Goals as goal

pub returns-in_err-report_any_by-clause-err : goal.returns-in_err-report_any_by-clause-err
returns-in_err-report_any_by-clause-err g c =
    let error = err_from_is_err_and c.from_residual.result c.from_residual.ensures.1 in
    rw (error.1, error.2) (items_cut c.args.names.now (λ b. Break b) c.args.breakpoints.now c.loop-index.index _ _ _ _ _ _
    (omega (arith, c.loop-index-test.true, c.count-index-end.ensures)) c.loop-index.invariant c.break_answer.ensures c.in_err-report_any_by.ensures.err)

pub loop-index-preserved : goal.loop-index-preserved
loop-index-preserved g c = item_more c.args.names.now (λ b. Break b) c.args.breakpoints.now c.loop-index.index _ _ _ _
    c.loop-index.invariant c.break_answer.ensures c.in_ok-report_any_by.ensures.ok

pub returns-clause-ok : goal.returns-clause-ok
returns-clause-ok g c = items_all c.args.names.now (λ b. Break b) c.args.breakpoints.now c.loop-index.index _ _
    (omega (arith, c.count-index-end.ensures, c.loop-index.auto.index-end, c.loop-index-test.false)) c.loop-index.invariant
