-- One item after another is told, from the lowest.
use Rattle.std.proofs.Common.{ℕ, List, ap, arith, length}
use Rattle.std.proofs.lemmas.Result.{err_from_is_err_and}
use Rattle.aom_semantics.specs.Owned.{over}
use Rattle.aom_semantics.specs.State.{State}
use Rattle.aom_debug_protocol.specs.declared.answer.Answer.{Answer}
use Rattle.aom_debug_views.specs.CellViews.{item_answer}
use Rattle.aom_debug_views.specs.Reporting.{listed}
use Rattle.aom_debug_views.proofs.Showing.{as_many_items}
use Rattle.aom_debug_views.proofs.Reporting.{of_answer, reports_all, reports_next, reports_part}
use Rattle.aom_debug_views.proofs.cleanup.report_cleanup.Goals as goal

abbrev reported : State → ℕ → List Answer
reported s height = listed (item_answer s.cells height (over s.items height))

pub returns-in_err-report_any_by-clause-err : goal.returns-in_err-report_any_by-clause-err
returns-in_err-report_any_by-clause-err g c =
    let error = err_from_is_err_and c.from_residual.result c.from_residual.ensures.1 in
    let parts = c.args.parts.now in
    rw (error.1, error.2) (λ p. reports_part (of_answer c.args.names.now) (record { image = p; parts = parts }) reported (λ s. length s.items) _ _ _ _ _ _ _
    (c.loop-height.invariant p) (λ s st. ap listed (c.item_answer.ensures p s st)) (λ s st. let within = c.loop-height-test.true in
    let count = c.len-height-end.ensures.value in let many = as_many_items p parts s st in omega (arith, within, count, many)) c.in_err-report_any_by.ensures.err)

pub loop-height-preserved : goal.loop-height-preserved
loop-height-preserved g c = λ p. reports_next (of_answer c.args.names.now) (record { image = p; parts = c.args.parts.now }) reported _ _ _ _ _
    (c.loop-height.invariant p) (λ s st. ap listed (c.item_answer.ensures p s st)) c.in_ok-report_any_by.ensures.ok

pub returns-clause-ok : goal.returns-clause-ok
returns-clause-ok g c =
    let parts = c.args.parts.now in
    λ p. reports_all (of_answer c.args.names.now) (record { image = p; parts = parts }) reported
    (λ s. length s.items) c.loop-height.height _ _ (c.loop-height.invariant p) (λ s st. let many = as_many_items p parts s st in
    omega (arith, c.len-height-end.ensures.value, c.loop-height.auto.height-end, c.loop-height-test.false, many))
