-- One class after another is told, by number.
use Rattle.std.proofs.Common.{ℕ, List, ap, arith}
use Rattle.std.proofs.lemmas.Result.{err_from_is_err_and}
use Rattle.aom_semantics.specs.State.{State}
use Rattle.aom_debug_protocol.specs.declared.answer.Answer.{Answer}
use Rattle.aom_debug_views.specs.CellViews.{class_answer, count_class}
use Rattle.aom_debug_views.specs.Reporting.{listed}
use Rattle.aom_debug_views.proofs.Reporting.{of_answer, reports_all, reports_next, reports_part}
use Rattle.aom_debug_views.proofs.cells.report_classes.Goals as goal

abbrev reported : State → ℕ → List Answer
reported s class = listed (class_answer class (count_class class s.cells))

pub returns-in_err-report_any_by-clause-err : goal.returns-in_err-report_any_by-clause-err
returns-in_err-report_any_by-clause-err g c =
    let error = err_from_is_err_and c.from_residual.result c.from_residual.ensures.1 in
    rw (error.1, error.2) (λ p. reports_part (of_answer c.args.names.now) (record { image = p; parts = c.args.parts.now }) reported (λ s. c.args.classes) _ _ _ _ _ _
    _ (c.loop-class.invariant p) (λ s st. ap listed (c.class_answer.ensures p s st)) (λ s st. c.loop-class-test.true) c.in_err-report_any_by.ensures.err)

pub loop-class-preserved : goal.loop-class-preserved
loop-class-preserved g c = λ p. reports_next (of_answer c.args.names.now) (record { image = p; parts = c.args.parts.now }) reported _ _ _ _ _
    (c.loop-class.invariant p) (λ s st. ap listed (c.class_answer.ensures p s st)) c.in_ok-report_any_by.ensures.ok

pub returns-clause-ok : goal.returns-clause-ok
returns-clause-ok g c =
    let most = c.loop-class.auto.class-end in
    let least = c.loop-class-test.false in
    λ p. reports_all (of_answer c.args.names.now) (record { image = p; parts = c.args.parts.now }) reported
    (λ s. c.args.classes) c.loop-class.class _ _ (c.loop-class.invariant p) (λ s st. omega (arith, most, least))
