-- One loop after another.
use Rattle.std.proofs.Common.{◌∙◌, ℕ, List, ap, arith}
use Rattle.std.proofs.lemmas.Result.{err_from_is_err_and}
use Rattle.aom_semantics.specs.Owned.{over}
use Rattle.aom_semantics.specs.State.{State}
use Rattle.aom_debug_protocol.specs.declared.answer.Answer.{Answer}
use Rattle.aom_debug_views.specs.Frames.{loop_answer, loop_in}
use Rattle.aom_debug_views.specs.Reporting.{listed}
use Rattle.aom_debug_views.proofs.Contents.{loop_reported}
use Rattle.aom_debug_views.proofs.Reporting.{of_answer, reports_all, reports_next, reports_part}
use Rattle.aom_debug_views.proofs.frames.report_loops.Goals as goal

abbrev reported : ℕ → State → ℕ → List Answer
reported depth s i = listed (loop_in (over s.tasks depth) i)

pub returns-in_err-report_any_by-clause-err : goal.returns-in_err-report_any_by-clause-err
returns-in_err-report_any_by-clause-err g c =
    let error = err_from_is_err_and c.from_residual.result c.from_residual.ensures.1 in
    let answer = c.loop_answer.ensures ∙ ap (loop_answer c.loop-number.number) c.counter.ensures in
    rw (error.1, error.2) (λ m sh depth shown. reports_part (of_answer c.args.names.now) m (reported depth) (λ s. 4) _ _ _ _ _ _ _ (c.loop-number.invariant m sh depth
    shown) (λ s st. loop_reported m sh c.args.frame.now depth _ shown s st _ answer) (λ s st. c.loop-number-test.true) c.in_err-report_any_by.ensures.err)

pub loop-number-preserved : goal.loop-number-preserved
loop-number-preserved g c =
    let answer = c.loop_answer.ensures ∙ ap (loop_answer c.loop-number.number) c.counter.ensures in
    λ m sh depth shown. reports_next (of_answer c.args.names.now) m
    (reported depth) _ _ _ _ _ (c.loop-number.invariant m sh depth shown) (λ s st. loop_reported m sh _ _ _ shown s st _ answer) c.in_ok-report_any_by.ensures.ok

pub returns-clause-ok : goal.returns-clause-ok
returns-clause-ok g c =
    let most = c.loop-number.auto.number-end in
    let least = c.loop-number-test.false in
    λ m sh depth shown. reports_all (of_answer c.args.names.now) m (reported depth) (λ s. 4) c.loop-number.number _ _ (c.loop-number.invariant m sh depth shown)
    (λ s st. omega (arith, most, least))
