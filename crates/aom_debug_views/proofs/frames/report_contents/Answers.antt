-- One register after another.
use Rattle.std.proofs.Common.{ℕ, List, ap, arith}
use Rattle.std.proofs.lemmas.Result.{err_from_is_err_and}
use Rattle.aom_abstract_state.specs.Kinds.{register}
use Rattle.aom_abstract_state.specs.AbstractState.{AbstractState}
use Rattle.aom_semantics.specs.Owned.{over}
use Rattle.aom_semantics.specs.State.{State}
use Rattle.aom_debug_protocol.specs.declared.answer.Answer.{Answer}
use Rattle.aom_debug_views.specs.Frames.{register_in}
use Rattle.aom_debug_views.specs.Reporting.{listed}
use Rattle.aom_debug_views.proofs.Reporting.{of_answer, reports_all, reports_next, reports_part}
use Rattle.aom_debug_views.proofs.frames.report_contents.Goals as goal

abbrev reported : AbstractState → ℕ → State → ℕ → List Answer
reported sh depth s i = listed (register_in (λ k. register sh k) s.cells depth (over s.tasks depth) i)

pub returns-in_err-report_any_by-clause-err : goal.returns-in_err-report_any_by-clause-err
returns-in_err-report_any_by-clause-err g c =
    let error = err_from_is_err_and c.from_residual.result c.from_residual.ensures.1 in
    rw (error.1, error.2) (λ p depth shown. reports_part (of_answer c.args.names.now)
    (record { image = p; parts = c.args.parts.now }) (reported c.args.shape.now depth) (λ s. 16) _ _ _ _ _ _ _ (c.loop-register.invariant p depth shown)
    (λ s st. ap listed (c.register_answer.ensures p depth shown s st)) (λ s st. c.loop-register-test.true) c.in_err-report_any_by.ensures.err)

pub loop-register-preserved : goal.loop-register-preserved
loop-register-preserved g c = λ p depth shown. reports_next (of_answer c.args.names.now)
    (record { image = p; parts = c.args.parts.now }) (reported c.args.shape.now depth) c.loop-register.register _ _ _ (listed c.register_answer.result)
    (c.loop-register.invariant p depth shown) (λ s st. ap listed (c.register_answer.ensures p depth shown s st)) c.in_ok-report_any_by.ensures.ok

pub returns-clause-ok : goal.returns-clause-ok
returns-clause-ok g c =
    let most = c.loop-register.auto.register-end in
    let least = c.loop-register-test.false in
    λ p depth shown. reports_all (of_answer c.args.names.now) (record { image = p; parts = c.args.parts.now })
    (reported c.args.shape.now depth) (λ s. 16) c.loop-register.register _ _ (c.loop-register.invariant p depth shown) (λ s st. omega (arith, most, least))
