-- One word after another is told, by number.
use Rattle.std.proofs.Common.{ℕ, List, Some, ap, arith}
use Rattle.std.proofs.lemmas.Result.{err_from_is_err_and}
use Rattle.aom_transcript.specs.Text.{ended}
use Rattle.aom_semantics.specs.Places.{word_field}
use Rattle.aom_semantics.specs.State.{State}
use Rattle.aom_debug_protocol.specs.Answers.{answer_text}
use Rattle.aom_debug_protocol.specs.declared.answer.Answer.{Answer}
use Rattle.aom_debug_protocol.specs.declared.answer.Answer.TheVariants.{Word}
use Rattle.aom_debug_views.specs.Reporting.{listed}
use Rattle.aom_debug_paths.proofs.DebugViewsLemmas.{reports_all, reports_next, reports_part}
use Rattle.aom_debug_paths.proofs.words.report_count.Goals as goal

abbrev of_answer : Answer → List ℕ
of_answer answer = ended (answer_text answer)

abbrev reported : ℕ → State → ℕ → List Answer
reported n s w = listed (Some (Word w (word_field s.cells n w)))

pub returns-in_err-report_any-clause-err : goal.returns-in_err-report_any-clause-err
returns-in_err-report_any-clause-err g c =
    let error = err_from_is_err_and c.from_residual.result c.from_residual.ensures.1 in
    let w = c.loop-word.word in
    rw (error.1, error.2) (λ p. reports_part of_answer (record { image = p; parts = c.args.parts.now })
    (reported c.args.cell) (λ s. c.args.count) w _ _ _ (listed c.word_answer.result) _ _ (c.loop-word.invariant p)
    (λ s st. ap listed (c.word_answer.ensures p s st)) (λ s st. c.loop-word-test.true) c.in_err-report_any.ensures.err)

pub loop-word-preserved : goal.loop-word-preserved
loop-word-preserved g c =
    let w = c.loop-word.word in
    λ p. reports_next of_answer (record { image = p; parts = c.args.parts.now }) (reported c.args.cell) w _ _ _ (listed c.word_answer.result)
    (c.loop-word.invariant p) (λ s st. ap listed (c.word_answer.ensures p s st)) c.in_ok-report_any.ensures.ok

pub returns-clause-ok : goal.returns-clause-ok
returns-clause-ok g c =
    let most = c.loop-word.auto.word-end in
    let least = c.loop-word-test.false in
    λ p. reports_all of_answer (record { image = p; parts = c.args.parts.now }) (reported c.args.cell) (λ s. c.args.count) c.loop-word.word _ _
    (c.loop-word.invariant p) (λ s st. omega (arith, most, least))
