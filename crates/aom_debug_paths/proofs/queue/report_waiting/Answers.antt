-- One entry after another is told, the first first.
use Rattle.std.proofs.Common.{ℕ, List, ap, arith, length}
use Rattle.std.proofs.lemmas.Result.{err_from_is_err_and}
use Rattle.aom_clients.specs.Clients.{queue_at}
use Rattle.aom_transcript.specs.Text.{ended}
use Rattle.aom_semantics.specs.Places.{service_of}
use Rattle.aom_debug_protocol.specs.Answers.{answer_text}
use Rattle.aom_debug_protocol.specs.declared.answer.Answer.{Answer}
use Rattle.aom_debug_views.specs.Reporting.{answers_text, gathered, listed}
use Rattle.aom_debug_paths.proofs.DebugViewsLemmas.{part_same, reports_all, reports_next, reports_part, reports_same}
use Rattle.aom_debug_paths.specs.Paths.{waiting_lines}
use Rattle.aom_debug_paths.proofs.Queues.{entry_lines, queue_reported}
use Rattle.aom_debug_paths.proofs.queue.report_waiting.Goals as goal

abbrev of_answer : Answer → List ℕ
of_answer answer = ended (answer_text answer)

pub returns-in_err-report_any-clause-err : goal.returns-in_err-report_any-clause-err
returns-in_err-report_any-clause-err g c =
    let error = err_from_is_err_and c.from_residual.result c.from_residual.ensures.1 in
    let k = c.args.parts.now in
    let n = c.args.server in
    let less = c.loop-ahead-test.true in
    let many = c.queued-ahead-end.ensures in
    rw (error.1, error.2)
    (λ p. part_same (record { image = p; parts = k }) (λ s. answers_text (gathered (entry_lines k n) (length (queue_at k.clients n))))
    (λ s. answers_text (waiting_lines (service_of s.cells n).queue)) (λ s st. ap answers_text (queue_reported p k s st n)) _ _ _ _
    (reports_part of_answer (record { image = p; parts = k })
    (λ s. entry_lines k n) (λ s. length (queue_at k.clients n)) c.loop-ahead.ahead _ _ _ (listed c.waiting_answer.result) _ _ (c.loop-ahead.invariant p)
    (λ s st. ap listed c.waiting_answer.ensures) (λ s st. omega (arith, less, many)) c.in_err-report_any.ensures.err))

pub loop-ahead-preserved : goal.loop-ahead-preserved
loop-ahead-preserved g c = λ p. reports_next of_answer (record { image = p; parts = c.args.parts.now })
    (λ s. entry_lines c.args.parts.now c.args.server) c.loop-ahead.ahead _ _ _ (listed c.waiting_answer.result) (c.loop-ahead.invariant p)
    (λ s st. ap listed c.waiting_answer.ensures) c.in_ok-report_any.ensures.ok

pub returns-clause-ok : goal.returns-clause-ok
returns-clause-ok g c =
    let k = c.args.parts.now in
    let n = c.args.server in
    let most = c.loop-ahead.auto.ahead-end in
    let least = c.loop-ahead-test.false in
    let many = c.queued-ahead-end.ensures in
    λ p. reports_same (record { image = p; parts = k }) (λ s. answers_text (gathered (entry_lines k n) (length (queue_at k.clients n))))
    (λ s. answers_text (waiting_lines (service_of s.cells n).queue)) (λ s st. ap answers_text (queue_reported p k s st n)) _ _
    (reports_all of_answer (record { image = p; parts = k }) (λ s. entry_lines k n)
    (λ s. length (queue_at k.clients n)) c.loop-ahead.ahead _ _ (c.loop-ahead.invariant p) (λ s st. omega (arith, most, least, many)))
