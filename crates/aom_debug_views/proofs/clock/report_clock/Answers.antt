-- The time of the machine is that of each state that it stands for.
use Rattle.std.proofs.Common.{◌∙◌, ap, take}
use Rattle.std.proofs.lemmas.Result.{IfErr-weaker, IfOk-weaker}
use Rattle.aom_transcript.specs.Text.{ended}
use Rattle.aom_semantics.specs.State.{Counters}
use Rattle.aom_transcript.specs.Sinks.{after}
use Rattle.aom_debug_protocol.specs.Answers.{answer_text}
use Rattle.aom_debug_protocol.specs.declared.answer.Answer.TheVariants.{Clock}
use Rattle.aom_debug_views.proofs.clock.report_clock.Goals as goal

pub returns-clause-ok : goal.returns-clause-ok
returns-clause-ok g c = IfOk-weaker c.report.result _ _
    (λ done out p. record { out = λ s st. out ∙ ap (λ n. after (g.W.Sink.out c.args.out.now) (ended (answer_text (Clock n)))) (c.clock.ensures ∙ ap (λ (r : Counters). r.clock) st.agrees.rest) })
    c.report.ensures.ok

pub returns-clause-err : goal.returns-clause-err
returns-clause-err g c = IfErr-weaker c.report.result _ _ (λ fault cut p. record {
  reported = cut.reported;
  fails = cut.fails;
  out = λ s st. (
    cut.sent,
    cut.out ∙ ap (λ n. after (g.W.Sink.out c.args.out.now) (take cut.sent (ended (answer_text (Clock n)))))
        (c.clock.ensures ∙ ap (λ (r : Counters). r.clock) st.agrees.rest),
  );
}) c.report.ensures.err
