-- What the line begins with, and then its tail.
use Rattle.std.proofs.Common.{◌≡◌, subst}
use Rattle.std.proofs.lemmas.Result.{IfErr-weaker, IfOk-weaker, err_from_is_err_and}
use Rattle.aom_transcript.specs.Sinks.{after}
use Rattle.aom_debug_views.proofs.Spaced.{tail_ends}
use Rattle.aom_debug_views.proofs.Reporting.{cut_as, cut_in_first, cut_in_second, sent_on}
use Rattle.aom_debug_views.proofs.sending.send_shown.Goals as goal

pub returns-in_err-send-clause-err : goal.returns-in_err-send-clause-err
returns-in_err-send-clause-err g c =
    let error = err_from_is_err_and c.from_residual.result c.from_residual.ensures.1 in
    rw (error.1, error.2) (cut_as _ _ _ _ _ _ (tail_ends c.args.head.now c.args.found) (cut_in_first _ _ _ _ _ _ c.in_err-send.ensures.err))

pub returns-clause-ok : goal.returns-clause-ok
returns-clause-ok g c = IfOk-weaker c.send_tail.result _ _ (λ done put. subst (λ t. g.W.Sink.out c.send_tail.new.out ≡ after (g.W.Sink.out c.args.out.now) t)
    (tail_ends c.args.head.now c.args.found) (sent_on _ _ _ _ _ c.in_ok-send.ensures.ok put)) c.send_tail.ensures.ok

pub returns-clause-err : goal.returns-clause-err
returns-clause-err g c = IfErr-weaker c.send_tail.result _ _
    (λ fault cut. cut_as _ _ _ _ _ _ (tail_ends c.args.head.now c.args.found) (cut_in_second _ _ _ _ _ _ _ c.in_ok-send.ensures.ok cut)) c.send_tail.ensures.err
