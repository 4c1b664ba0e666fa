-- The line, and then the words.
use Rattle.std.proofs.lemmas.Result.{IfErr-weaker, IfOk-weaker, err_from_is_err_and}
use Rattle.aom_debug_views.proofs.Reporting.{cut_in_first, cut_in_second, sent_on}
use Rattle.aom_debug_views.proofs.sending.send_statement.Goals as goal

pub returns-in_err-send_lead-clause-err : goal.returns-in_err-send_lead-clause-err
returns-in_err-send_lead-clause-err g c =
    let error = err_from_is_err_and c.from_residual.result c.from_residual.ensures.1 in
    rw (error.1, error.2) (cut_in_first _ _ _ _ _ _ c.in_err-send_lead.ensures.err)

pub returns-clause-ok : goal.returns-clause-ok
returns-clause-ok g c = IfOk-weaker c.send_words.result _ _ (λ done put. sent_on _ _ _ _ _ c.in_ok-send_lead.ensures.ok put) c.send_words.ensures.ok

pub returns-clause-err : goal.returns-clause-err
returns-clause-err g c = IfErr-weaker c.send_words.result _ _ (λ fault cut. cut_in_second _ _ _ _ _ _ _ c.in_ok-send_lead.ensures.ok cut) c.send_words.ensures.err
