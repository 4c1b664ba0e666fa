-- The statement, and then the line's end.
use Rattle.std.proofs.Common.{ap, sym}
use Rattle.std.proofs.lemmas.Result.{IfErr-weaker, err_from_is_err_and}
use Rattle.aom_debug_views.specs.Reporting.{tail_text}
use Rattle.aom_debug_views.proofs.Reporting.{cut_as, cut_in_first, cut_in_second}
use Rattle.aom_debug_views.proofs.sending.send_tail.Goals as goal

pub returns-in_err-send_statement-in-Some-clause-err : goal.returns-in_err-send_statement-in-Some-clause-err
returns-in_err-send_statement-in-Some-clause-err g c =
    let error = err_from_is_err_and c.from_residual.result c.from_residual.ensures.1 in
    rw (error.1, error.2) (cut_as _ _ _ _ _ _ (ap tail_text (sym c.in-Some.is)) (cut_in_first _ _ _ _ _ _ c.in_err-send_statement-in-Some.ensures.err))

pub returns-in_ok-send_statement-in-Some-clause-err : goal.returns-in_ok-send_statement-in-Some-clause-err
returns-in_ok-send_statement-in-Some-clause-err g c = IfErr-weaker c.send.result _ _ (λ fault cut. cut_as _ _ _ _ _ _
    (ap tail_text (sym c.in-Some.is)) (cut_in_second _ _ _ _ _ _ _ c.in_ok-send_statement-in-Some.ensures.ok cut)) c.send.ensures.err
