-- A space, and then the path.
use Rattle.std.proofs.Common.{ap, sym}
use Rattle.std.proofs.lemmas.Result.{IfErr-weaker, err_from_is_err_and}
use Rattle.aom_debug_views.specs.Seeking.{path_behind}
use Rattle.aom_debug_views.proofs.Reporting.{cut_as, cut_in_first, cut_in_second}
use Rattle.aom_debug_views.proofs.placed.send_path.Goals as goal

pub returns-in_err-send-in-Some-clause-err : goal.returns-in_err-send-in-Some-clause-err
returns-in_err-send-in-Some-clause-err g c =
    let error = err_from_is_err_and c.from_residual.result c.from_residual.ensures.1 in
    rw (error.1, error.2) (cut_as _ _ _ _ _ _ (ap path_behind (sym c.in-Some.is)) (cut_in_first _ _ _ _ _ _ c.in_err-send-in-Some.ensures.err))

pub returns-in_ok-send-in-Some-clause-err : goal.returns-in_ok-send-in-Some-clause-err
returns-in_ok-send-in-Some-clause-err g c = IfErr-weaker c.send-in-Some.result _ _ (λ fault cut. cut_as _ _ _ _ _ _ (ap path_behind (sym c.in-Some.is))
    (cut_in_second _ _ _ _ _ _ _ c.in_ok-send-in-Some.ensures.ok cut)) (rw c.as_bytes.ensures at c.send-in-Some.ensures.err)
