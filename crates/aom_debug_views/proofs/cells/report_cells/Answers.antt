-- How many there are, and then the classes.
use Rattle.std.proofs.Common.{◌≡◌, ◌∙◌, ap, length}
use Rattle.std.proofs.lemmas.Result.{IfErr-weaker, IfOk-weaker, err_from_is_err_and}
use Rattle.aom_image.specs.Image.{Image}
use Rattle.aom_debug_views.specs.CellViews.{first_classes}
use Rattle.aom_debug_views.proofs.Counting.{all_cells, count_cut, count_reported}
use Rattle.aom_debug_views.proofs.Reporting.{cut_first, cut_later, of_answer, reports_both}
use Rattle.aom_debug_views.proofs.cells.report_cells.Goals as goal

pub returns-in_err-report_by-clause-err : goal.returns-in_err-report_by-clause-err
returns-in_err-report_by-clause-err g c =
    let error = err_from_is_err_and c.from_residual.result c.from_residual.ensures.1 in
    let m = c.args.parts.now in
    let n = c.count.result in
    rw (error.1, error.2) (λ p. cut_first (of_answer c.args.names.now) (record { image = p; parts = m })
    (all_cells c.args.names.now m n c.count.ensures.value p) (λ s. first_classes s.cells (length c.args.linked.now.classes)) _ _ _ _
    (count_cut c.args.names.now m n c.count.ensures.value p _ _ _ _ c.in_err-report_by.ensures.err))

pub returns-clause-ok : goal.returns-clause-ok
returns-clause-ok g c =
    let m = c.args.parts.now in
    let n = c.count.result in
    let many : c.len.result ≡ length c.args.linked.now.classes = c.len.ensures ∙ ap length c.classes.ensures.value
    ∙ ap (λ (x : Image). length x.classes) c.image.ensures in
    IfOk-weaker c.report_classes.result _ _ (λ _ reported p. reports_both (of_answer c.args.names.now) (record { image = p; parts = m })
    (all_cells c.args.names.now m n c.count.ensures.value p) (λ s. first_classes s.cells (length c.args.linked.now.classes)) _ _ _
    (count_reported c.args.names.now m n c.count.ensures.value p _ _ c.in_ok-report_by.ensures.ok) (rw many at reported p)) c.report_classes.ensures.ok

pub returns-clause-err : goal.returns-clause-err
returns-clause-err g c =
    let m = c.args.parts.now in
    let n = c.count.result in
    let many : c.len.result ≡ length c.args.linked.now.classes = c.len.ensures ∙ ap length c.classes.ensures.value
    ∙ ap (λ (x : Image). length x.classes) c.image.ensures in
    IfErr-weaker c.report_classes.result _ _ (λ fault cut p. cut_later (of_answer c.args.names.now) (record { image = p; parts = m })
    (all_cells c.args.names.now m n c.count.ensures.value p) (λ s. first_classes s.cells (length c.args.linked.now.classes)) _ _ _ _ _
    (count_reported c.args.names.now m n c.count.ensures.value p _ _ c.in_ok-report_by.ensures.ok) (rw many at cut p)) c.report_classes.ensures.err
