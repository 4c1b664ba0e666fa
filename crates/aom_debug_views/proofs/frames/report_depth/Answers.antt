-- Its lines, and then the path of what it works on.
use Rattle.std.proofs.lemmas.Result.{IfErr-weaker, IfOk-weaker, err_from_is_err_and}
use Rattle.aom_machine_state.specs.Stands.{MachineModel}
use Rattle.aom_semantics.specs.Owned.{over}
use Rattle.aom_debug_views.specs.Frames.{frame_answers, receiver_text}
use Rattle.aom_debug_views.specs.Reporting.{answers_by}
use Rattle.aom_debug_views.proofs.Texts.{texts_both, texts_first, texts_later}
use Rattle.aom_debug_views.proofs.frames.report_depth.Goals as goal

pub returns-in_err-report_method-clause-err : goal.returns-in_err-report_method-clause-err
returns-in_err-report_method-clause-err g c =
    let error = err_from_is_err_and c.from_residual.result c.from_residual.ensures.1 in
    let ns = c.args.names.now in
    let k = c.args.depth in
    let m : MachineModel = record { image = c.args.accepted.now; parts = c.args.parts.now } in
    let cut = rw c.checked.ensures at c.in_err-report_method.ensures.err in
    rw (error.1, error.2) (λ t strongest. texts_first m (λ s. answers_by ns (frame_answers t s k)) (λ s. receiver_text ns s (over s.tasks k)) _ _ _ _ (cut t strongest))

pub returns-clause-ok : goal.returns-clause-ok
returns-clause-ok g c =
    let ns = c.args.names.now in
    let k = c.args.depth in
    let m : MachineModel = record { image = c.args.accepted.now; parts = c.args.parts.now } in
    let first = rw c.checked.ensures at c.in_ok-report_method.ensures.ok in
    IfOk-weaker c.report_receiver.result _ _ (λ _ later t strongest. texts_both m (λ s. answers_by ns (frame_answers t s k)) (λ s. receiver_text ns s (over s.tasks k))
    _ _ _ (first t strongest) later) c.report_receiver.ensures.ok

pub returns-clause-err : goal.returns-clause-err
returns-clause-err g c =
    let ns = c.args.names.now in
    let k = c.args.depth in
    let m : MachineModel = record { image = c.args.accepted.now; parts = c.args.parts.now } in
    let first = rw c.checked.ensures at c.in_ok-report_method.ensures.ok in
    IfErr-weaker c.report_receiver.result _ _ (λ fault later t strongest. texts_later m (λ s. answers_by ns (frame_answers t s k))
    (λ s. receiver_text ns s (over s.tasks k)) _ _ _ _ _ (first t strongest) later) c.report_receiver.ensures.err
