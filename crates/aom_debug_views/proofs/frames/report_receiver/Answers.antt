-- Of the object that it works on in each state.
use Rattle.std.proofs.Common.{◌∙◌, ap}
use Rattle.std.proofs.lemmas.Result.{IfErr-weaker, IfOk-weaker}
use Rattle.aom_semantics.specs.Owned.{over}
use Rattle.aom_debug_views.specs.Frames.{receiver_text}
use Rattle.aom_debug_views.specs.Seeking.{on_text, path_text}
use Rattle.aom_debug_views.proofs.Texts.{text_cut, text_out}
use Rattle.aom_debug_views.proofs.frames.report_receiver.Goals as goal

pub returns-clause-ok : goal.returns-clause-ok
returns-clause-ok g c =
    let ns = c.args.names.now in
    let p = c.args.accepted.now in
    let k = c.args.depth in
    IfOk-weaker c.report_on.result _ _ (λ _ put. text_out (record { image = p; parts = c.args.parts.now }) _ (λ s. receiver_text ns s (over s.tasks k)) _ _
    (λ s st. ap on_text (c.path_by-path.ensures s st ∙ ap (path_text ns s) (c.receiver_at.ensures p s st))) put) c.report_on.ensures.ok

pub returns-clause-err : goal.returns-clause-err
returns-clause-err g c =
    let ns = c.args.names.now in
    let p = c.args.accepted.now in
    let k = c.args.depth in
    IfErr-weaker c.report_on.result _ _ (λ fault cut. text_cut (record { image = p; parts = c.args.parts.now }) _ (λ s. receiver_text ns s (over s.tasks k)) _ _ _ _
    (λ s st. ap on_text (c.path_by-path.ensures s st ∙ ap (path_text ns s) (c.receiver_at.ensures p s st))) cut) c.report_on.ensures.err
