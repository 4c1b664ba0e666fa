-- A frame's lines are those of the strongest typing, and what is no frame has none.
use Rattle.std.proofs.Common.{◌∙◌, ap, sym}
use Rattle.std.proofs.lemmas.Result.{IfErr-weaker, IfOk-weaker}
use Rattle.std.specs.Prelude.{is_some}
use Rattle.aom_transcript.specs.Sinks.{after}
use Rattle.aom_semantics.specs.Owned.{over}
use Rattle.aom_debug_views.specs.Frames.{frame_answers, kinds_of}
use Rattle.aom_debug_views.specs.Reporting.{answers_by}
use Rattle.aom_debug_views.proofs.Contents.{frame_shows, no_lines, typed_lines}
use Rattle.aom_debug_views.proofs.Registers.{frame_method, is_reached}
use Rattle.aom_debug_views.proofs.Tasks.{frame_stands, frames_reported}
use Rattle.aom_debug_views.proofs.Reporting.{none_sent, part_same, reports_same}
use Rattle.aom_debug_views.proofs.frames.report_method.Goals as goal

pub returns-in_default-clause-ok : goal.returns-in_default-clause-ok
returns-in_default-clause-ok g c = λ t strongest. record {
  out = λ s st.
      let p = c.args.checked.now in
      let k = c.args.depth in
      let none = sym (frames_reported p c.args.parts.now s st k) ∙ ap is_some (sym c.in_default.ensures) in
      none_sent _ ∙ ap (λ xs. after (g.W.Sink.out c.args.out.now) (answers_by c.args.names.now xs))
      (sym (no_lines (λ i. kinds_of t (over s.tasks k) i) s k (over s.tasks k) none));
}

pub shape-requires : goal.shape-requires
shape-requires g c =
    let p = c.args.checked.now in
    let m = c.args.parts.now in
    frame_method p m c.requires.agrees c.requires.stands c.args.depth c.in-Some.frame (frame_stands p m c.args.depth c.in-Some.frame c.in-Some.ensures)

pub returns-in-Some-shape-clause-ok : goal.returns-in-Some-shape-clause-ok
returns-in-Some-shape-clause-ok g c =
    let p = c.args.checked.now in
    let m = c.args.parts.now in
    let k = c.args.depth in
    let f = c.in-Some.frame in
    let sh = c.in-Some-shape.shape in
    let there = frame_stands p m k f c.in-Some.ensures in
    let shown = frame_shows p m c.requires.stands c.requires.agrees k f sh there c.in-Some-shape.ensures in
    let method = frame_method p m c.requires.agrees c.requires.stands k f there in
    IfOk-weaker c.report_lines.result _ _ (λ _ reported t strongest. reports_same (record { image = p; parts = m }) _ (λ s. answers_by c.args.names.now (frame_answers
    t s k)) (typed_lines c.args.names.now p m f sh k shown method c.in-Some-shape.ensures t strongest) _ _ (reported p shown)) c.report_lines.ensures.ok

pub returns-in-Some-shape-clause-err : goal.returns-in-Some-shape-clause-err
returns-in-Some-shape-clause-err g c =
    let p = c.args.checked.now in
    let m = c.args.parts.now in
    let k = c.args.depth in
    let f = c.in-Some.frame in
    let sh = c.in-Some-shape.shape in
    let there = frame_stands p m k f c.in-Some.ensures in
    let shown = frame_shows p m c.requires.stands c.requires.agrees k f sh there c.in-Some-shape.ensures in
    let method = frame_method p m c.requires.agrees c.requires.stands k f there in
    IfErr-weaker c.report_lines.result _ _
    (λ fault cut t strongest. part_same (record { image = p; parts = m }) _ (λ s. answers_by c.args.names.now (frame_answers t s k))
    (typed_lines c.args.names.now p m f sh k shown method c.in-Some-shape.ensures t strongest) _ _ _ _ (cut p shown)) c.report_lines.ensures.err

pub returns-in-None-clause-ok : goal.returns-in-None-clause-ok
returns-in-None-clause-ok g c =
    let p = c.args.checked.now in
    let m = c.args.parts.now in
    let f = c.in-Some.frame in
    λ t strongest. record { out = λ s st. absurd (is_reached p m c.requires.agrees s st _ f (frame_stands p m _ f c.in-Some.ensures) c.in-None.ensures) }
