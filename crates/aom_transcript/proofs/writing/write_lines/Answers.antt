use Rattle.std.proofs.Common.{◌∙◌, ap, sym, take, arith}
use Rattle.aom_transcript.specs.Sinks.{after}
use Rattle.aom_transcript.specs.Text.{line_text}
use Rattle.aom_transcript.proofs.Sending.{Paged, line_added, still_paged, page_sent, page_cut}
use Rattle.aom_transcript.proofs.writing.write_lines.Goals.{then-not-has_room+else-has_failed, else-not-has_room}
use Rattle.aom_transcript.proofs.writing.write_lines.Goals as goal

pub returns-then-has_failed-clause-prefix : goal.returns-then-has_failed-clause-prefix
returns-then-has_failed-clause-prefix g c =
    let sent = c.write_text.ensures.prefix in
    page_cut _ _ _ _ _ _ sent.0 c.loop-line.invariant (sent.2 ∙ ap (λ t. after (g.W.Sink.out c.loop-line.out) (take sent.0 t)) c.as_bytes.ensures)

pub loop-line-preserved : goal.loop-line-preserved
loop-line-preserved g c =
    let lines = c.args.lines.now in
    let at = c.loop-line.line-index in
    let paged : Paged line_text (g.W.Sink.out c.args.out.now) (g.W.Sink.out c.if-not-has_room.out) c.if-not-has_room.page (take at lines) =
    elim c.if-not-has_room.branch [
      | then-not-has_room+else-has_failed w ↦
          let live = sym w.has_failed.ensures ∙ w.if-has_failed.false in
          let sent = ap g.W.Sink.out w.out-is ∙ w.write_text.ensures.whole live ∙ ap (λ t. after (g.W.Sink.out c.loop-line.out) t) w.as_bytes.ensures in
          page_sent _ _ _ _ _ _ c.loop-line.invariant sent (w.page-is ∙ w.clear-then-not-has_room.ensures)
      | else-not-has_room w ↦ still_paged _ _ _ _ _ _ c.loop-line.invariant (ap g.W.Sink.out w.out-is) w.page-is
    ] in
    line_added _ _ c.if-not-has_room.page _ lines at _ (omega arith) c.line-item.is paged c.add_line.ensures

pub returns-clause-prefix : goal.returns-clause-prefix
returns-clause-prefix g c =
    let sent = c.write_text-2.ensures.prefix in
    page_cut _ _ _ _ _ _ sent.0 c.loop-line.invariant (sent.2 ∙ ap (λ t. after (g.W.Sink.out c.loop-line.out) (take sent.0 t)) c.as_bytes-2.ensures)
