-- The last line and the step that is next, one after the other.
use Rattle.std.proofs.Common.{◌∙◌}
use Rattle.std.proofs.lemmas.Result.{IfErr-weaker, IfOk-weaker}
use Rattle.aom_debug.proofs.Placing.{place_cut, place_cut_later, place_reported}
use Rattle.aom_debug.proofs.showing.report_place.Goals as goal

pub returns-in-Ok-clause-ok : goal.returns-in-Ok-clause-ok
returns-in-Ok-clause-ok g c =
    let m = c.args.machine.now.core in
    let reported = rw (c.parts.ensures.parts, c.linked.ensures, c.accepted.ensures) at c.next_of.ensures in
    IfOk-weaker c.report_by.result _ _
    (λ done out. place_reported c.args.names.now m c.as_bytes.result.now (c.as_bytes.ensures ∙ c.end_page-page.ensures) (g.W.Sink.out c.args.out.now)
    (g.W.Sink.out c.send.new.out) (g.W.Sink.out c.report_by.new.out) c.next_of.result reported c.in-Ok.ensures.ok out) c.report_by.ensures.ok

pub returns-in-Ok-clause-err : goal.returns-in-Ok-clause-err
returns-in-Ok-clause-err g c =
    let m = c.args.machine.now.core in
    let reported = rw (c.parts.ensures.parts, c.linked.ensures, c.accepted.ensures) at c.next_of.ensures in
    IfErr-weaker c.report_by.result _ _ (λ fault cut. place_cut_later c.args.names.now m c.as_bytes.result.now
    (c.as_bytes.ensures ∙ c.end_page-page.ensures) (g.W.Sink.out c.args.out.now) (g.W.Sink.out c.send.new.out)
    (g.W.Sink.out c.report_by.new.out) c.next_of.result reported c.in-Ok.ensures.ok fault (g.W.Sink.failed c.report_by.new.out) cut) c.report_by.ensures.err

pub returns-in-Err-clause-err : goal.returns-in-Err-clause-err
returns-in-Err-clause-err g c =
    place_cut c.args.names.now c.args.machine.now.core c.as_bytes.result.now (c.as_bytes.ensures ∙ c.end_page-page.ensures) (g.W.Sink.out c.args.out.now)
    (g.W.Sink.out c.send.new.out) (g.W.Sink.out c.send.new.out) c.in-Err.fault (g.W.Sink.failed c.send.new.out) c.in-Err.ensures.err
