-- One line after another is out, or a beginning of the next.
use Rattle.std.proofs.Common.{◌∙◌, [], arith, refl, sym}
use Rattle.aom_transcript.proofs.Sending.{after_none, line_added, page_cut, page_sent}
use Rattle.aom_transcript.proofs.naming.write_named.Goals as goal

pub returns-then-has_failed-clause-prefix : goal.returns-then-has_failed-clause-prefix
returns-then-has_failed-clause-prefix g c =
    let reported = line_added _ _ [] _ c.args.lines.now c.loop-line.line-index _ (omega arith) c.line-item.is c.loop-line.invariant refl in
    let sent = c.write_one.ensures.prefix in
    page_cut _ _ _ _ c.args.lines.now _ sent.0 reported sent.1

pub loop-line-preserved : goal.loop-line-preserved
loop-line-preserved g c =
    let reported = line_added _ _ [] _ c.args.lines.now c.loop-line.line-index _ (omega arith) c.line-item.is c.loop-line.invariant refl in
    page_sent _ _ _ _ _ _ reported (c.write_one.ensures.whole (sym c.has_failed.ensures ∙ c.if-has_failed.false)) refl

pub returns-clause-prefix : goal.returns-clause-prefix
returns-clause-prefix g c = page_cut _ _ _ [] c.args.lines.now c.loop-line.line-index 0 c.loop-line.invariant (after_none (g.W.Sink.out c.loop-line.out))
