-- What goes out for a frame is behind what went out before.
use Rattle.std.proofs.Common.{Option, Some, subst}
use Rattle.aom_language_server.proofs.Sessions.{more_frames, more_written}
use Rattle.aom_language_server.specs.Sessions.{Wrote}
use Rattle.aom_language_server.specs.declared.serving.Ended.{Ended}
use Rattle.aom_language_server.proofs.serving.hear.Goals as goal

-- src/serving.rt
pub returns-in-Some-2 : goal.returns-in-Some-2
returns-in-Some-2 g c =
    more_written (Some c.in-Some-2.ended) (g.W.Sink.out c.args.out.now) (g.W.Sink.out c.loop-byte.out) (g.W.Sink.out c.answer.new.out) c.loop-byte.invariant.sent
    (subst (λ (ended : Option Ended). Wrote ended (g.W.Sink.out c.loop-byte.out) (g.W.Sink.out c.answer.new.out)) c.in-Some-2.is c.in_ok-ended.ensures)

-- src/serving.rt
pub loop-byte-preserved : goal.loop-byte-preserved
loop-byte-preserved g c = record {
  sent = more_frames (g.W.Sink.out c.args.out.now) (g.W.Sink.out c.loop-byte.out) (g.W.Sink.out c.answer.new.out) c.loop-byte.invariant.sent
      (subst (λ (ended : Option Ended). Wrote ended (g.W.Sink.out c.loop-byte.out) (g.W.Sink.out c.answer.new.out)) c.in_default-2.is c.in_ok-ended.ensures);
}
