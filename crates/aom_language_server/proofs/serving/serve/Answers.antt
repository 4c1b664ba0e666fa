-- What goes out for some bytes is behind what went out before.
use Rattle.std.proofs.Common.{◌∙◌, Option, Some, subst}
use Rattle.aom_language_server.proofs.Sessions.{more_frames, more_written, whole_beginning}
use Rattle.aom_language_server.specs.Sessions.{Wrote}
use Rattle.aom_language_server.specs.declared.serving.Ended.{Ended}
use Rattle.aom_language_server.proofs.serving.serve.Goals as goal

-- src/serving.rt
pub returns-in-None : goal.returns-in-None
returns-in-None g c = whole_beginning (g.W.Sink.out c.args.out.now) (g.W.Sink.out c.loop.out) c.loop.invariant.sent

-- src/serving.rt
pub returns-in-Some-2 : goal.returns-in-Some-2
returns-in-Some-2 g c =
    more_written (Some c.in-Some-2.ended) (g.W.Sink.out c.args.out.now) (g.W.Sink.out c.loop.out) (g.W.Sink.out c.hear.new.out) c.loop.invariant.sent
    (subst (λ (ended : Option Ended). Wrote ended (g.W.Sink.out c.loop.out) (g.W.Sink.out c.hear.new.out)) c.in-Some-2.is c.in_ok-ended.ensures)

-- src/serving.rt
pub loop-preserved : goal.loop-preserved
loop-preserved g c = record {
  sent = more_frames (g.W.Sink.out c.args.out.now) (g.W.Sink.out c.loop.out) (g.W.Sink.out c.hear.new.out) c.loop.invariant.sent
      (subst (λ (ended : Option Ended). Wrote ended (g.W.Sink.out c.loop.out) (g.W.Sink.out c.hear.new.out)) c.in_default.is c.in_ok-ended.ensures);
  long = c.get.ensures.long ∙ c.loop.invariant.long;
}
