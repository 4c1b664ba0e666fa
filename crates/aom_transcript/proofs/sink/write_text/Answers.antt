use Rattle.std.proofs.Common.{arith}
use Rattle.aom_transcript.proofs.Prefix.{sent_more}
use Rattle.aom_transcript.proofs.sink.write_text.Goals as goal

pub loop-at-preserved : goal.loop-at-preserved
loop-at-preserved g c = record { within = omega arith; sent = sent_more _ _ _ _ _ _ c.loop-at.invariant.sent c.put-at.ensures.sent }
