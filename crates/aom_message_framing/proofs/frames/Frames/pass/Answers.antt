-- One byte more is passed over.
use Rattle.std.proofs.Common.{subst}
use Rattle.aom_message_framing.specs.Frames.{StandsAt}
use Rattle.aom_message_framing.proofs.Passing.{passed_last, passed_more}
use Rattle.aom_message_framing.proofs.frames.Frames.pass.Goals as goal

-- src/frames.rt:126:13
pub returns-then-left-gt1 : goal.returns-then-left-gt1
returns-then-left-gt1 c = λ p byte stands.
    passed_more p byte c.args.left c.args.self.now.bytes.items c.if-left-gt1.true (subst (λ s. StandsAt p s c.args.self.now.bytes.items) c.requires stands)

-- src/frames.rt:120:5
pub returns : goal.returns
returns c = λ p byte stands.
    passed_last p byte c.args.left c.args.self.now.bytes.items c.if-left-gt1.false (subst (λ s. StandsAt p s c.args.self.now.bytes.items) c.requires stands)
