-- What the lines so far do not say, the others say.
use Rattle.std.proofs.Common.{◌≡◌, length}
use Rattle.aom_text.specs.Text.{lines_of}
use Rattle.aom_message_framing.specs.Frames.{first_length}
use Rattle.aom_message_framing.proofs.head.announced.Given as goal

abbrev pub invariant-loop-rest : goal.invariant-loop-rest
invariant-loop-rest l = record { later : first_length (lines_of l.rest) ≡ first_length (lines_of l.head) }

abbrev pub decreases-loop-rest : goal.decreases-loop-rest
decreases-loop-rest l = length l.rest
