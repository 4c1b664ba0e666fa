use Rattle.std.proofs.lemmas.Grind.{elements}
use Rattle.std.proofs.Common.{arith}
use Rattle.aom_frames.proofs.cleanup.Cleanup.entry.Goals as goal

pub returns : goal.returns
returns c = grind (arith, elements)

pub returns-in_err-above : goal.returns-in_err-above
returns-in_err-above c = grind (arith, elements)
