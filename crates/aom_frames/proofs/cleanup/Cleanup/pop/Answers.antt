use Rattle.std.proofs.Common.{rules}
use Rattle.aom_frames.proofs.cleanup.Cleanup.pop.Goals as goal

pub returns-in-Mark-clause-some : goal.returns-in-Mark-clause-some
returns-in-Mark-clause-some c = search rules
