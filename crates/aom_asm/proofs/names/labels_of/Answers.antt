use Rattle.std.proofs.Common.{rules}
use Rattle.aom_asm.proofs.names.labels_of.Goals as goal

pub loop-statement-preserved : goal.loop-statement-preserved
loop-statement-preserved c = search rules
