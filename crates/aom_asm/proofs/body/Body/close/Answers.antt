use Rattle.std.proofs.Common.{rules}
use Rattle.aom_asm.proofs.body.Body.close.Goals as goal

pub returns : goal.returns
returns c = search rules
