use Rattle.std.proofs.Common.{rules}
use Rattle.aom_verify.proofs.checked.Checked.shape.Goals as goal

pub returns : goal.returns
returns c = search rules
