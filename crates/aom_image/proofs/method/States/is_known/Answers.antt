use Rattle.std.proofs.Common.{rules}
use Rattle.aom_image.proofs.method.States.is_known.Goals as goal

pub returns : goal.returns
returns c = search rules
