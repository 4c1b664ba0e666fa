use Rattle.std.proofs.Common.{rules}
use Rattle.aom_image.proofs.image.Image.make.Goals as goal

pub returns : goal.returns
returns c = search rules
