use Rattle.std.proofs.Common.{rules}
use Rattle.aom_codec.proofs.decoding.parts_of.Goals as goal

pub returns : goal.returns
returns c = search rules
