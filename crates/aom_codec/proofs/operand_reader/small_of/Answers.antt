use Rattle.std.proofs.Common.{rules}
use Rattle.aom_codec.proofs.operand_reader.small_of.Goals as goal

pub returns : goal.returns
returns c = search rules
