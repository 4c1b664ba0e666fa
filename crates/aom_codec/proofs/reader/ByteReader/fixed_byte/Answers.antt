use Rattle.std.proofs.Common.{rules}
use Rattle.aom_codec.proofs.reader.ByteReader.fixed_byte.Goals as goal

pub returns : goal.returns
returns c = search rules
