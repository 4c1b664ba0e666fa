use Rattle.std.proofs.Common.{rules}
use Rattle.aom_codec.proofs.reader.ByteReader.kind_sort.Goals as goal

pub returns-in_default : goal.returns-in_default
returns-in_default c = search rules
