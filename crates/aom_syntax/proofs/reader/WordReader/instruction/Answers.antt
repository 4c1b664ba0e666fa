use Rattle.std.proofs.Common.{rules}
use Rattle.aom_syntax.proofs.reader.WordReader.instruction.Goals as goal

pub returns : goal.returns
returns c = search rules
