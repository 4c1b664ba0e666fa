use Rattle.std.proofs.Common.{rules}
use Rattle.aom_syntax.proofs.reader.WordReader.provider.Goals as goal

pub returns-in-Some : goal.returns-in-Some
returns-in-Some c = search rules
