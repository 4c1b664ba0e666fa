use Rattle.std.proofs.Common.{rules}
use Rattle.aom_syntax.proofs.reader.WordReader.kind.Goals as goal

pub returns-in-Server : goal.returns-in-Server
returns-in-Server c = search rules
