use Rattle.std.proofs.Common.{rules}
use Rattle.aom_syntax.proofs.reader.WordReader.method.Goals as goal

pub returns : goal.returns
returns c = search rules

pub returns-in_err-used : goal.returns-in_err-used
returns-in_err-used c = search rules
