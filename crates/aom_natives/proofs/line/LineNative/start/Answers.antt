use Rattle.std.proofs.Common.{rules}
use Rattle.aom_natives.proofs.line.LineNative.start.Goals as goal

pub returns-clause-owed : goal.returns-clause-owed
returns-clause-owed c = search rules
