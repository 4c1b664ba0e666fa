use Rattle.std.proofs.Common.{rules}
use Rattle.aom_script.proofs.line.command_within.Goals as goal

pub returns-in-ToSend : goal.returns-in-ToSend
returns-in-ToSend c = search rules
