use Rattle.std.proofs.Common.{rules}
use Rattle.aom_commands.proofs.fault_line.fault_line.Goals as goal

pub returns : goal.returns
returns c = search rules
