use Rattle.std.proofs.Common.{rules}
use Rattle.aom_diagnostic_commands.proofs.explaining.entry_of.Goals as goal

pub returns-in-File : goal.returns-in-File
returns-in-File c = search rules
