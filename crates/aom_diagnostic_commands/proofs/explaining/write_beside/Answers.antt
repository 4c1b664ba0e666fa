use Rattle.std.proofs.Common.{rules}
use Rattle.aom_diagnostic_commands.proofs.explaining.write_beside.Goals as goal

pub returns-in-Verify : goal.returns-in-Verify
returns-in-Verify c = search rules
