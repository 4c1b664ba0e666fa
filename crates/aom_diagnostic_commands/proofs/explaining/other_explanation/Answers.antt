use Rattle.std.proofs.Common.{rules}
use Rattle.aom_diagnostic_commands.proofs.explaining.other_explanation.Goals as goal

pub returns : goal.returns
returns c = search rules
