use Rattle.std.proofs.lemmas.Grind.{common_steps}
use Rattle.std.proofs.Common.{arith}
use Rattle.aom_diagnostic_commands.proofs.stopping.write_state.Goals as goal

pub returns : goal.returns
returns c = grind (arith, common_steps)
