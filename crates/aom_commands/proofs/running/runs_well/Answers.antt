-- What is known of the image says how its runs go.
use Rattle.std.proofs.Common.{arith}
use Rattle.aom_commands.proofs.Reporting.{all_run_well}
use Rattle.aom_commands.proofs.running.runs_well.Goals as goal

pub returns : goal.returns
returns c = grind (arith, all_run_well)
