use Rattle.std.proofs.lemmas.Grind.{common_steps}
use Rattle.std.proofs.Common.{arith}
use Rattle.aom_diagnostics.proofs.entry.write_entry.Goals as goal

pub returns : goal.returns
returns c = grind (arith, common_steps)
