use Rattle.std.proofs.lemmas.Grind.{elements}
use Rattle.std.proofs.Common.{arith}
use Rattle.aom_diagnostics.proofs.compared.write_compared.Goals as goal

pub returns-in-CleanupTooDeep : goal.returns-in-CleanupTooDeep
returns-in-CleanupTooDeep c = grind (arith, elements)

pub returns-in-TooDeep : goal.returns-in-TooDeep
returns-in-TooDeep c = grind (arith, elements)
