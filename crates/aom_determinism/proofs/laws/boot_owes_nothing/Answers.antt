use Rattle.aom_determinism.proofs.Cells.{boot_owes_nothing as law}
use Rattle.aom_determinism.proofs.laws.boot_owes_nothing.Goals as goal

pub returns : goal.returns
returns c = law
