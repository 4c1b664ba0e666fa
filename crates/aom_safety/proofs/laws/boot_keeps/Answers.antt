use Rattle.aom_safety.proofs.Booting.{boot_keeps as law}
use Rattle.aom_safety.proofs.laws.boot_keeps.Goals as goal

pub returns : goal.returns
returns c = law
