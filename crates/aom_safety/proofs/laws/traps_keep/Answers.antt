use Rattle.aom_safety.proofs.Trapping.{traps_keep as law}
use Rattle.aom_safety.proofs.laws.traps_keep.Goals as goal

pub returns : goal.returns
returns c = law
