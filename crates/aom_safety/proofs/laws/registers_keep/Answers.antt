use Rattle.aom_safety.proofs.InRange.{registers_keep as law}
use Rattle.aom_safety.proofs.laws.registers_keep.Goals as goal

pub returns : goal.returns
returns c = law
