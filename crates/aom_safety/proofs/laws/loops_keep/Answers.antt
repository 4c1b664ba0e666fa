use Rattle.aom_safety.proofs.Looping.{loops_keep as law}
use Rattle.aom_safety.proofs.laws.loops_keep.Goals as goal

pub returns : goal.returns
returns c = law
