use Rattle.aom_safety.proofs.Course.{leaves_arrive as law}
use Rattle.aom_safety.proofs.laws.leaves_arrive.Goals as goal

pub returns : goal.returns
returns c = law
