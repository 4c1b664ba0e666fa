use Rattle.aom_safety.proofs.Course.{leaves_move as law}
use Rattle.aom_safety.proofs.laws.leaves_move.Goals as goal

pub returns : goal.returns
returns c = law
