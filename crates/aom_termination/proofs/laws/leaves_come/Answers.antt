use Rattle.aom_termination.proofs.Arriving.{leaves_come as law}
use Rattle.aom_termination.proofs.laws.leaves_come.Goals as goal

pub returns : goal.returns
returns c = law
