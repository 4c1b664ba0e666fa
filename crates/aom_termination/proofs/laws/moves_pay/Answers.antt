use Rattle.aom_termination.proofs.Within.{moves_pay as law}
use Rattle.aom_termination.proofs.laws.moves_pay.Goals as goal

pub returns : goal.returns
returns c = law
