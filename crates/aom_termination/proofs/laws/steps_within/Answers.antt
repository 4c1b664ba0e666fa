use Rattle.aom_termination.proofs.Within.{steps_within as law}
use Rattle.aom_termination.proofs.laws.steps_within.Goals as goal

pub returns : goal.returns
returns c = law
