use Rattle.aom_termination.proofs.Within.{boot_within as law}
use Rattle.aom_termination.proofs.laws.boot_within.Goals as goal

pub returns : goal.returns
returns c = law
