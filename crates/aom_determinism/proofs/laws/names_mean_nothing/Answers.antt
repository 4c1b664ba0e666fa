use Rattle.aom_determinism.proofs.Steps.{names_mean_nothing as law}
use Rattle.aom_determinism.proofs.laws.names_mean_nothing.Goals as goal

pub returns : goal.returns
returns c = law
