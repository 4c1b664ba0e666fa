use Rattle.aom_determinism.proofs.Polling.{nothing_is_observed as law}
use Rattle.aom_determinism.proofs.laws.nothing_is_observed.Goals as goal

pub returns : goal.returns
returns c = law
