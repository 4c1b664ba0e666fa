use Rattle.aom_determinism.proofs.Staying.{all_stays_there as law}
use Rattle.aom_determinism.proofs.laws.all_stays_there.Goals as goal

pub returns : goal.returns
returns c = law
