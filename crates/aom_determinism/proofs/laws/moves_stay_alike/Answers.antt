use Rattle.aom_determinism.proofs.Alike.{moves_stay_alike as law}
use Rattle.aom_determinism.proofs.laws.moves_stay_alike.Goals as goal

pub returns : goal.returns
returns c = law
