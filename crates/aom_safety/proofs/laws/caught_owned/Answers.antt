use Rattle.aom_safety.proofs.Quiet.{caught_owned as law}
use Rattle.aom_safety.proofs.laws.caught_owned.Goals as goal

pub returns : goal.returns
returns c = law
