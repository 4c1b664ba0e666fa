use Rattle.aom_safety.proofs.Turning.{turn_goes_on as law}
use Rattle.aom_safety.proofs.laws.turn_goes_on.Goals as goal

pub returns : goal.returns
returns c = law
