use Rattle.aom_safety.proofs.Quiet.{quiet_preserved as law}
use Rattle.aom_safety.proofs.laws.quiet_preserved.Goals as goal

pub returns : goal.returns
returns c = law
