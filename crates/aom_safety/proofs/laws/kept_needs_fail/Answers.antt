use Rattle.aom_safety.proofs.KeptNeedsFail.{kept_needs_fail as law}
use Rattle.aom_safety.proofs.laws.kept_needs_fail.Goals as goal

pub returns : goal.returns
returns c = law
