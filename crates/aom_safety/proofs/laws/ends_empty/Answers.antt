use Rattle.aom_safety.proofs.Owners.{ends_empty as law}
use Rattle.aom_safety.proofs.laws.ends_empty.Goals as goal

pub returns : goal.returns
returns c = law
