use Rattle.aom_safety.proofs.Owners.{ends_owned as law}
use Rattle.aom_safety.proofs.laws.ends_owned.Goals as goal

pub returns : goal.returns
returns c = law
