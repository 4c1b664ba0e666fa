use Rattle.aom_semantics.proofs.Owning.{owner_needs_fail as law}
use Rattle.aom_semantics.proofs.laws.owner_needs_fail.Goals as goal

pub returns : goal.returns
returns c = law
