use Rattle.aom_semantics.proofs.NeedsFail.{object_needs_fail as law}
use Rattle.aom_semantics.proofs.laws.object_needs_fail.Goals as goal

pub returns : goal.returns
returns c = law
