use Rattle.aom_semantics.proofs.NeedsFail.{cleanup_needs_fail as law}
use Rattle.aom_semantics.proofs.laws.cleanup_needs_fail.Goals as goal

pub returns : goal.returns
returns c = law
