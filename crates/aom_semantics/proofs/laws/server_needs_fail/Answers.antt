use Rattle.aom_semantics.proofs.NeedsFail.{server_needs_fail as law}
use Rattle.aom_semantics.proofs.laws.server_needs_fail.Goals as goal

pub returns : goal.returns
returns c = law
