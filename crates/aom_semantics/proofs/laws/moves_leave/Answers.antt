use Rattle.aom_semantics.proofs.NeedsFail.{moves_leave as law}
use Rattle.aom_semantics.proofs.laws.moves_leave.Goals as goal

pub returns : goal.returns
returns c = law
