use Rattle.aom_determinism.proofs.Ending.{runs_can_end as law}
use Rattle.aom_determinism.proofs.laws.runs_can_end.Goals as goal

pub returns : goal.returns
returns c = law
