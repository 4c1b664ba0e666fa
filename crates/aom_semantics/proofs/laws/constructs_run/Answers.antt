use Rattle.aom_semantics.proofs.Running.{constructs_run as law}
use Rattle.aom_semantics.proofs.laws.constructs_run.Goals as goal

pub returns : goal.returns
returns c = law
