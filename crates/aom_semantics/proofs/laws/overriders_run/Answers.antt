use Rattle.aom_semantics.proofs.Running.{overriders_run as law}
use Rattle.aom_semantics.proofs.laws.overriders_run.Goals as goal

pub returns : goal.returns
returns c = law
