use Rattle.aom_semantics.proofs.Running.{tokens_run as law}
use Rattle.aom_semantics.proofs.laws.tokens_run.Goals as goal

pub returns : goal.returns
returns c = law
