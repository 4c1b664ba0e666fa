use Rattle.aom_semantics.proofs.Running.{lines_run as law}
use Rattle.aom_semantics.proofs.laws.lines_run.Goals as goal

pub returns : goal.returns
returns c = law
