use Rattle.aom_termination.proofs.Runs.{typed_runs_well as law}
use Rattle.aom_termination.proofs.laws.typed_runs_well.Goals as goal

pub returns : goal.returns
returns c = law
