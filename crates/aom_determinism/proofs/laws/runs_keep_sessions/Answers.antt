use Rattle.aom_determinism.proofs.Runs.{runs_keep_sessions as law}
use Rattle.aom_determinism.proofs.laws.runs_keep_sessions.Goals as goal

pub returns : goal.returns
returns c = law
