use Rattle.aom_determinism.proofs.Oracles.{each_run_follows as law}
use Rattle.aom_determinism.proofs.laws.each_run_follows.Goals as goal

pub returns : goal.returns
returns c = law
