use Rattle.aom_determinism.proofs.TwoRuns.{text_is_determined as law}
use Rattle.aom_determinism.proofs.laws.text_is_determined.Goals as goal

pub returns : goal.returns
returns c = law
