use Rattle.aom_safety.proofs.Steps.{step_keeps as law}
use Rattle.aom_safety.proofs.laws.step_keeps.Goals as goal

pub returns : goal.returns
returns c = law
