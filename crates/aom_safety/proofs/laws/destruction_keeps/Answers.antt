use Rattle.aom_safety.proofs.Steps.{destruction_keeps as law}
use Rattle.aom_safety.proofs.laws.destruction_keeps.Goals as goal

pub returns : goal.returns
returns c = law
