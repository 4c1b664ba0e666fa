use Rattle.aom_safety.proofs.Steps.{turn_keeps as law}
use Rattle.aom_safety.proofs.laws.turn_keeps.Goals as goal

pub returns : goal.returns
returns c = law
