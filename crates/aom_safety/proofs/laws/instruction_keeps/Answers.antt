use Rattle.aom_safety.proofs.Steps.{move_keeps as law}
use Rattle.aom_safety.proofs.laws.instruction_keeps.Goals as goal

pub returns : goal.returns
returns c = law
