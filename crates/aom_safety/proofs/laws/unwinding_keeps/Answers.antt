use Rattle.aom_safety.proofs.Steps.{unwinding_keeps as law}
use Rattle.aom_safety.proofs.laws.unwinding_keeps.Goals as goal

pub returns : goal.returns
returns c = law
