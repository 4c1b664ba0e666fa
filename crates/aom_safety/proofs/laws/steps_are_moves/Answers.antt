use Rattle.aom_safety.proofs.Moving.{steps_are_moves as law}
use Rattle.aom_safety.proofs.laws.steps_are_moves.Goals as goal

pub returns : goal.returns
returns c = law
