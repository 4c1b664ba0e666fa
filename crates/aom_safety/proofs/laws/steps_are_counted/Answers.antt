use Rattle.aom_safety.proofs.Counting.{steps_are_counted as law}
use Rattle.aom_safety.proofs.laws.steps_are_counted.Goals as goal

pub returns : goal.returns
returns c = law
