use Rattle.aom_inheritance.proofs.Weighing.{weights_fall as law}
use Rattle.aom_inheritance.proofs.laws.weights_fall.Goals as goal

pub returns : goal.returns
returns c = law
