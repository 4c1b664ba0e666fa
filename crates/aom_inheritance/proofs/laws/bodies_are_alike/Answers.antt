use Rattle.aom_inheritance.proofs.Bodies.{bodies_are_alike as law}
use Rattle.aom_inheritance.proofs.laws.bodies_are_alike.Goals as goal

pub returns : goal.returns
returns c = law
