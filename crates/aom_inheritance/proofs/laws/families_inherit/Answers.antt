use Rattle.aom_inheritance.proofs.Inheriting.{families_inherit as law}
use Rattle.aom_inheritance.proofs.laws.families_inherit.Goals as goal

pub returns : goal.returns
returns c = law
