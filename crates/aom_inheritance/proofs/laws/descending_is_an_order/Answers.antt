use Rattle.aom_inheritance.proofs.Descending.{descending_is_an_order as law}
use Rattle.aom_inheritance.proofs.laws.descending_is_an_order.Goals as goal

pub returns : goal.returns
returns c = law
