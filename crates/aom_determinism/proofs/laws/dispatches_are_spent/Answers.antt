use Rattle.aom_determinism.proofs.Spending.{dispatches_are_spent as law}
use Rattle.aom_determinism.proofs.laws.dispatches_are_spent.Goals as goal

pub returns : goal.returns
returns c = law
