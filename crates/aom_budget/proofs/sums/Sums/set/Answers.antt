-- What is set is kept.
use Rattle.aom_budget.proofs.Keeping.{set_kept}
use Rattle.aom_budget.proofs.sums.Sums.set.Goals as goal

pub invariant_of-self : goal.invariant_of-self
invariant_of-self c = set_kept _ _ _ (rw c.self.view_is c.requires.within) c.requires.low c.self.invariant
