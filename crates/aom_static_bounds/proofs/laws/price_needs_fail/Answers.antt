use Rattle.aom_static_bounds.proofs.Worked.{price_needs_fail as law}
use Rattle.aom_static_bounds.proofs.laws.price_needs_fail.Goals as goal

pub returns : goal.returns
returns c = law
