use Rattle.aom_static_bounds.proofs.Making.{law_found as law}
use Rattle.aom_static_bounds.proofs.laws.prices_are_found.Goals as goal

pub returns : goal.returns
returns c = law
