use Rattle.aom_static_bounds.proofs.Unique.{law_one as law}
use Rattle.aom_static_bounds.proofs.laws.prices_are_one.Goals as goal

pub returns : goal.returns
returns c = law
