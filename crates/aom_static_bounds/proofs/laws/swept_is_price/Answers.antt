use Rattle.aom_static_bounds.proofs.Adding.{law_is_price as law}
use Rattle.aom_static_bounds.proofs.laws.swept_is_price.Goals as goal

pub returns : goal.returns
returns c = law
