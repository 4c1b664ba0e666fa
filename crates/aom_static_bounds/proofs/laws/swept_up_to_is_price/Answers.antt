use Rattle.aom_static_bounds.proofs.Capping.{law_up_to as law}
use Rattle.aom_static_bounds.proofs.laws.swept_up_to_is_price.Goals as goal

pub returns : goal.returns
returns c = law
