use Rattle.aom_static_bounds.proofs.Within.{all_within as law}
use Rattle.aom_static_bounds.proofs.laws.depths_are_within.Goals as goal

pub returns : goal.returns
returns c = law
