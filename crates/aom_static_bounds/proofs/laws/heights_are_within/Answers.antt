use Rattle.aom_static_bounds.proofs.Within.{all_high as law}
use Rattle.aom_static_bounds.proofs.laws.heights_are_within.Goals as goal

pub returns : goal.returns
returns c = law
