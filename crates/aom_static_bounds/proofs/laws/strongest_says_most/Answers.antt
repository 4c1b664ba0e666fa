use Rattle.aom_static_bounds.proofs.Typings.{says_most as law}
use Rattle.aom_static_bounds.proofs.laws.strongest_says_most.Goals as goal

pub returns : goal.returns
returns c = law
