use Rattle.aom_static_bounds.proofs.Paying.{law_pays as law}
use Rattle.aom_static_bounds.proofs.laws.swept_pays.Goals as goal

pub returns : goal.returns
returns c = law
