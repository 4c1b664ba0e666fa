use Rattle.aom_termination.proofs.Ranking.{moves_lower_ranks as law}
use Rattle.aom_termination.proofs.laws.moves_lower_ranks.Goals as goal

pub returns : goal.returns
returns c = law
