use Rattle.aom_termination.proofs.Ranking.{ranks_bound_moves as law}
use Rattle.aom_termination.proofs.laws.ranks_bound_moves.Goals as goal

pub returns : goal.returns
returns c = law
