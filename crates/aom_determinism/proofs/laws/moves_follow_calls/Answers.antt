use Rattle.aom_determinism.proofs.Moves.{moves_follow_calls as law}
use Rattle.aom_determinism.proofs.laws.moves_follow_calls.Goals as goal

pub returns : goal.returns
returns c = law
