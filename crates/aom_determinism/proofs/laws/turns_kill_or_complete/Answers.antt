use Rattle.aom_determinism.proofs.Turns.{turns_kill_or_complete as law}
use Rattle.aom_determinism.proofs.laws.turns_kill_or_complete.Goals as goal

pub returns : goal.returns
returns c = law
