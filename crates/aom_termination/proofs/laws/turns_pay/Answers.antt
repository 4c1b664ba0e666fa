use Rattle.aom_termination.proofs.Turns.{turns_pay as law}
use Rattle.aom_termination.proofs.laws.turns_pay.Goals as goal

pub returns : goal.returns
returns c = law
