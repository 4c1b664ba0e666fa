use Rattle.aom_safety.proofs.Signals.{signals_are_ready as law}
use Rattle.aom_safety.proofs.laws.signals_are_ready.Goals as goal

pub returns : goal.returns
returns c = law
