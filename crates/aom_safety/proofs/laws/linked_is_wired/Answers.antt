use Rattle.aom_safety.proofs.Wiring.{linked_is_wired as law}
use Rattle.aom_safety.proofs.laws.linked_is_wired.Goals as goal

pub returns : goal.returns
returns c = law
