use Rattle.aom_safety.proofs.Soundness.{typed_is_sound as law}
use Rattle.aom_safety.proofs.laws.typed_is_sound.Goals as goal

pub returns : goal.returns
returns c = law
