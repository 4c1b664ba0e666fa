use Rattle.aom_inheritance.proofs.Staying.{plain_images_stay as law}
use Rattle.aom_inheritance.proofs.laws.plain_images_stay.Goals as goal

pub returns : goal.returns
returns c = law
