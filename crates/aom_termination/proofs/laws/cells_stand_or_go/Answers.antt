use Rattle.aom_termination.proofs.Goings.{cells_stand_or_go as law}
use Rattle.aom_termination.proofs.laws.cells_stand_or_go.Goals as goal

pub returns : goal.returns
returns c = law
