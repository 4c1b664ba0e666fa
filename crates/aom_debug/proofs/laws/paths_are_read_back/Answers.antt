use Rattle.aom_debug.proofs.ReadBack.{paths_read_back}
use Rattle.aom_debug.proofs.laws.paths_are_read_back.Goals as goal

pub returns : goal.returns
returns c = paths_read_back
