use Rattle.aom_path_conflicts.proofs.Arriving.{arrive}
use Rattle.aom_path_conflicts.proofs.laws.conflicts_arrive.Goals as goal

pub returns : goal.returns
returns c = arrive
