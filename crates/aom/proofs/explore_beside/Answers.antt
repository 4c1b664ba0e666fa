-- The limit is the one that was read.
use Rattle.std.proofs.Common.{rules}
use Rattle.aom.proofs.explore_beside.Goals as goal

pub explore_with-requires : goal.explore_with-requires
explore_with-requires g c = search rules
