use Rattle.std.proofs.Common.{rules}
use Rattle.aom_link_conditions.proofs.jumps.keeps_within.Goals as goal

pub returns-else-not-goes_on : goal.returns-else-not-goes_on
returns-else-not-goes_on c = search rules
