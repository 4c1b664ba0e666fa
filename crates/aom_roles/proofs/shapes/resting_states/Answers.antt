use Rattle.std.proofs.Common.{rules}
use Rattle.aom_roles.proofs.shapes.resting_states.Goals as goal

pub returns : goal.returns
returns c = search rules
