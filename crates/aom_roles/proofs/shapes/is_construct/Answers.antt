use Rattle.std.proofs.Common.{rules}
use Rattle.aom_roles.proofs.shapes.is_construct.Goals as goal

pub returns-else-same_states : goal.returns-else-same_states
returns-else-same_states c = search rules

pub returns-then-same_states : goal.returns-then-same_states
returns-then-same_states c = search rules
