use Rattle.std.proofs.Common.{rules}
use Rattle.aom_roles.proofs.shapes.is_error.Goals as goal

pub returns-then-is_nonempty_subset : goal.returns-then-is_nonempty_subset
returns-then-is_nonempty_subset c = search rules
