use Rattle.std.proofs.Common.{rules}
use Rattle.aom_roles.proofs.shapes.flags_fit.Goals as goal

pub returns-else-not-gives_left : goal.returns-else-not-gives_left
returns-else-not-gives_left c = search rules

pub returns-then-not-gives_left : goal.returns-then-not-gives_left
returns-then-not-gives_left c = search rules
