use Rattle.std.proofs.Common.{rules}
use Rattle.aom_roles.proofs.class_order.owns_before.Goals as goal

pub returns-then-number-class : goal.returns-then-number-class
returns-then-number-class c = search rules
