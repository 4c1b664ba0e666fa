use Rattle.std.proofs.Common.{rules}
use Rattle.aom_roles.proofs.class_order.sessions_at.Goals as goal

pub returns : goal.returns
returns c = search rules
