use Rattle.std.proofs.Common.{rules}
use Rattle.aom_roles.proofs.roles.same_role.Goals as goal

pub returns : goal.returns
returns c = search rules
