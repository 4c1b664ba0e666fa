use Rattle.std.proofs.Common.{rules}
use Rattle.aom_image.specs.Roles.{role_number}
use Rattle.aom_image.proofs.method.Role.number.Goals as goal

pub returns-clause-value : goal.returns-clause-value
unfolding role_number
returns-clause-value c = search rules
